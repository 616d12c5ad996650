-- The lines of the nodes so far are written, and those of the others are still to come.
use Rattle.meaning.specs.Documents.{view}
use Rattle.text.proofs.LineLaws.{lines_after}
use Rattle.writing.proofs.Toward.{Toward}
use Rattle.text.proofs.lines.Given as goal

abbrev pub invariant-loop-v : goal.invariant-loop-v
invariant-loop-v l = Toward (lines_after (view l.elements) l.nodes 0) l.fn.w (lines_after (view l.elements) l.nodes l.v-index) l.w
