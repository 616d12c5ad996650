-- The rows of the elements so far are written, and those of the others are still to come.
use Rattle.writing.proofs.Toward.{Toward}
use Rattle.shredder.proofs.Rows.{rows_after}
use Rattle.shredder.proofs.write_rows.Given as goal

abbrev pub invariant-loop-i : goal.invariant-loop-i
invariant-loop-i l = Toward (rows_after l.t l.elements 0) l.fn.w (rows_after l.t l.elements l.i) l.w
