-- The tokens up to the last element's open are written, and those behind it are still to come.
use Rattle.writing.proofs.Toward.{Toward}
use Rattle.rebuilder.specs.Inside.TokensFit.{tokens_in}
use Rattle.rebuilder.proofs.Tokens.{tokens_after}
use Rattle.rebuilder.proofs.write_tokens.Given as goal

abbrev pub invariant-loop-last : goal.invariant-loop-last
invariant-loop-last l = Toward (tokens_in l.elements) l.fn.w (tokens_after l.elements l.last) l.w
