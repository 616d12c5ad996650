-- What the bits that are left take in, onto what is taken in already, is what all of them take in.
use Rattle.meaning.specs.Limits.{small}
use Rattle.rows.proofs.Gathers.{Gathering}
use Rattle.rows.proofs.Row.gather_word.Given as goal

abbrev pub invariant-loop-left : goal.invariant-loop-left
invariant-loop-left l = Gathering 64 small.row l.bytes l.at l.which l.fn.self.words l.left l.all.words

abbrev pub decreases-loop-left : goal.decreases-loop-left
decreases-loop-left l = l.left
