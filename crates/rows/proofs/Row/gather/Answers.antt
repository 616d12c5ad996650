-- The rows of the first 64 and then of the others are taken in, each by its word.
use Rattle.std.proofs.Common.{refl, arith}
use Rattle.rows.proofs.Gathers.{gathered_nothing, gathered_word}
use Rattle.rows.proofs.Row.gather.Goals as goal

pub returns : goal.returns
returns c =
    gathered_word _ _ _ _ _ 1 (omega arith) refl
    (gathered_word _ _ _ _ _ 0 (omega arith) (omega arith) (gathered_nothing _ _ _ _ _ (record { bits = λ w. refl })) c.gather_word-first.ensures)
    c.gather_word.ensures
