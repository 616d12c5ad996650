-- Each word is mixed, so each bit is.
use Rattle.std.proofs.Common.{rules, refl}
use Rattle.rows.proofs.Bits.{digit}
use Rattle.rows.proofs.Gathers.{row_mixed}
use Rattle.rows.proofs.Row.mixed.Goals as goal

pub returns : goal.returns
returns c = row_mixed 2 _ _ _ (digit _ c.mixed_word.ensures c.mixed_word-2.ensures) refl (search rules) (search rules)
