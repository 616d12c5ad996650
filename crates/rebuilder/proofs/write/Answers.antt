-- Where there is room, header and tokens are written; they are the file, and its length fits.
use Rattle.std.proofs.Common.{arith, refl, rules}
use Rattle.rebuilder.proofs.Whole.{tokens_fit, length_fits, all_stored}
use Rattle.rebuilder.proofs.write.Goals as goal

pub write_tokens-requires : goal.write_tokens-requires
write_tokens-requires c = tokens_fit c.requires refl (omega arith) c.header.ensures

pub overflow_cast-result : goal.overflow_cast-result
overflow_cast-result c = record { fits = omega (arith, length_fits c.requires refl (omega arith) c.header.ensures c.write_tokens.ensures) }

pub returns : goal.returns
returns c = let stored = all_stored c.requires refl (omega arith) c.header.ensures c.write_tokens.ensures in search rules
