-- Where header, k and the tables are written, they are the file, and its length fits.
use Rattle.std.proofs.Common.{arith, rules, refl}
use Rattle.shredder.proofs.Whole.{tables_fit, length_fits, all_stored}
use Rattle.shredder.proofs.write.Goals as goal

pub write_tables-requires : goal.write_tables-requires
write_tables-requires c = tables_fit c.requires refl (omega arith) c.header.ensures c.byte.ensures

pub overflow_cast-result : goal.overflow_cast-result
overflow_cast-result c = record { fits = omega (arith, length_fits c.requires refl (omega arith) c.header.ensures c.byte.ensures c.write_tables.ensures) }

pub returns : goal.returns
returns c =
    let stored = all_stored c.requires refl (omega arith) c.header.ensures c.byte.ensures c.write_tables.ensures in
    search rules
