-- The header, the number of steps, and the steps are the program's file.
use Rattle.translator.proofs.Translations.{start_due, written_all}
use Rattle.translator.proofs.written.Goals as goal

pub query-requires : goal.query-requires
query-requires c = start_due _ c.requires c.write_head.ensures

pub returns : goal.returns
returns c = rw c.from.ensures (written_all _ c.requires c.write_head.ensures c.query.ensures)
