-- Row by row: the children of a kind, if it is live, that are in the mask.
use Rattle.std.proofs.Common.{rules}
use Rattle.masks.proofs.Operations.{table_from, table_row}
use Rattle.masks.proofs.Rows.{rows_made}
use Rattle.masks.proofs.table.Goals as goal

pub returns : goal.returns
returns c = rows_made _ _ (table_from c.args.g c.requires c.args.mask) (λ A row q l k. search (table_row, rules)) _ c.from_fn.ensures.items
