-- Row by row.
use Rattle.std.proofs.Common.{rules}
use Rattle.masks.proofs.Algebra.{both_from, both_row}
use Rattle.masks.proofs.Rows.{rows_made}
use Rattle.masks.proofs.both.Goals as goal

pub returns : goal.returns
returns c = rows_made _ _ (both_from c.args.a.now c.args.b.now (search rules)) (λ A row q l k. search (both_row, rules)) _ c.from_fn.ensures.items
