-- Row by row.
use Rattle.std.proofs.Common.{rules}
use Rattle.masks.proofs.Algebra.{joined_from, joined_row}
use Rattle.masks.proofs.Rows.{rows_made}
use Rattle.masks.proofs.joined.Goals as goal

pub returns : goal.returns
returns c = rows_made _ _ (joined_from c.args.a.now c.args.b.now (search rules)) (λ A row q l k. search (joined_row, rules)) _ c.from_fn.ensures.items
