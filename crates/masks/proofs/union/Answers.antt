-- Row by row.
use Rattle.std.proofs.Common.{rules}
use Rattle.masks.proofs.Algebra.{union_from, union_row}
use Rattle.masks.proofs.Rows.{rows_made}
use Rattle.masks.proofs.union.Goals as goal

pub returns : goal.returns
returns c =
    rows_made _ _ (union_from c.args.a.now c.args.b.now (search rules) (search rules)) (λ A row q l k. search (union_row, rules)) _ c.from_fn.ensures.items
