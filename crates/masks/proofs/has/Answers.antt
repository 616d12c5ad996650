-- Row by row.
use Rattle.std.proofs.Common.{rules}
use Rattle.masks.proofs.Algebra.{has_from, has_none, has_some}
use Rattle.masks.proofs.Rows.{rows_made}
use Rattle.masks.proofs.has.Goals as goal

pub returns : goal.returns
returns c = rows_made _ _ (has_from c.args.a.now (search rules)) (λ A row q l k. search (has_none, has_some, rules)) _ c.from_fn.ensures.items
