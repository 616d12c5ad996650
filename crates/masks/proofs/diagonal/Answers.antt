-- Row by row.
use Rattle.std.proofs.Common.{rules}
use Rattle.masks.proofs.Algebra.{diagonal_from, diagonal_row}
use Rattle.masks.proofs.Rows.{rows_made}
use Rattle.masks.proofs.diagonal.Goals as goal

pub returns : goal.returns
returns c = rows_made _ _ (diagonal_from c.args.set c.requires) (λ A row q l k. search (diagonal_row, rules)) _ c.from_fn.ensures.items
