-- No word has a bit.
use Rattle.rows.proofs.Rows.{row_blank}
use Rattle.rows.proofs.Row.empty.Goals as goal

pub returns : goal.returns
returns c = row_blank 2
