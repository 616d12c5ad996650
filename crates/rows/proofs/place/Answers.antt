-- The row ends inside its room.
use Rattle.rows.proofs.Rows.{row_placed}
use Rattle.rows.proofs.place.Goals as goal

pub returns : goal.returns
returns c = row_placed _ _ _ c.requires.0
