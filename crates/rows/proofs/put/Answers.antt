-- One bit more in its byte, or none.
use Rattle.rows.proofs.Rows.{put_none, put_one}
use Rattle.std.proofs.Common.{refl}
use Rattle.rows.proofs.put.Goals as goal

pub returns-then-there : goal.returns-then-there
returns-then-there c = record { row = λ width l r. put_one width _ _ _ _ c.if-there.true l r refl }

pub returns-else-there : goal.returns-else-there
returns-else-there c = record { row = λ width l r. put_none width _ _ _ _ c.if-there.false }
