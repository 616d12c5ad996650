-- The row stands at its place.
use Rattle.std.proofs.Common.{refl}
use Rattle.rooms.proofs.Rooms.{row_got}
use Rattle.rooms.proofs.room.Room.read.Goals as goal

pub returns : goal.returns
returns c = row_got _ c.place.ensures _ refl c.read.ensures
