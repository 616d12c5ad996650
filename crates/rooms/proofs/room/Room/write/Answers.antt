-- The row is written at its place, and the others stay.
use Rattle.std.proofs.Common.{refl}
use Rattle.rooms.proofs.Rooms.{row_written}
use Rattle.rooms.proofs.room.Room.write.Goals as goal

pub returns : goal.returns
returns c = row_written _ c.place.ensures c.requires.0 refl c.write.ensures
