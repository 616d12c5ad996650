-- The bit is put at its place, and the others stay.
use Rattle.rooms.proofs.Rooms.{row_put}
use Rattle.rooms.proofs.room.Room.put.Goals as goal

pub returns : goal.returns
returns c = row_put _ c.place.ensures c.requires.0 c.requires.2 c.put.ensures
