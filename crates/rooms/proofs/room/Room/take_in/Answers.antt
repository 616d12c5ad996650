-- The row is gathered from the rooms as they stand, and it grew where it has more than before.
use Rattle.rooms.proofs.Closings.{row_taken}
use Rattle.rooms.proofs.room.Room.take_in.Goals as goal

pub returns : goal.returns
returns c = rw c.is_some.ensures (row_taken _ _ c.requires.0 c.read-before.ensures c.read.ensures c.gather-after.ensures c.write.ensures c.mixed.ensures c.next.ensures)
