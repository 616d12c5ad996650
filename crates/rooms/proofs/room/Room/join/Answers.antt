-- Only a number from which there is a row leads anywhere.
use Rattle.rooms.proofs.Turns.{join_made}
use Rattle.rooms.proofs.room.Room.join.Goals as goal

pub returns : goal.returns
returns c = join_made _ _ _ _ c.requires c.starts-there.ensures c.combine.ensures
