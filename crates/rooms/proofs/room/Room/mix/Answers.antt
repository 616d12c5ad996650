-- Each row is mixed.
use Rattle.rooms.proofs.Turns.{mix_made}
use Rattle.rooms.proofs.room.Room.mix.Goals as goal

pub returns : goal.returns
returns c = mix_made _ _ _ _ _ _ c.combine.ensures
