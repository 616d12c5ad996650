-- A number is put in where its row has a first number.
use Rattle.rooms.proofs.Turns.{starts_none, starts_more}
use Rattle.rooms.proofs.room.Room.starts.Goals as goal

pub loop-v-init : goal.loop-v-init
loop-v-init c = starts_none _ _ c.empty-all.ensures

pub loop-v-preserved : goal.loop-v-preserved
loop-v-preserved c = starts_more _ _ _ _ c.loop-v.invariant c.first.ensures (rw c.is_some.ensures at c.with-all.ensures)
