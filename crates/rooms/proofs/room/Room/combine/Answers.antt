-- Each row is made of its two rows, which stay.
use Rattle.rooms.proofs.Turns.{combining_none, combining_more, combining_all}
use Rattle.rooms.proofs.room.Room.combine.Goals as goal

pub loop-v-init : goal.loop-v-init
loop-v-init c = combining_none _ c.requires c.clear.ensures

pub loop-v-preserved : goal.loop-v-preserved
loop-v-preserved c = combining_more _ c.loop-v.invariant c.loop-v-test.true c.row-made.ensures c.write.ensures

pub returns : goal.returns
returns c = combining_all _ c.loop-v.invariant c.loop-v-test.false c.requires c.clear.ensures
