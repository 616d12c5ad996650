-- Each number is put into its own row, where it passes.
use Rattle.std.proofs.Common.{arith}
use Rattle.rooms.proofs.Elements.{testing_none, testing_more, testing_all}
use Rattle.rooms.proofs.room.Room.diagonal.Goals as goal

pub loop-v-init : goal.loop-v-init
loop-v-init c = testing_none _ c.requires.0 c.requires.1 c.clear.ensures

pub loop-v-preserved : goal.loop-v-preserved
loop-v-preserved c = testing_more _ c.loop-v.invariant (omega arith) c.passes-there.ensures c.put.ensures

pub returns : goal.returns
returns c = testing_all _ c.loop-v.invariant (omega arith) c.requires.0 c.clear.ensures
