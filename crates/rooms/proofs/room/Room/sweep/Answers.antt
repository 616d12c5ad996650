-- One row more has taken in.
use Rattle.std.proofs.Common.{rules}
use Rattle.rooms.proofs.Closings.{sweeps_more}
use Rattle.rooms.proofs.room.Room.sweep.Goals as goal

pub loop-v-preserved : goal.loop-v-preserved
loop-v-preserved c = sweeps_more _ c.loop-v.invariant _ c.loop-v-test.true c.take_in-grew.ensures c.first.ensures c.is_some_and-back.ensures (λ w q. search rules)
