-- A sweep that leaves the room closed shows that all steps are in, and size steps always are.
use Rattle.rooms.proofs.Closings.{closes_one, closes_more, closes_all, closes_still}
use Rattle.rooms.proofs.room.Room.closure.Goals as goal

pub loop-init : goal.loop-init
loop-init c = closes_one _ c.requires c.mix.ensures

pub returns-then-not-sweep : goal.returns-then-not-sweep
returns-then-not-sweep c = closes_still _ c.requires c.mix.ensures c.loop.invariant c.sweep.ensures c.if-not-sweep.true

pub loop-preserved : goal.loop-preserved
loop-preserved c = closes_more _ c.loop.invariant c.sweep.ensures c.loop-test.true

pub returns : goal.returns
returns c = closes_all _ c.requires c.mix.ensures c.loop.invariant c.loop-test.false
