-- A step's operands are made, and so its room holds its rows; after the last every byte is as the layout says.
use Rattle.std.proofs.Common.{refl}
use Rattle.rooms.proofs.Performing.{performed_none, makeable, performed_more, performed_all}
use Rattle.rooms.proofs.perform.Goals as goal

pub loop-step-init : goal.loop-step-init
loop-step-init c = performed_none c.type_inv.work

pub make-requires : goal.make-requires
make-requires c = makeable _ refl c.requires.0 c.loop-step.invariant c.loop-step-test.true c.requires.1

pub loop-step-preserved : goal.loop-step-preserved
loop-step-preserved c = performed_more _ refl c.requires.0 c.loop-step.invariant c.loop-step-test.true c.requires.1 c.make.ensures c.type_inv.work

pub returns : goal.returns
returns c = performed_all refl c.requires.0 c.loop-step.invariant c.loop-step-test.false c.requires.1
