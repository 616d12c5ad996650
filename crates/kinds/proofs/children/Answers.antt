-- After the last kind these are the children of all of them.
use Rattle.std.proofs.Common.{arith}
use Rattle.kinds.proofs.KindMasks.{image_all}
use Rattle.kinds.proofs.children.Goals as goal

pub returns : goal.returns
returns c = image_all _ _ _ _ (omega arith) c.loop-kind.invariant
