-- A number that is no kind has no bit.
use Rattle.std.proofs.Common.{arith}
use Rattle.kinds.proofs.KindMasks.{single_none}
use Rattle.kinds.proofs.single.Goals as goal

pub returns-else-kind-lt-KINDS : goal.returns-else-kind-lt-KINDS
returns-else-kind-lt-KINDS c = single_none c.args.kind (omega arith)
