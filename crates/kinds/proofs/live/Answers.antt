-- The three sets are the three cases of the definition.
use Rattle.std.proofs.Common.{rules}
use Rattle.kinds.proofs.KindMasks.{live_all}
use Rattle.kinds.proofs.live.Goals as goal

pub returns : goal.returns
returns c = search (rules, live_all)
