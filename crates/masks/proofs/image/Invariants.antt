-- Kind by kind the rows of the set are added.
use Rattle.std.proofs.Common.{◌≡◌, get_or}
use Rattle.meaning.specs.Sets.{bit}
use Rattle.kinds.proofs.KindMasks.{image_upto}
use Rattle.masks.proofs.image.Given as goal

abbrev pub invariant-loop-kind : goal.invariant-loop-kind
invariant-loop-kind l = bit l.found ≡ image_upto (λ K. get_or l.a.pairs K 0) l.set l.kind
