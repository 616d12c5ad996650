-- The set has the children of the kinds of c below this one.
use Rattle.std.proofs.Common.{◌≡◌}
use Rattle.meaning.specs.Limits.{kinds}
use Rattle.meaning.specs.Sets.{bit, mask}
use Rattle.meaning.specs.Graphs.{child_kind}
use Rattle.kinds.proofs.KindMasks.{image_upto}
use Rattle.kinds.proofs.children.Given as goal

abbrev pub invariant-loop-kind : goal.invariant-loop-kind
invariant-loop-kind l = bit l.found ≡ image_upto (λ A. mask kinds (child_kind l.g A)) l.c l.kind
