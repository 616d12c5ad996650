-- After n rounds the set holds what one to n edges lead to.
use Rattle.std.proofs.Common.{◌≡◌}
use Rattle.meaning.specs.Graphs.{child_kind}
use Rattle.kinds.proofs.KindMasks.{rounds}
use Rattle.kinds.proofs.reachable.Given as goal

abbrev pub invariant-loop : goal.invariant-loop
invariant-loop l = l.reached ≡ rounds (child_kind l.g) l.c l.counter
