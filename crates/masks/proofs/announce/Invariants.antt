-- The steps before this one are announced, the others empty.
use Rattle.std.proofs.Common.{◌≡◌}
use Rattle.masks.specs.Announcement.{announcement}
use Rattle.masks.proofs.Loop.{first}
use Rattle.masks.proofs.announce.Given as goal

abbrev pub invariant-loop-step : goal.invariant-loop-step
invariant-loop-step l = l.steps ≡ announcement l.g (first l.p l.step-index)
