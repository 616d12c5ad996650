-- Each round adds one step more, as the definition does.
use Rattle.std.proofs.Common.{◌≡◌}
use Rattle.masks.specs.Announcement.{rel_of}
use Rattle.masks.proofs.Algebra.{leads}
use Rattle.masks.proofs.closure.Given as goal

abbrev pub invariant-loop : goal.invariant-loop
invariant-loop l = rel_of l.r ≡ leads l.a l.counter
