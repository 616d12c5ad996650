-- As many steps are in as sweeps were begun.
use Rattle.meaning.specs.Limits.{small}
use Rattle.rooms.proofs.Closings.{Closes}
use Rattle.rooms.proofs.room.Room.closure.Given as goal

abbrev pub invariant-loop : goal.invariant-loop
invariant-loop l = Closes small.row l.initial.work l.work l.self.base l.a.base l.size l.counter
