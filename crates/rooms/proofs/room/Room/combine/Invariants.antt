-- Each row made so far is combined of its two rows.
use Rattle.meaning.specs.Limits.{small}
use Rattle.rooms.proofs.Turns.{Combining}
use Rattle.rooms.proofs.room.Room.combine.Given as goal

abbrev pub invariant-loop-v : goal.invariant-loop-v
invariant-loop-v l = Combining small.row l.initial.work l.work l.self.base l.a.base l.b.base l.size l.way l.v
