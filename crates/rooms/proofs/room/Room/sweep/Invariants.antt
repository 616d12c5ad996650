-- The rows from v on have taken in, and whether one grew and one points back is known of them.
use Rattle.meaning.specs.Limits.{small}
use Rattle.rooms.proofs.Closings.{Sweeps}
use Rattle.rooms.proofs.room.Room.sweep.Given as goal

abbrev pub invariant-loop-v : goal.invariant-loop-v
invariant-loop-v l = Sweeps small.row l.initial.work l.work l.self.base l.a.base l.size l.v-counter l.grew l.back
