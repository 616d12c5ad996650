-- The columns made so far are those of the elements so far.
use Rattle.std.proofs.Common.{◌+◌}
use Rattle.meaning.specs.Limits.{small}
use Rattle.rooms.proofs.Elements.{Tabling}
use Rattle.rooms.proofs.room.Room.table.Given as goal

abbrev pub invariant-loop-i : goal.invariant-loop-i
invariant-loop-i l = Tabling small.row l.initial.work l.work l.self.base l.elements l.mask (l.i + 1)
