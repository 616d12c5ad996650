-- The numbers so far that pass are put in.
use Rattle.meaning.specs.Limits.{small}
use Rattle.rooms.proofs.Elements.{Testing}
use Rattle.rooms.proofs.room.Room.diagonal.Given as goal

abbrev pub invariant-loop-v : goal.invariant-loop-v
invariant-loop-v l = Testing small.row l.initial.work l.work l.self.base l.elements l.test l.v
