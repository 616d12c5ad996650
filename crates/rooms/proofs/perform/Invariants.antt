-- Step by step the rooms hold one operation more.
use Rattle.meaning.specs.Limits.{small}
use Rattle.rooms.proofs.Performing.{Performed}
use Rattle.rooms.proofs.perform.Given as goal

abbrev pub invariant-loop-step : goal.invariant-loop-step
invariant-loop-step l = Performed small.row l.elements l.program l.fn.work l.work l.step-index
