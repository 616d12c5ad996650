-- What the parts of a call hand to each other.
use Rattle.std.specs.Prelude.{ℕ, ◌<◌, ◌≤◌, ◌≡◌, List, length, take}
use Rattle.meaning.specs.declared.Element.{Element}
use Rattle.meaning.specs.declared.Graph.{Graph}
use Rattle.meaning.specs.declared.Operation.{Operation}
use Rattle.meaning.specs.declared.Program.{Program}
use Rattle.meaning.specs.Limits.{words, step_limit}
use Rattle.meaning.specs.Documents.{view}
use Rattle.meaning.specs.Queries.{selected}
use Rattle.meaning.specs.Operations.{LegalProgram, answer}
use Rattle.meaning.specs.Inside.Records.{operations_in, Numbered}
use Rattle.files.specs.declared.Runnable.{Runnable}
use Rattle.rooms.specs.Inside.FitToRun.{FitToRun}
use Rattle.trammelbud.specs.Calls.{Asked}

-- the program of a query that was accepted
pub record Translated (g : Graph) (program : Program) (os : List Operation) : Type 0 where
  pub steps : os ≡ operations_in program
  pub lawful : LegalProgram step_limit g.k (operations_in program)
  pub whole : length (operations_in program) ≡ program.count
  pub numbered : Numbered program

-- what is asked for can be run over the elements that are kept: the nodes that its program selects are those of the path
pub record Planned (kept : List Element) (plan : Runnable) (a : Asked) : Type 0 where
  pub room : plan.count ≤ length kept
  pub shown : a.view ≡ view (take plan.count kept)
  pub steps : a.program ≡ operations_in plan.program
  pub right : answer a.view a.program ≡ selected a.view a.path
  pub ready : FitToRun (take plan.count kept) plan.program
  pub texts : (v : ℕ) → (view (take plan.count kept)).text v < words
