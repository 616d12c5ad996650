-- What running asks of what was read. All of it holds of every accepted document and every legal program.
use Rattle.std.specs.Prelude.{ℕ, ◌<◌, ◌≤◌, ◌≡◌, true, List, length}
use Rattle.meaning.specs.declared.Element.{Element}
use Rattle.meaning.specs.declared.Program.{Program}
use Rattle.meaning.specs.Limits.{types, element_limit, step_limit}
use Rattle.meaning.specs.Documents.{is_element, view}
use Rattle.meaning.specs.Operations.{LegalProgram}
use Rattle.meaning.specs.Inside.Records.{operations_in, Numbered}

-- the elements are few enough, a parent is a node, and an element's kind a type
pub record Nodes (es : List Element) : Type 0 where
  pub few : length es ≤ element_limit
  pub parents : (w : ℕ) → is_element (view es) w ≡ true → (view es).there ((view es).parent w) ≡ true
  pub kinds : (w : ℕ) → is_element (view es) w ≡ true → (view es).kind w < types

-- the program holds as many steps as it counts, and they are legal
pub record FitToRun (es : List Element) (program : Program) : Type 0 where
  pub nodes : Nodes es
  pub whole : length (operations_in program) ≡ program.count
  pub numbered : Numbered program
  pub k : ℕ
  pub legal : LegalProgram step_limit k (operations_in program)
