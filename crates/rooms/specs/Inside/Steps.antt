-- A step of a program: what its making asks, and what it finds of the steps before it.
use Rattle.std.specs.Prelude.{ℕ, ◌+◌, ◌*◌, ◌<◌, ◌≤◌, ◌≡◌, true, List, length}
use Rattle.meaning.specs.declared.Element.{Element}
use Rattle.meaning.specs.declared.Operation.{Operation}
use Rattle.meaning.specs.Limits.{room_bytes, step_limit}
use Rattle.meaning.specs.Lists.{table}
use Rattle.meaning.specs.Relations.{Relation}
use Rattle.meaning.specs.Documents.{view}
use Rattle.meaning.specs.Operations.{LegalOperation}
use Rattle.rows.specs.Inside.Rows.{rows_at}
use Rattle.rooms.specs.Inside.FitToRun.{Nodes}
use Rattle.rooms.specs.Inside.Rooms.{RowWidth}

-- the relations of the first n rooms of the work area
unfoldable pub rooms_in : ℕ → List ℕ → ℕ → List Relation
rooms_in width bytes n = table (λ s. rows_at width bytes (room_bytes width * s)) 0 n

-- its operands are earlier steps, its room is inside the work area, and earlier rooms relate nodes
pub record Makeable (width : ℕ) (es : List Element) (bytes : List ℕ) (s : ℕ) (operation : Operation) : Type 0 where
  pub sized : RowWidth width
  pub nodes : Nodes es
  pub k : ℕ
  pub legal : LegalOperation k s operation
  pub few : s < step_limit
  pub room : room_bytes width * s + room_bytes width ≤ length bytes
  pub on : (i : ℕ) → i < s → (v w : ℕ) → rows_at width bytes (room_bytes width * i) v w ≡ true → (v < (view es).size) × (w < (view es).size)
