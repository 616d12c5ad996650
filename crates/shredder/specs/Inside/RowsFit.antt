-- What the shredder relies on.
use Rattle.std.specs.Prelude.{ℕ, ◌+◌, ◌≤◌, List, length}
use Rattle.meaning.specs.declared.Graph.{Graph}
use Rattle.meaning.specs.declared.Element.{Element}
use Rattle.meaning.specs.Limits.{element_limit}
use Rattle.meaning.specs.Graphs.{LegalGraph}
use Rattle.meaning.specs.Documents.{Accepted}
use Rattle.writing.specs.declared.Writer.{Writer}

-- the elements are accepted under the graph
pub record HeldUnder (g : Graph) (es : List Element) : Type 0 where
  pub legal : LegalGraph g
  pub accepted : Accepted element_limit g es

-- there are not too many elements, and there is room for the bytes that are to be written of them
pub record RowsFit (es : List Element) (bytes : List ℕ) (w : Writer) : Type 0 where
  pub most : length es ≤ element_limit
  pub room : w.at + length bytes ≤ length w.out.now
