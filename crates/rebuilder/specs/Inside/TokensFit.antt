-- What the rebuilder relies on, and what its functions write.
use Rattle.std.specs.Prelude.{ℕ, suc, ◌+◌, ◌≤◌, List, length}
use Rattle.meaning.specs.declared.Graph.{Graph}
use Rattle.meaning.specs.declared.Element.{Element}
use Rattle.meaning.specs.Limits.{element_limit}
use Rattle.meaning.specs.Documents.{node, Accepted}
use Rattle.tre.specs.Tre.{closes, tokens_of}
use Rattle.writing.specs.declared.Writer.{Writer}

-- the elements are accepted under some graph
pub record Held (es : List Element) : Type 0 where
  pub graph : Graph
  pub accepted : Accepted element_limit graph es

-- the closes between element a and the one that follows it
abbrev pub closes_after : List Element → ℕ → List ℕ
closes_after es a = closes (length es) es a (node es (suc a)).parent

-- the tokens of all
abbrev pub tokens_in : List Element → List ℕ
tokens_in es = tokens_of es 0 (length es)

-- there is room for the bytes that are to be written of the elements
pub record TokensFit (es : List Element) (bytes : List ℕ) (w : Writer) : Type 0 where
  pub held : Held es
  pub room : w.at + length bytes ≤ length w.out.now
