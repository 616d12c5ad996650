-- The descent through a query: what is due at a place, and which steps are added to the program there.
use Rattle.std.specs.Prelude.{ℕ, ◌+◌, ◌^◌, ◌<◌, ◌≡◌, List, ◌++◌, length, drop}
use Rattle.meaning.specs.declared.Graph.{Graph}
use Rattle.meaning.specs.Limits.{kinds}
use Rattle.meaning.specs.Graphs.{LegalGraph}
use Rattle.meaning.specs.Queries.{XPath, Qualifier, path_count, qualifier_count, LegalPath, LegalQualifier}
use Rattle.meaning.specs.Translation as translation
use Rattle.meaning.specs.Translation.{Adds}
use Rattle.query.specs.Qry.{path_bytes, qualifier_bytes}
use Rattle.steps.specs.declared.Place.{Place}
use Rattle.steps.specs.Inside.Writes.{Goes, StepsFit}

-- the descent begins behind the query's header, at the document node
abbrev pub start : Place
start = record { kinds = 0x10000; at = 5; steps = 0 }

-- A part of a query, which is legal where there are k types: its bytes, its steps, how many these are, and the kinds behind it.
pub data Part (k : ℕ) : Type 0 where
  path : (p : XPath) → LegalPath k p → Part k
  qualifier : (q : Qualifier) → LegalQualifier k q → Part k

abbrev pub bytes_of : {k : ℕ} → Part k → List ℕ
bytes_of (path p h) = path_bytes p
bytes_of (qualifier q h) = qualifier_bytes q

abbrev pub adds : {k : ℕ} → Graph → ℕ → Part k → Adds
adds g C (path p h) = translation.path g C p
adds g C (qualifier q h) = translation.qualifier g C q

abbrev pub weight : {k : ℕ} → Part k → ℕ
weight (path p h) = path_count 5 1 p
weight (qualifier q h) = qualifier_count 5 1 q

-- a qualifier stays where it is
abbrev pub kinds_behind : {k : ℕ} → Graph → ℕ → Part k → ℕ
kinds_behind g C (path p h) = translation.out g C p
kinds_behind g C (qualifier q h) = C

-- a part stands where the descent is, and its steps may be added
pub record Due (g : Graph) (s : List ℕ) (room : ℕ) (from : Place) : Type 0 where
  pub graph : LegalGraph g
  pub short : length s < 128
  pub kinds : from.kinds < 2 ^ kinds
  pub part : Part g.k
  pub rest : List ℕ
  pub stands : drop from.at s ≡ bytes_of part ++ rest
  pub enough : StepsFit (weight part) room from.steps

-- whichever part was due is translated
pub record Done (g : Graph) (s old new : List ℕ) (from to : Place) : Type 0 where
  pub done : (d : Due g s (length old) from) → let C = from.kinds in let p = d.part in
      Goes (adds g C p) (weight p) (kinds_behind g C p) (from.at + length (bytes_of p)) old new from.steps to
