-- What the code's answers say of the files that were read.
use Rattle.std.specs.Prelude.{ℕ, ◌-◌, ◌≤◌, ◌≡◌, List, length, take, Result, Ok, Err}
use Rattle.meaning.specs.declared.Element.{Element}
use Rattle.meaning.specs.declared.Graph.{Graph}
use Rattle.meaning.specs.declared.Operation.{Operation}
use Rattle.meaning.specs.declared.Refusal.{Refusal}
use Rattle.meaning.specs.Limits.{element_limit, query_limit, step_limit}
use Rattle.meaning.specs.Graphs.{LegalGraph}
use Rattle.meaning.specs.Documents.{Accepted}
use Rattle.meaning.specs.Queries.{XPath}
use Rattle.meaning.specs.Operations.{LegalProgram}
use Rattle.meaning.specs.Inside.Records.{operations_in, Numbered}
use Rattle.fields.specs.Read.{Read, got, refused}
use Rattle.meaning.specs.declared.Program.{Program}
use Rattle.files.specs.declared.Under.{Under}
use Rattle.files.specs.declared.Runnable.{Runnable}

-- e was refused so, or what is handed on of what was read has P with it
abbrev pub Opens : {A V : Type 0} → Read A → Result V Refusal → (V → A → Type 0) → Type 0
Opens {A} e (Ok v) P = (a : A) × (n : ℕ) × (e ≡ got a n) × P v a
Opens e (Err r) P = e ≡ refused r

-- a graph that is legal, and elements that are accepted under it, the first that are kept
pub record OfElements (kept : List Element) (o : Under ℕ) (x : Graph × List Element) : Type 0 where
  pub graph : x.0 ≡ o.graph
  pub elements : x.1 ≡ take o.read kept
  pub legal : LegalGraph o.graph
  pub accepted : Accepted element_limit o.graph (take o.read kept)
  pub whole : length (take o.read kept) ≡ o.read
  pub room : o.read ≤ length kept

-- a query's nodes are counted
pub record OfQuery (o : Under ℕ) (x : Graph × (XPath × ℕ)) : Type 0 where
  pub graph : x.0 ≡ o.graph
  pub legal : LegalGraph o.graph
  pub counts : o.read ≡ query_limit - x.1.1

-- the steps are a legal program, each with its place as its number
pub record OfProgram (o : Under Program) (x : Graph × List Operation) : Type 0 where
  pub graph : x.0 ≡ o.graph
  pub steps : x.1 ≡ operations_in o.read
  pub legal : LegalGraph o.graph
  pub lawful : LegalProgram step_limit o.graph.k (operations_in o.read)
  pub whole : length (operations_in o.read) ≡ o.read.count
  pub numbered : Numbered o.read

abbrev pub OfTablesThenQuery : List Element → Under ℕ → Graph × (List Element × (XPath × ℕ)) → Type 0
OfTablesThenQuery kept o x = OfElements kept o (x.0, x.1.0)

pub record OfTablesThenProgram (kept : List Element) (o : Runnable) (x : Graph × (List Element × List Operation)) : Type 0 where
  pub elements : OfElements kept (record { graph = x.0; read = o.count }) (x.0, x.1.0)
  pub steps : OfProgram (record { graph = x.0; read = o.program }) (x.0, x.1.1)
