-- The files of a call: the graph is read first, then the others under it, and the first refusal met is the call's.
use Rattle.std.specs.Prelude.{ℕ, List}
use Rattle.meaning.specs.declared.Element.{Element}
use Rattle.meaning.specs.declared.Graph.{Graph}
use Rattle.meaning.specs.declared.Operation.{Operation}
use Rattle.meaning.specs.Limits.{element_limit}
use Rattle.meaning.specs.Queries.{XPath}
use Rattle.fields.specs.Read.{Read, got, bind}
use Rattle.graph.specs.Gra.{graph_file}
use Rattle.tre.specs.Tre.{document_file}
use Rattle.edg.specs.Edg.{tables_file}
use Rattle.query.specs.Qry.{query_file}
use Rattle.rel.specs.Rel.{program_file}

-- a graph, and what is read under it
unfoldable pub under : {A : Type 0} → List ℕ → (Graph → Read A) → Read (Graph × A)
under gra f = bind (graph_file gra 0) λ g _. bind (f g) λ a n. got (g, a) n

-- one file, then another
unfoldable pub followed_by : {A B : Type 0} → Read A → Read B → Read (A × B)
followed_by x y = bind x λ a _. bind y λ b n. got (a, b) n

-- a graph and a document, tables, a query, a program
abbrev pub document_under : List ℕ → List ℕ → Read (Graph × List Element)
document_under gra tre = under gra λ g. document_file element_limit g tre 0

abbrev pub tables_under : List ℕ → List ℕ → Read (Graph × List Element)
tables_under gra edg = under gra λ g. tables_file element_limit g edg 0

-- a query beside how many nodes it leaves of those allowed
abbrev pub query_under : List ℕ → List ℕ → Read (Graph × (XPath × ℕ))
query_under gra qry = under gra λ g. query_file g.k qry 0

abbrev pub program_under : List ℕ → List ℕ → Read (Graph × List Operation)
program_under gra rel = under gra λ g. program_file g.k rel 0

-- tables and then a query, tables and then a program
abbrev pub tables_then_query : List ℕ → List ℕ → List ℕ → Read (Graph × (List Element × (XPath × ℕ)))
tables_then_query gra edg qry = under gra λ g. followed_by (tables_file element_limit g edg 0) (query_file g.k qry 0)

abbrev pub tables_then_program : List ℕ → List ℕ → List ℕ → Read (Graph × (List Element × List Operation))
tables_then_program gra edg rel = under gra λ g. followed_by (tables_file element_limit g edg 0) (program_file g.k rel 0)
