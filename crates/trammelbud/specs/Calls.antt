-- What each public call answers, for all bytes.
use Rattle.std.specs.Prelude.{ℕ, ◌-◌, List, length}
use Rattle.meaning.specs.declared.Answer.{Answer}
use Rattle.meaning.specs.declared.Element.{Element}
use Rattle.meaning.specs.declared.Graph.{Graph}
use Rattle.meaning.specs.declared.Operation.{Operation}
use Rattle.meaning.specs.Limits.{query_limit}
use Rattle.meaning.specs.Documents.{View, view}
use Rattle.meaning.specs.Queries.{XPath, selected}
use Rattle.fields.specs.Read.{Read, got, refused, bind, mapped}
use Rattle.writing.specs.Lent.{accepted, turned_away}
use Rattle.graph.specs.Gra.{graph_file}
use Rattle.files.specs.Files.{document_under, tables_under, query_under, program_under, tables_then_query}
use Rattle.rooms.specs.Run.{Ran, both_untouched, leaves}
use Rattle.translator.specs.Translate.{bounded_program}
use Rattle.text.specs.Listing.{listing, listing_room}

-- accepted: 0 and what the file counts; refused: the number of the reason and 0
unfoldable pub answer_of : Read ℕ → Answer
answer_of (got n at) = accepted n
answer_of (refused r) = turned_away r

-- what each file counts: types, elements, elements, query nodes, steps
unfoldable pub read_graph : List ℕ → Answer
read_graph gra = answer_of (mapped (λ g. g.k) (graph_file gra 0))

unfoldable pub read_document : List ℕ → List ℕ → Answer
read_document gra tre = answer_of (mapped (λ x. length x.1) (document_under gra tre))

unfoldable pub read_tables : List ℕ → List ℕ → Answer
read_tables gra edg = answer_of (mapped (λ x. length x.1) (tables_under gra edg))

unfoldable pub read_query : List ℕ → List ℕ → Answer
read_query gra qry = answer_of (mapped (λ x. query_limit - x.1.1) (query_under gra qry))

unfoldable pub read_program : List ℕ → List ℕ → Answer
read_program gra rel = answer_of (mapped (λ x. length x.1) (program_under gra rel))

-- what a query asks for: what the document shows, the path, and its program
pub record Asked : Type 0 where
  pub view : View
  pub path : XPath
  pub program : List Operation

-- the steps are counted when all files are read
abbrev pub asking : Graph × (List Element × (XPath × ℕ)) → ℕ → Read Asked
asking (g, (es, (p, left))) at = mapped (λ os. record { view = view es; path = p; program = os }) (bounded_program g p at)

unfoldable pub asked : List ℕ → List ℕ → List ℕ → Read Asked
asked gra edg qry = bind (tables_then_query gra edg qry) asking

unfoldable pub asked_or : (Asked → List ℕ → List ℕ → Ran) → Read Asked → List ℕ → List ℕ → Ran
asked_or f (got a at) out work = f a out work
asked_or f (refused r) out work = both_untouched r out work

-- the nodes that the path selects, and in the work area its program's steps; n+1 bytes are asked for the nodes
unfoldable pub chosen : Asked → List ℕ → List ℕ → Ran
chosen a = leaves a.view.size (selected a.view a.path) a.view a.program

unfoldable pub select_of : List ℕ → List ℕ → List ℕ → List ℕ → List ℕ → Ran
select_of gra edg qry = asked_or chosen (asked gra edg qry)

-- the listing of these nodes; 13(n+2) bytes are asked for it
abbrev pub lists : View → List ℕ → List Operation → List ℕ → List ℕ → Ran
lists d nodes os = leaves (listing_room d.size) (listing d nodes) d os

unfoldable pub told : Asked → List ℕ → List ℕ → Ran
told a = lists a.view (selected a.view a.path) a.program

unfoldable pub list_of : List ℕ → List ℕ → List ℕ → List ℕ → List ℕ → Ran
list_of gra edg qry = asked_or told (asked gra edg qry)
