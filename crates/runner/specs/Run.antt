-- A run: judged the graph, the tables, the program, then the room.
use Rattle.std.specs.Prelude.{ℕ, List}
use Rattle.meaning.specs.declared.Element.{Element}
use Rattle.meaning.specs.declared.Graph.{Graph}
use Rattle.meaning.specs.declared.Operation.{Operation}
use Rattle.meaning.specs.Documents.{View, view}
use Rattle.fields.specs.Read.{Read, got, refused, mapped}
use Rattle.files.specs.Files.{tables_then_program}
use Rattle.rooms.specs.Run.{Ran, both_untouched, performed}

-- the view and the program, if nothing was turned away before
unfoldable pub ran : Read (View × List Operation) → List ℕ → List ℕ → Ran
ran (got (d, os) at) out work = performed d os out work
ran (refused r) out work = both_untouched r out work

-- what a document shows, and the program over it
abbrev pub to_run : Graph × (List Element × List Operation) → View × List Operation
to_run (g, (es, os)) = (view es, os)

unfoldable pub run_of : List ℕ → List ℕ → List ℕ → List ℕ → List ℕ → Ran
run_of gra edg rel out work = ran (mapped to_run (tables_then_program gra edg rel)) out work
