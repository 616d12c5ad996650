-- Shredding writes the tables of an accepted document, rebuilding the document of accepted tables. Judged: the graph, the
-- file, the room last.
use Rattle.std.specs.Prelude.{ℕ, List}
use Rattle.tre.specs.Tre.{document_bytes}
use Rattle.edg.specs.Edg.{tables_bytes}
use Rattle.writing.specs.Lent.{Lent, lent}
use Rattle.fields.specs.Read.{mapped}
use Rattle.files.specs.Files.{document_under, tables_under}

unfoldable pub shredded : List ℕ → List ℕ → List ℕ → Lent
shredded gra tre out = lent (mapped (λ x. tables_bytes x.0 x.1) (document_under gra tre)) out

unfoldable pub rebuilt : List ℕ → List ℕ → List ℕ → Lent
rebuilt gra edg out = lent (mapped (λ x. document_bytes x.1) (tables_under gra edg)) out
