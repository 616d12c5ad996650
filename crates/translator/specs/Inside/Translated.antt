-- The program of a query under a graph that was read before.
use Rattle.std.specs.Prelude.{ℕ, List}
use Rattle.meaning.specs.declared.Graph.{Graph}
use Rattle.meaning.specs.declared.Operation.{Operation}
use Rattle.fields.specs.Read.{Read, bind, mapped}
use Rattle.query.specs.Qry.{query_file}
use Rattle.rel.specs.Rel.{program_bytes}
use Rattle.writing.specs.Lent.{Lent, lent}
use Rattle.translator.specs.Translate.{bounded_program}

-- the query that the bytes hold, as a program under a graph
unfoldable pub translated_query : Graph → List ℕ → Read (List Operation)
translated_query g qry = bind (query_file g.k qry 0) λ p at. bounded_program g p.0 at

unfoldable pub translated_under : Graph → List ℕ → List ℕ → Lent
translated_under g qry out = lent (mapped program_bytes (translated_query g qry)) out
