-- The program of a query: judged the graph, the query, 11 above 24 steps, then the room.
use Rattle.std.specs.Prelude.{ℕ, List, leb}
use Rattle.meaning.specs.declared.Graph.{Graph}
use Rattle.meaning.specs.declared.Operation.{Operation}
use Rattle.meaning.specs.declared.Reason.TheVariants.{Steps}
use Rattle.meaning.specs.Limits.{step_limit}
use Rattle.meaning.specs.Queries.{XPath}
use Rattle.meaning.specs.Translation.{translated, step_count}
use Rattle.fields.specs.Read.{Read, got, refused, bind, pick, mapped}
use Rattle.rel.specs.Rel.{program_bytes}
use Rattle.writing.specs.Lent.{Lent, lent}
use Rattle.files.specs.Files.{query_under}

-- a query's program, where it has at most 24 steps
unfoldable pub bounded_program : Graph → XPath → ℕ → Read (List Operation)
bounded_program g p at = pick (leb (step_count p) step_limit) (got (translated g p) at) (refused (record { reason = Steps }))

unfoldable pub translation : List ℕ → List ℕ → List ℕ → Lent
translation gra qry out = lent (bind (query_under gra qry) λ x at. mapped program_bytes (bounded_program x.0 x.1.0 at)) out
