-- What is kept of the types below this one, and what the others still come to.
use Rattle.meaning.specs.Limits.{element_limit}
use Rattle.fields.specs.Read.{mapped}
use Rattle.edg.specs.Edg.{tables_read}
use Rattle.tables.specs.Inside.Gathered.{gathered_in, none, put_all}
use Rattle.tables.proofs.Tables.{Below}
use Rattle.tables.proofs.read_tables.Given as goal

abbrev pub invariant-loop-kind : goal.invariant-loop-kind
invariant-loop-kind l =
    Below (mapped (put_all none) (tables_read element_limit 0 0 l.k l.s l.initial.cursor.at)) l.s l.k (gathered_in l.kept l.numbers) l.kind l.cursor.at
