-- What is kept of the first rows, and what the others still come to.
use Rattle.meaning.specs.Limits.{element_limit}
use Rattle.fields.specs.Read.{mapped}
use Rattle.edg.specs.Edg.{rows_read}
use Rattle.tables.specs.Inside.Gathered.{gathered_in, put_all}
use Rattle.tables.proofs.Tables.{Upto}
use Rattle.tables.proofs.read_table.Given as goal

abbrev pub invariant-loop : goal.invariant-loop
invariant-loop l =
    Upto (mapped (put_all (gathered_in l.fn.kept l.fn.numbers)) (rows_read element_limit l.kind 0 l.count l.part 0)) l.kind l.part (gathered_in l.kept l.numbers) l.last l.count l.counter l.cursor.at
