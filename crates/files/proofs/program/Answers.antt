-- The first of the two files that is refused ends the call.
use Rattle.rel.specs.Rel.{program_file}
use Rattle.fields.proofs.Outcomes.{mapped_turned, handed_on}
use Rattle.files.proofs.Opening.{graph_away, file_away, program_there}
use Rattle.files.proofs.program.Goals as goal

pub returns-in_err-graph : goal.returns-in_err-graph
returns-in_err-graph c = rw (handed_on c.from_residual.result c.from_residual.ensures.1) (graph_away _ (λ g. program_file g.k c.args.rel.now 0) c.in_err-graph.ensures)

pub returns-in_err-read : goal.returns-in_err-read
returns-in_err-read c = rw (handed_on c.from_residual-in_err-read.result c.from_residual-in_err-read.ensures.1) (file_away _ (λ g. program_file g.k c.args.rel.now 0) c.in_ok-graph.ensures (mapped_turned _ _ c.in_err-read.ensures.value))

pub returns : goal.returns
returns c = program_there _ c.in_ok-graph.ensures c.type_inv.gra _ c.type_inv.rel c.in_ok-read.ensures.value c.in_ok-read.ensures.numbered
