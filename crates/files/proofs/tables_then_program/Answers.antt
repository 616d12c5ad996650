-- The tables decide first, then the program.
use Rattle.rel.specs.Rel.{program_file}
use Rattle.fields.proofs.Outcomes.{mapped_turned, handed_on}
use Rattle.files.proofs.Opening.{tables_away, behind_away, program_behind}
use Rattle.files.proofs.tables_then_program.Goals as goal

pub returns-in_err-graph : goal.returns-in_err-graph
returns-in_err-graph c = rw (handed_on c.from_residual.result c.from_residual.ensures.1) (tables_away _ _ (λ g. program_file g.k c.args.rel.now 0) c.in_err-graph.ensures)

pub returns-in_err-program : goal.returns-in_err-program
returns-in_err-program c = rw (handed_on c.from_residual-in_err-program.result c.from_residual-in_err-program.ensures.1) (behind_away _ _ c.in_ok-graph.ensures (λ g. program_file g.k c.args.rel.now 0) (mapped_turned _ _ c.in_err-program.ensures.value))

pub returns : goal.returns
returns c = program_behind _ _ c.in_ok-graph.ensures _ c.type_inv.rel c.in_ok-program.ensures.value c.in_ok-program.ensures.numbered
