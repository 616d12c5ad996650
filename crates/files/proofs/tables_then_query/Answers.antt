-- The tables decide first, then the query.
use Rattle.query.specs.Qry.{query_file}
use Rattle.fields.proofs.Outcomes.{mapped_turned, handed_on}
use Rattle.files.proofs.Opening.{tables_away, behind_away, query_behind}
use Rattle.files.proofs.tables_then_query.Goals as goal

pub returns-in_err-opened : goal.returns-in_err-opened
returns-in_err-opened c = rw (handed_on c.from_residual.result c.from_residual.ensures.1) (tables_away _ _ (λ g. query_file g.k c.args.qry.now 0) c.in_err-opened.ensures)

pub returns-in_err-read : goal.returns-in_err-read
returns-in_err-read c = rw (handed_on c.from_residual-in_err-read.result c.from_residual-in_err-read.ensures.1) (behind_away _ _ c.in_ok-opened.ensures (λ g. query_file g.k c.args.qry.now 0) (mapped_turned _ _ c.in_err-read.ensures))

pub returns : goal.returns
returns c = query_behind _ _ c.in_ok-opened.ensures _ c.in_ok-read.ensures
