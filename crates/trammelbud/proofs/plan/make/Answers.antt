-- The files decide first, then the steps of the query.
use Rattle.fields.proofs.Outcomes.{handed_on}
use Rattle.trammelbud.proofs.Plans.{plan_away, plan_accepts, plan_refused, plan_made}
use Rattle.trammelbud.proofs.plan.make.Goals as goal

pub translated-requires : goal.translated-requires
translated-requires c = plan_accepts _ _ _ c.in_ok-graph.ensures c.type_inv.qry

pub returns-in_err-graph : goal.returns-in_err-graph
returns-in_err-graph c = rw (handed_on c.from_residual.result c.from_residual.ensures.1) (plan_away _ _ _ c.in_err-graph.ensures)

pub returns-in_err-program : goal.returns-in_err-program
returns-in_err-program c = rw (handed_on c.from_residual-in_err-program.result c.from_residual-in_err-program.ensures.1) (plan_refused _ _ _ c.in_ok-graph.ensures c.in_err-program.ensures)

pub returns : goal.returns
returns c = plan_made _ _ _ c.in_ok-graph.ensures c.in_ok-program.ensures
