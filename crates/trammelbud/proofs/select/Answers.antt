-- A plan that is there is carried out.
use Rattle.fields.proofs.Outcomes.{handed_on}
use Rattle.trammelbud.proofs.Plans.{select_away, select_on}
use Rattle.trammelbud.proofs.select.Goals as goal

pub returns-in_err-plan : goal.returns-in_err-plan
returns-in_err-plan c = rw (handed_on c.from_residual.result c.from_residual.ensures.1) (select_away _ _ _ _ _ c.in_err-plan.ensures)

pub returns : goal.returns
returns c = select_on _ _ _ _ _ c.in_ok-plan.ensures c.run_over.ensures
