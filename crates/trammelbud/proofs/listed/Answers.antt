-- A plan that is there is carried out.
use Rattle.fields.proofs.Outcomes.{handed_on}
use Rattle.trammelbud.proofs.Plans.{list_away, list_on}
use Rattle.trammelbud.proofs.listed.Goals as goal

pub returns-in_err-plan : goal.returns-in_err-plan
returns-in_err-plan c = rw (handed_on c.from_residual.result c.from_residual.ensures.1) (list_away _ _ _ _ _ c.in_err-plan.ensures)

pub returns : goal.returns
returns c = list_on _ _ _ _ _ c.in_ok-plan.ensures c.list.ensures
