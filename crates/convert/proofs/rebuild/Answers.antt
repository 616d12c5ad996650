-- A refusal is handed on; else the document of the elements that are kept is written.
use Rattle.fields.proofs.Outcomes.{handed_on}
use Rattle.convert.proofs.Conversions.{rebuild_away, rebuild_all}
use Rattle.convert.proofs.rebuild.Goals as goal

pub returns-in_err-opened : goal.returns-in_err-opened
returns-in_err-opened c = rw (handed_on c.from_residual.result c.from_residual.ensures.1) (rebuild_away _ _ _ c.in_err-opened.ensures)

pub returns : goal.returns
returns c = rebuild_all _ _ _ _ _ c.in_ok-opened.ensures c.write.ensures
