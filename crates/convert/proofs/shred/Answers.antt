-- A refusal is handed on; else the tables of the elements that are kept are written.
use Rattle.fields.proofs.Outcomes.{handed_on}
use Rattle.convert.proofs.Conversions.{shred_away, shred_all}
use Rattle.convert.proofs.shred.Goals as goal

pub returns-in_err-graph : goal.returns-in_err-graph
returns-in_err-graph c = rw (handed_on c.from_residual.result c.from_residual.ensures.1) (shred_away _ _ _ c.in_err-graph.ensures)

pub returns : goal.returns
returns c = shred_all _ _ _ _ _ c.in_ok-graph.ensures c.write.ensures
