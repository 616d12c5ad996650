-- A refusal is handed on; what was accepted is judged further.
use Rattle.fields.proofs.Outcomes.{handed_on}
use Rattle.translator.proofs.Translations.{query_away, query_accepted, query_on}
use Rattle.translator.proofs.translate.Goals as goal

pub returns-in_err-asked : goal.returns-in_err-asked
returns-in_err-asked c = rw (handed_on c.from_residual.result c.from_residual.ensures.1) (query_away _ _ _ c.in_err-asked.ensures)

pub write-requires : goal.write-requires
write-requires c = query_accepted _ _ c.in_ok-asked.ensures c.type_inv.qry

pub returns : goal.returns
returns c = query_on _ _ c.in_ok-asked.ensures _ c.write.ensures
