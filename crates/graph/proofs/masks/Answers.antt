-- One law for each way out, and one for the turn.
use Rattle.std.proofs.Common.{rules}
use Rattle.fields.proofs.Outcomes.{handed_on}
use Rattle.graph.proofs.MaskReading.{laws, masks_refused}
use Rattle.graph.specs.Gra.{masks, all_masks}
use Rattle.graph.proofs.masks.Goals as goal

pub returns-in_err-mask : goal.returns-in_err-mask
returns-in_err-mask c = rw (handed_on c.from_residual.result c.from_residual.ensures.1) (masks_refused c.loop-i.invariant (search rules) c.in_err-mask.ensures)

pub loop-i-preserved : goal.loop-i-preserved
loop-i-preserved c = search laws

pub returns : goal.returns
unfolding masks all_masks
returns c = search laws
