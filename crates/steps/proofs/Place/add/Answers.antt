-- The step's three bytes stand behind the steps before.
use mathlib.Core.Path.{◌∙◌}
use native.Mathlib.Omega.{arith}
use Rattle.rel.proofs.Encoded.{step_length}
use Rattle.writing.proofs.Puts.{put_part}
use Rattle.steps.proofs.Laws.{add_goes}
use Rattle.steps.proofs.Place.add.Goals as goal

pub returns : goal.returns
returns c =
    let bytes = c.copy_from_slice.ensures.after ∙ c.step_bytes.ensures in
    add_goes c.args.operation c.requires c.from.ensures (put_part _ _ c.args.out.now bytes (omega (arith, step_length c.args.operation)))
