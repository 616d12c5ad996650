-- Nothing is written before the room is known; then the steps are made, and the last one's row from node 0 is counted and listed.
use Rattle.std.proofs.Common.{◌∙◌, refl}
use Rattle.rooms.proofs.Outcomes.{short_out, short_work, all_listed}
use Rattle.rooms.proofs.run_over.Goals as goal

pub returns-then-out-size : goal.returns-then-out-size
returns-then-out-size c = short_out _ _ _ _ c.requires c.if-out-size.true refl

pub returns-then-work-base : goal.returns-then-work-base
returns-then-work-base c = short_work _ _ _ _ c.requires (c.base.ensures ∙ c.of.ensures) c.if-work-base.true refl

pub returns : goal.returns
returns c =
    all_listed _ _ _ _ c.requires (c.base.ensures ∙ c.of.ensures) c.perform.ensures c.of-2.ensures c.read-selected.ensures c.if-out-size.false c.if-work-base.false c.list.ensures
    c.count.ensures refl
