-- The room for the longest text is judged first; then the nodes are there, or the work area was too short.
use Rattle.std.proofs.Common.{rules, refl, sym, length-take-le}
use Rattle.fields.proofs.Outcomes.{handed_on}
use Rattle.writing.proofs.Told.{some_number}
use Rattle.trammelbud.proofs.Lists.{list_short, list_refused, list_inside, list_listable, list_small, list_all}
use Rattle.trammelbud.proofs.list.list.Goals as goal

pub returns-then-out-elements : goal.returns-then-out-elements
returns-then-out-elements c = list_short c.requires _ _ c.if-out-elements.true refl

pub returns-in_err-count : goal.returns-in_err-count
returns-in_err-count c = rw (handed_on c.from_residual.result c.from_residual.ensures.1) (list_refused c.requires _ _ c.if-out-elements.false c.in_err-count.ensures (some_number _))

pub slice_bounds-nodes-end : goal.slice_bounds-nodes-end
slice_bounds-nodes-end c = list_inside c.requires _ _ c.if-out-elements.false c.in_ok-count.ensures refl

pub slice_bounds-write-end : goal.slice_bounds-write-end
slice_bounds-write-end c = sym (length-take-le _ _ (list_inside c.requires _ _ c.if-out-elements.false c.in_ok-count.ensures refl))

pub write-length-requires : goal.write-length-requires
write-length-requires c = list_listable c.requires _ _ c.if-out-elements.false c.in_ok-count.ensures refl

pub overflow_cast-result : goal.overflow_cast-result
overflow_cast-result c = let small = list_small c.requires _ _ c.if-out-elements.false c.in_ok-count.ensures refl c.write-length.ensures in search rules

pub returns : goal.returns
returns c = list_all c.requires _ _ c.if-out-elements.false c.in_ok-count.ensures refl c.write-length.ensures
