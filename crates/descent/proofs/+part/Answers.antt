-- The part is translated, where those inside it are.
use Rattle.std.proofs.Common.{refl}
use Rattle.descent.proofs.Dues.{due_inside, due_fits, first_falls, leaf_stands, leaf_done, one_due, one_behind, one_done, two_due, two_between, two_second, two_ended, two_done}
use Rattle.descent.proofs.+part.Goals as goal

pub overflow_add-next : goal.overflow_add-next
overflow_add-next t c = due_fits c.requires

pub row_at-requires : goal.row_at-requires
row_at-requires t c = due_inside c.requires

pub write-requires : goal.write-requires
write-requires t c = leaf_stands _ c.in-Leaf.ensures c.requires

pub part-inner-requires : goal.part-inner-requires
part-inner-requires t c = (first_falls c.requires c.decreases, one_due _ c.in-One.ensures c.requires)

pub end-requires : goal.end-requires
end-requires t c = one_behind _ c.in-One.ensures c.part-inner.ensures c.requires refl

pub part-left-requires : goal.part-left-requires
part-left-requires t c = (first_falls c.requires c.decreases, two_due _ _ c.in-Two.ensures c.requires)

pub begin-begun-requires : goal.begin-begun-requires
begin-begun-requires t c = two_between _ _ c.in-Two.ensures c.part-left.ensures c.requires refl

pub part-right-requires : goal.part-right-requires
part-right-requires t c = two_second _ _ c.in-Two.ensures c.part-left.ensures c.begin-begun.ensures c.requires c.decreases refl

pub combine-requires : goal.combine-requires
combine-requires t c = two_ended _ _ c.in-Two.ensures c.part-left.ensures c.begin-begun.ensures c.part-right.ensures c.requires refl

pub returns-in-Leaf : goal.returns-in-Leaf
returns-in-Leaf t c = leaf_done _ c.in-Leaf.ensures c.write.ensures

pub returns-in-One : goal.returns-in-One
returns-in-One t c = one_done _ c.in-One.ensures c.part-inner.ensures c.end.ensures

pub returns-in-Two : goal.returns-in-Two
returns-in-Two t c = two_done _ _ c.in-Two.ensures c.part-left.ensures c.begin-begun.ensures c.part-right.ensures c.combine.ensures
