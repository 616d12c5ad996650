-- Each element is put into the row of its parent, where its type is named.
use Rattle.std.proofs.Common.{◌+◌, arith}
use Rattle.meaning.specs.declared.Element.{Element}
use Rattle.rooms.proofs.Elements.{tabling_none, tabling_more, tabling_all, child_kind_lem, child_parent, element_next}
use Rattle.rooms.proofs.room.Room.table.Goals as goal

-- what is read where no element stands
abbrev none : Element
none = record { parent = 0; kind = 0; text = 0 }

pub loop-i-init : goal.loop-i-init
loop-i-init c = tabling_none _ c.requires.0 c.clear.ensures

pub has-there-requires : goal.has-there-requires
has-there-requires c =
    let kind = child_kind_lem c.requires.1 (c.loop-i.i + 1) (omega arith) (omega arith) (element_next c.args.elements.now c.loop-i.i none c.loop-i-test.true) in
    omega (arith, kind, c.from-in-loop-i.ensures)

pub put-requires : goal.put-requires
put-requires c =
    let parent = child_parent c.requires.1 (c.loop-i.i + 1) (omega arith) (omega arith) (element_next c.args.elements.now c.loop-i.i none c.loop-i-test.true) in
    (omega arith, omega (arith, parent, c.requires.1.few), omega (arith, c.requires.1.few))

pub loop-i-preserved : goal.loop-i-preserved
loop-i-preserved c = tabling_more _ c.loop-i.invariant _ (omega arith) (element_next _ _ _ c.loop-i-test.true) c.from-in-loop-i-2.ensures (rw (c.from.ensures, c.from-in-loop-i.ensures) at c.has-there.ensures) c.put.ensures

pub returns : goal.returns
returns c = tabling_all _ c.loop-i.invariant (omega arith) c.clear.ensures
