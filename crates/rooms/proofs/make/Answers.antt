-- Each operation is made of the rooms of its operands, as its step's rows.
use Rattle.rooms.proofs.Steps.{text_none_made, text_made, laws}
use Rattle.rooms.proofs.make.Goals as goal

pub join-requires : goal.join-requires
join-requires c = search laws

pub mix-requires : goal.mix-requires
mix-requires c = search laws

pub closure-requires : goal.closure-requires
closure-requires c = search laws

pub diagonal-requires-in-Has : goal.diagonal-requires-in-Has
diagonal-requires-in-Has c = search laws

pub mix-requires-in-Diff : goal.mix-requires-in-Diff
mix-requires-in-Diff c = search laws

pub mix-requires-in-Both : goal.mix-requires-in-Both
mix-requires-in-Both c = search laws

pub returns-in-Table : goal.returns-in-Table
returns-in-Table c = search laws

pub returns-in-Itself : goal.returns-in-Itself
returns-in-Itself c = search laws

pub returns-in-Text-eq0 : goal.returns-in-Text-eq0
returns-in-Text-eq0 c = text_none_made c.requires c.room_of-room.ensures _ _ c.in-Text-eq0.is (rw c.in-Text-eq0.is at c.in-Text-eq0.field-0-test) c.clear.ensures

pub returns-in-Text : goal.returns-in-Text
returns-in-Text c = text_made c.requires c.room_of-room.ensures _ _ c.in-Text.is (rw c.in-Text.is at c.in-Text.number-test).1 c.diagonal-in-Text.ensures

pub returns-in-Join : goal.returns-in-Join
returns-in-Join c = search laws

pub returns-in-Union : goal.returns-in-Union
returns-in-Union c = search laws

pub returns-in-Closure : goal.returns-in-Closure
returns-in-Closure c = search laws

pub returns-in-Has : goal.returns-in-Has
returns-in-Has c = search laws

pub returns-in-Diff : goal.returns-in-Diff
returns-in-Diff c = search laws

pub returns-in-Both : goal.returns-in-Both
returns-in-Both c = search laws
