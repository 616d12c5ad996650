-- Above 24 steps the answer is 11, without room 12.
use Rattle.std.proofs.Common.{rules}
use Rattle.translator.proofs.Translations.{too_many, no_room, ready}
use Rattle.translator.proofs.write.Goals as goal

pub returns-in_default : goal.returns-in_default
returns-in_default c = too_many c.requires _ c.in_default.ensures

pub returns-then-out-from : goal.returns-then-out-from
returns-then-out-from c = no_room c.requires c.in-Some.ensures _ (search rules)

pub written-requires : goal.written-requires
written-requires c = ready c.requires c.in-Some.ensures (search rules)
