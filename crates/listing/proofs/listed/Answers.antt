-- The room is that of the most elements and steps, so 12 is never the answer.
use borrow.Author.Rules.{rules}
use Rattle.demands.proofs.Listings.{list_has_room}
use Rattle.listing.proofs.listed.Goals as goal

pub returns : goal.returns
returns c = search (list_has_room, rules)
