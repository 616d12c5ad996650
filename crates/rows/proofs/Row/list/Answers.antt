-- Each place takes the next number, until it is not below size or no place is left.
use Rattle.rows.proofs.Tallies.{listing_none, listing_more}
use Rattle.rows.proofs.Row.list.Goals as goal

pub loop-place-init : goal.loop-place-init
loop-place-init c = listing_none _ c.next-next.ensures

pub loop-place-preserved : goal.loop-place-preserved
loop-place-preserved c = listing_more (rw c.in-Some.is at c.loop-place.invariant) c.requires.0 c.requires.1 c.if-size-w.false _ c.next-next-in-loop-place.ensures
