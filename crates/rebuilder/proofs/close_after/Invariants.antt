-- Each close leads to the parent, whose number is smaller, until the next one's parent is reached.
use Rattle.rebuilder.proofs.Closing.{Closing}
use Rattle.rebuilder.proofs.close_after.Given as goal

abbrev pub invariant-loop-number : goal.invariant-loop-number
invariant-loop-number l = Closing l.elements l.last l.fn.w l.number l.w

abbrev pub decreases-loop-number : goal.decreases-loop-number
decreases-loop-number l = l.number
