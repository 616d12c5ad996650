-- What is counted before a place, and what stands from it on, are all the steps.
use Rattle.std.proofs.Common.{◌-◌, length}
use Rattle.translator.proofs.Counting.{Upto}
use Rattle.translator.proofs.count.steps.Given as goal

abbrev pub invariant-loop-at : goal.invariant-loop-at
invariant-loop-at l = Upto l.qry l.at l.steps

abbrev pub decreases-loop-at : goal.decreases-loop-at
decreases-loop-at l = length l.qry - l.at
