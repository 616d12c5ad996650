-- At each turn the array holds the steps that are done, and the rest is still to be read; see `Upto`.
use Rattle.program.proofs.Loop.{Upto}
use Rattle.program.proofs.steps.Given as goal

abbrev pub invariant-loop-number : goal.invariant-loop-number
invariant-loop-number l = Upto l.s l.k l.count l.fn.first.at l.steps l.number l.c.at
