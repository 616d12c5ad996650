-- Before the loop no step is done; a step that is refused is the rest's refusal; behind the loop nothing is left to read.
use Rattle.std.proofs.Common.{◌≡◌, arith}
use Rattle.program.proofs.Loop.{upto_start, upto_stop, upto_all}
use Rattle.program.proofs.steps.Goals as goal

pub loop-number-init : goal.loop-number-init
loop-number-init c = upto_start _ _ _ _

pub returns-in_err-operation : goal.returns-in_err-operation
returns-in_err-operation c =
    let stopped = upto_stop _ _ _ _ c.loop-number.invariant (omega arith) c.in_err-operation.ensures in
    grind arith

pub returns : goal.returns
returns c =
    let all : c.from-count.result ≡ c.loop-number.number = omega arith in
    rw all (upto_all _ _ _ _ c.loop-number.invariant (omega arith))
