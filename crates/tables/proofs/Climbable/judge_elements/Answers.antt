-- Each element that keeps both rules leaves the judging to those after it; behind the last one nothing is left.
use Rattle.std.proofs.Common.{arith, rules}
use Rattle.tables.proofs.Elements.{judging_start, judging_refused, judging_again, judging_end}
use Rattle.tables.proofs.Climbable.judge_elements.Goals as goal

pub loop-i-init : goal.loop-i-init
loop-i-init c = judging_start _ _ _

pub returns-in_err-judge_element : goal.returns-in_err-judge_element
returns-in_err-judge_element c = judging_refused c.loop-i.invariant c.loop-i-test.true (search rules) c.in_err-judge_element.ensures

pub loop-i-preserved : goal.loop-i-preserved
loop-i-preserved c = judging_again c.loop-i.invariant c.loop-i-test.true c.in_ok-judge_element.ensures

pub returns : goal.returns
returns c = judging_end c.loop-i.invariant c.loop-i-test.false

pub returns-in_ok-judge_element : goal.returns-in_ok-judge_element
returns-in_ok-judge_element c = judging_end (judging_again c.loop-i.invariant c.loop-i-test.true c.in_ok-judge_element.ensures) (omega arith)
