-- The next node is counted, or there is none; one too many ends the counting.
use borrow.Author.Rules.{rules}
use Rattle.translator.proofs.Counting.{upto_more, upto_many, upto_all}
use Rattle.translator.proofs.count.steps.Goals as goal

pub loop-at-preserved : goal.loop-at-preserved
loop-at-preserved c = search (upto_more, rules)

pub returns : goal.returns
returns c = search (upto_all, rules)

pub returns-then-steps-gt-LIMIT : goal.returns-then-steps-gt-LIMIT
returns-then-steps-gt-LIMIT c = upto_many c.loop-at.invariant c.loop-at-test.true c.fields.ensures.0 c.own_steps-steps.ensures.0 (search rules)
