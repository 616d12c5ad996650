-- After a token reading goes on, or it is at its end: refused, or element 1 is closed.
use Rattle.fields.proofs.Outcomes.{handed_on}
use Rattle.fields.specs.Read.{mapped}
use Rattle.document.specs.Inside.States.{open_in}
use Rattle.document.proofs.Reading.{turn_less, turn_last, turn_refused, turn_again}
use Rattle.document.proofs.Standing.read_tokens.Goals as goal

pub loop-standing-preserved : goal.loop-standing-preserved
unfolding mapped open_in
loop-standing-preserved c = turn_again c.loop-standing.invariant c.in_ok-standing.ensures c.type_inv.s c.if-standing-eq0.false

pub loop-standing-smaller : goal.loop-standing-smaller
unfolding mapped
loop-standing-smaller c = turn_less c.loop-standing.invariant c.in_ok-standing.ensures c.type_inv.s

pub returns-in_err-standing : goal.returns-in_err-standing
unfolding mapped
returns-in_err-standing c =
    rw (handed_on c.from_residual.result c.from_residual.ensures.1) (turn_refused c.loop-standing.invariant c.in_err-standing.ensures)

pub returns-then-standing-eq0 : goal.returns-then-standing-eq0
unfolding mapped open_in
returns-then-standing-eq0 c = turn_last c.loop-standing.invariant c.in_ok-standing.ensures c.if-standing-eq0.true
