-- The row that the lowest bit names is taken in, and the bit is taken away.
use Rattle.rows.proofs.Gathers.{gathering_more, gathering_all}
use Rattle.rows.proofs.Row.gather_word.Goals as goal

pub loop-left-preserved : goal.loop-left-preserved
loop-left-preserved c = gathering_more _ _ _ _ c.loop-left.invariant c.lowest.ensures c.read-row.ensures c.mixed-all.ensures

pub returns : goal.returns
returns c = gathering_all _ _ _ _ c.loop-left.invariant c.loop-left-test.false
