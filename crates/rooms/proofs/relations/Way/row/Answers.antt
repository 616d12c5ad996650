-- The two rows are mixed, or the rows that are there and named are taken in.
use Rattle.rooms.proofs.Turns.{row_mixed, row_joined}
use Rattle.rooms.proofs.relations.Way.row.Goals as goal

pub returns-in-Mixed : goal.returns-in-Mixed
returns-in-Mixed c = rw c.in-Mixed.is (row_mixed _ _ c.read-left.ensures _ _ c.in-Mixed.how c.read.ensures c.mixed.ensures)

pub returns-in-Joined : goal.returns-in-Joined
returns-in-Joined c = rw c.in-Joined.is (row_joined _ _ c.read-left.ensures _ _ c.in-Joined.there c.empty.ensures c.mixed-in-Joined.ensures c.gather.ensures)
