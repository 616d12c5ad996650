-- A row that is refused ends the table as it ends the rows that are left; one that is read is kept.
use borrow.Author.Rules.{rules}
use Rattle.tables.proofs.Tables.{not_gathered, all_gathered, upto_refused, upto_end, upto_again}
use Rattle.tables.proofs.read_table.Goals as goal

pub returns-in_err-row : goal.returns-in_err-row
returns-in_err-row c = not_gathered (search rules) (upto_refused c.loop.invariant c.loop-test.true c.in_err-row.ensures)

pub loop-preserved : goal.loop-preserved
loop-preserved c = upto_again c.loop.invariant c.loop-test.true c.in_ok-row.ensures c.keep.ensures

pub returns : goal.returns
returns c = all_gathered c.loop.invariant.sound (upto_end c.loop.invariant c.loop-test.false)
