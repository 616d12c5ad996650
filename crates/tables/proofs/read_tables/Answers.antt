-- Each table is read in its stretch, which is reading it in the file, so it ends or goes on as the tables that are left do.
use borrow.Author.Rules.{rules}
use Rattle.tables.proofs.Tables.{not_gathered, all_gathered, below_none, below_uncounted, below_refused, below_again, below_end, stretch_from}
use Rattle.tables.proofs.read_tables.Goals as goal

pub loop-kind-init : goal.loop-kind-init
loop-kind-init c = below_none _ _ _ c.requires

pub returns-in_err-count : goal.returns-in_err-count
returns-in_err-count c = not_gathered (search rules) (below_uncounted c.loop-kind.invariant c.loop-kind-test.true c.in_err-count.ensures)

pub returns-in_err-read_table : goal.returns-in_err-read_table
returns-in_err-read_table c = not_gathered (search rules) (below_refused c.loop-kind.invariant c.loop-kind-test.true c.in_ok-count.ensures c.stretch_end-e.ensures c.in_err-read_table.ensures.right)

pub loop-kind-preserved : goal.loop-kind-preserved
loop-kind-preserved c =
    below_again c.loop-kind.invariant c.loop-kind-test.true c.in_ok-count.ensures c.stretch_end-e.ensures c.type_inv.s c.in_ok-read_table.ensures.sound c.in_ok-read_table.ensures.right

pub returns : goal.returns
returns c = all_gathered c.loop-kind.invariant.sound (below_end c.loop-kind.invariant c.loop-kind-test.false)

pub slice_bounds-part-count : goal.slice_bounds-part-count
slice_bounds-part-count c = stretch_from _ _ _ c.in_ok-count.ensures c.stretch_end-e.ensures

pub slice_bounds-part-start : goal.slice_bounds-part-start
slice_bounds-part-start c = stretch_from _ _ _ c.in_ok-count.ensures c.stretch_end-e.ensures
