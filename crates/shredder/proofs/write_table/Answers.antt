-- The count is how many rows there are.
use Rattle.std.proofs.Common.{eqb, ◌∙◌, rules, tests}
use Rattle.std.proofs.lemmas.Iterator.{YieldsList-from_slice}
use Rattle.std.proofs.lemmas.Iterator.Consumers.{YieldsList-from_filter, count_from_yields_List}
use Rattle.writing.proofs.Writing.{wrote_then}
use Rattle.shredder.proofs.Tables.{rows_count}
use Rattle.shredder.proofs.write_table.Goals as goal

pub returns : goal.returns
unfolding Rattle.edg.specs.Edg.table_bytes
returns c =
    let rows = count_from_yields_List _ _ c.count-rows.ensures.ran (YieldsList-from_filter _ (λ e. eqb e.kind c.args.t) (YieldsList-from_slice c.args.elements.now cc) c.filter.ensures.closure (λ x b q k. search (rules, tests))) ∙ rows_count c.args.t 1 c.args.elements.now in
    rw (← rows) (wrote_then c.byte.ensures c.write_rows.ensures)
