-- What the header, k or a table refuses is handed on; behind the tables only a total of 0 is refused.
use borrow.Author.Rules.{rules}
use Rattle.tables.proofs.Tables.{not_gathered, all_gathered}
use Rattle.tables.proofs.Reader.{rows_unheaded, rows_stopped, rows_lacking, rows_told}
use Rattle.tables.proofs.read_rows.Goals as goal

pub returns-in_err-after : goal.returns-in_err-after
returns-in_err-after c = not_gathered (search rules) (rows_unheaded _ _ c.in_err-after.ensures)

pub returns-in_err-last : goal.returns-in_err-last
returns-in_err-last c = not_gathered (search rules) (rows_stopped _ _ c.in_ok-after.ensures c.in_err-last.ensures.right)

pub returns-then-numbers-eq0 : goal.returns-then-numbers-eq0
returns-then-numbers-eq0 c = not_gathered c.refuse.ensures (rows_lacking _ _ c.in_ok-after.ensures c.in_ok-last.ensures.right c.if-numbers-eq0.true)

pub returns : goal.returns
returns c = all_gathered c.in_ok-last.ensures.sound (rows_told _ _ c.in_ok-after.ensures c.in_ok-last.ensures.right c.if-numbers-eq0.false)
