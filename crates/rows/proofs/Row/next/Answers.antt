-- The next bit is in the first word, or in the second.
use Rattle.std.proofs.Common.{rules}
use Rattle.rows.proofs.Rows.{row_found, row_onward}
use Rattle.rows.proofs.Row.next.Goals as goal

pub returns-in-Some : goal.returns-in-Some
returns-in-Some c = row_found c.args.self.words c.args.from (rw (c.min.ensures, c.in-Some.is) at c.next_in.ensures)

pub returns-in-None : goal.returns-in-None
returns-in-None c =
    row_onward c.args.self.words c.args.from (rw (c.min.ensures, c.in-None.is) at c.next_in.ensures) c.requires _ _ (rw c.saturating_sub.ensures at c.next_in-in-None.ensures)
    c.map.ensures.cases (λ v w q. search rules)
