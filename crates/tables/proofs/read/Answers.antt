-- What is refused at each step refuses the file; what is kept of rows that pass is the file's elements.
use borrow.Author.Rules.{rules}
use Rattle.tables.proofs.Places.{blank_none, kept_most, kept_falling}
use Rattle.tables.proofs.Reader.{not_kept, read_refused, read_extra, read_repeated, read_misjudged, read_accepted}
use Rattle.tables.proofs.read.Goals as goal

pub read_rows-requires : goal.read_rows-requires
read_rows-requires c = blank_none c.requires (c.fill.ensures.after (λ y e. search rules))

pub returns-in_err-last : goal.returns-in_err-last
returns-in_err-last c = not_kept _ (search rules) (read_refused _ _ c.in_err-last.ensures.right)

pub returns-in_err-end : goal.returns-in_err-end
returns-in_err-end c = not_kept _ (search rules) (read_extra _ _ c.type_inv.s c.in_ok-last.ensures.sound c.in_ok-last.ensures.right c.in_err-end.ensures)

pub returns-in_err-judge_numbers : goal.returns-in_err-judge_numbers
returns-in_err-judge_numbers c =
    not_kept _ (search rules)
    (read_repeated _ _ c.type_inv.s c.in_ok-last.ensures.sound c.in_ok-last.ensures.right c.in_ok-end.ensures c.in_err-judge_numbers.ensures)

pub returns-in_err-judge_elements : goal.returns-in_err-judge_elements
returns-in_err-judge_elements c =
    not_kept _ (search rules)
    (read_misjudged _ _ c.type_inv.s c.in_ok-last.ensures.sound c.in_ok-last.ensures.right c.in_ok-end.ensures c.in_ok-judge_numbers.ensures c.in_err-judge_elements.ensures)

pub returns : goal.returns
returns c = read_accepted _ _ c.type_inv.s c.in_ok-last.ensures.sound c.in_ok-last.ensures.right c.in_ok-end.ensures c.in_ok-judge_numbers.ensures c.in_ok-judge_elements.ensures

pub invariant_of-judge_elements : goal.invariant_of-judge_elements
invariant_of-judge_elements c = record { most = kept_most _ _ c.in_ok-last.ensures.sound; falling = kept_falling _ _ c.in_ok-last.ensures.sound }
