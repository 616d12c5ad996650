-- The lowest bit of what the shift leaves is the next; no bit is left, or none is asked for.
use Rattle.std.proofs.Common.{arith}
use Rattle.rows.proofs.Rows.{word_found, word_ended}
use Rattle.rows.proofs.next_in.Goals as goal
use Rattle.rows.proofs.next_in.Goals.{else-from-lt64-via-then-from-lt64+else-word-from-ne0, else-from-lt64-via-else-from-lt64}

pub returns-then-word-from-ne0 : goal.returns-then-word-from-ne0
returns-then-word-from-ne0 c = word_found c.args.word c.args.from c.ranges.word.fits c.lowest.ensures

pub returns-else-from-lt64 : goal.returns-else-from-lt64
returns-else-from-lt64 c =
    elim c.else-from-lt64.branch [
      | else-from-lt64-via-then-from-lt64+else-word-from-ne0 w ↦ word_ended c.args.word c.args.from c.requires (λ l. omega arith)
      | else-from-lt64-via-else-from-lt64 w ↦ word_ended c.args.word c.args.from c.requires (λ l. absurd (omega arith))
    ]
