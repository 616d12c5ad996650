-- The numbers written so far are those below the next.
use Rattle.std.proofs.Common.{unwrap_or}
use Rattle.meaning.specs.Limits.{small, row_bits}
use Rattle.rows.specs.Inside.Rows.{in_row}
use Rattle.rows.proofs.Tallies.{Listing}
use Rattle.rows.proofs.Row.list.Given as goal

abbrev pub invariant-loop-place : goal.invariant-loop-place
invariant-loop-place l = Listing (row_bits small.row) l.size (in_row l.self.words) l.fn.out l.out l.place-index (unwrap_or l.next (row_bits small.row))
