-- Writing by turns: what is left to write, and that with it the whole is written.
use Rattle.std.proofs.Common.{ℕ, List, [], ◌++◌, ◌+◌, ◌≤◌, ◌≡◌, length, ap, arith, length-append}
use Rattle.writing.specs.declared.Writer.{Writer}
use Rattle.writing.specs.Inside.Wrote.{Wrote}
use Rattle.writing.proofs.Writing.{wrote_nothing, wrote_then}

-- of the bytes that are to be written by a writer, the rest is still to come
pub record Toward (whole : List ℕ) (old : Writer) (rest : List ℕ) (w : Writer) : Type 0 where
  pub room : w.at + length rest ≤ length w.out.now
  completes : {new : Writer} → Wrote rest w new → Wrote whole old new

pub toward_none : {whole : List ℕ} {old : Writer} → old.at + length whole ≤ length old.out.now → Toward whole old whole old
toward_none l = record { room = l; completes = λ p. p }

module _ {whole rest : List ℕ} {old w : Writer} where
  -- there is room for what comes next
  pub toward_room : (bs more : List ℕ) → Toward whole old rest w → rest ≡ bs ++ more → w.at + length bs ≤ length w.out.now
  toward_room bs more so_far e = omega (arith, so_far.room, ap length e, length-append bs more)

  pub toward_more : {bs : List ℕ} {next : Writer} (more : List ℕ) → Wrote bs w next → Toward whole old rest w → rest ≡ bs ++ more → Toward whole old more next
  toward_more {bs} more p so_far e =
      record {
        room = omega (arith, so_far.room, ap length e, length-append bs more, p.behind, p.long);
        completes = λ q. so_far.completes (rw e (wrote_then p q));
      }

  pub toward_last : {new : Writer} → Toward whole old rest w → Wrote rest w new → Wrote whole old new
  toward_last so_far p = so_far.completes p

  pub toward_all : Toward whole old rest w → rest ≡ [] → Wrote whole old w
  toward_all so_far e = so_far.completes (rw e (wrote_nothing w))
