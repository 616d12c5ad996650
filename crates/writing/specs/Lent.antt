-- What a call answers, and what it leaves in a buffer that it was lent.
use Rattle.std.specs.Prelude.{ℕ, ◌+◌, List, ◌++◌, ◌≡◌, leb, length, take, drop}
use Rattle.meaning.specs.declared.Answer.{Answer}
use Rattle.meaning.specs.declared.Reason.TheVariants.{Room}
use Rattle.meaning.specs.declared.Refusal.{Refusal}
use Rattle.meaning.specs.Refused.{number_of}
use Rattle.fields.specs.Read.{Read, got, refused, pick}

abbrev pub accepted : ℕ → Answer
accepted n = record { number = 0; count = n }

abbrev pub turned_away : Refusal → Answer
turned_away r = record { number = number_of r.reason; count = 0 }

-- these bytes from a place on; all others stay
unfoldable pub over : ℕ → List ℕ → List ℕ → List ℕ
over at bytes old = take at old ++ bytes ++ drop (at + length bytes) old

-- a call's answer, and the bytes of the buffer afterwards
pub record Lent : Type 0 where
  pub answer : Answer
  pub bytes : List ℕ

-- turned away: the buffer has the bytes it came with
abbrev pub untouched : Refusal → List ℕ → Lent
untouched r out = record { answer = turned_away r; bytes = out }

-- a file is written where there is room for it, and its length is the answer
unfoldable pub stored : List ℕ → List ℕ → Lent
stored file out =
    pick (leb (length file) (length out))
    (record { answer = accepted (length file); bytes = over 0 file out })
    (untouched (record { reason = Room }) out)

-- the file that is to be written, if nothing was turned away before
unfoldable pub lent : Read (List ℕ) → List ℕ → Lent
lent (got file at) out = stored file out
lent (refused r) out = untouched r out

-- the answer and the buffer are these
abbrev pub Leaves : Lent → Answer → List ℕ → Type 0
Leaves l answer out = l ≡ record { answer = answer; bytes = out }

-- the file that a call wrote: as many bytes as it answers
abbrev pub file_in : Lent → List ℕ
file_in l = take l.answer.count l.bytes
