-- A run of a program over what a document shows: it leaves every step's rows in the work area and the nodes selected in the
-- answer's buffer, where there is room for both.
use Rattle.std.specs.Prelude.{ℕ, ◌*◌, ◌≡◌, ◌&&◌, List, leb, length}
use Rattle.meaning.specs.declared.Answer.{Answer}
use Rattle.meaning.specs.declared.Operation.{Operation}
use Rattle.meaning.specs.declared.Reason.TheVariants.{Room}
use Rattle.meaning.specs.declared.Refusal.{Refusal}
use Rattle.meaning.specs.Limits.{small, room_bytes}
use Rattle.meaning.specs.Documents.{View}
use Rattle.meaning.specs.Operations.{answer}
use Rattle.fields.specs.Read.{pick}
use Rattle.writing.specs.Lent.{accepted, turned_away, over}
use Rattle.rooms.specs.Layout.{work_byte, overwritten}

-- the call's answer, and the bytes of both buffers afterwards
pub record Ran : Type 0 where
  pub answer : Answer
  pub out : List ℕ
  pub work : List ℕ

-- turned away: both buffers have the bytes they came with
abbrev pub both_untouched : Refusal → List ℕ → List ℕ → Ran
both_untouched r out work = record { answer = turned_away r; out = out; work = work }

-- these bytes in the answer's buffer and the steps' rows in the work area, where there is room for both
abbrev pub leaves : ℕ → List ℕ → View → List Operation → List ℕ → List ℕ → Ran
leaves room bytes d os out work =
    pick (leb room (length out) && leb (room_bytes small.row * length os) (length work))
    (record {
      answer = accepted (length bytes);
      out = over 0 bytes out;
      work = overwritten (work_byte small.row d os) (room_bytes small.row * length os) work;
    })
    (both_untouched (record { reason = Room }) out work)

-- a program over what a document shows: a byte for each node, and a room of work area for each step
unfoldable pub performed : View → List Operation → List ℕ → List ℕ → Ran
performed d os out work = leaves d.size (answer d os) d os out work

-- the answer and both buffers are these
abbrev pub Gives : Ran → Answer → List ℕ → List ℕ → Type 0
Gives e answer out work = e ≡ record { answer = answer; out = out; work = work }
