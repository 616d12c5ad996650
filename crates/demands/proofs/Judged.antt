-- A call's answer by how its reading came out: accepted exactly where something was read and there is room, otherwise one number
-- of the table and nothing written.
use Prim.Native.Nat.{ℕ, ◌*◌, ◌≤◌, ◌<◌}
use mathlib.Core.Path.{◌≡◌, refl, sym, ap, ◌∙◌}
use mathlib.Core.Bool.{Bool, true, false, ◌&&◌}
use mathlib.Core.List.{List}
use native.Mathlib.Omega.{arith}
use lib.Dec.{leb}
use lib.ListN.{length, get_or, take}
use borrow.Author.Tests.{le-leb, leb-true}
use Rattle.meaning.specs.declared.Answer.{Answer}
use Rattle.meaning.specs.declared.Operation.{Operation}
use Rattle.meaning.specs.declared.Reason.{Reason}
use Rattle.meaning.specs.declared.Reason.TheVariants.{Ended, Mark, Version, Bound, Code, Kind, Edge, Number, Operand, Extra, Steps, Room}
use Rattle.meaning.specs.declared.Refusal.{Refusal}
use Rattle.meaning.specs.Limits.{small, step_limit, room_bytes}
use Rattle.meaning.specs.Refused.{number_of}
use Rattle.meaning.specs.Documents.{View}
use Rattle.meaning.proofs.Tests.{never}
use Rattle.fields.specs.Read.{Read, got, refused, pick, mapped}
use Rattle.fields.proofs.Formats.{got_same, refused_out}
use Rattle.writing.specs.Lent.{Lent, turned_away, accepted, over, untouched, stored, lent}
use Rattle.masks.specs.declared.Announced.{Announced}
use Rattle.masks.proofs.Announcement.{none_shown}
use Rattle.announce.specs.Check.{checked}
use Rattle.writing.proofs.Puts.{over_front, over_length}
use Rattle.rooms.specs.Layout.{work_byte, overwritten}
use Rattle.rooms.proofs.Layouts.{over_past, overwritten_past}
use Rattle.rooms.specs.Run.{Ran, leaves, both_untouched}
use Rattle.trammelbud.specs.Calls.{answer_of}
use Rattle.demands.specs.Demands.{Answers, Rest, Checks}
use Rattle.demands.proofs.Readings.{Came}

pub in_table : (r : Reason) → (number_of r ≤ 12) × (0 < number_of r)
in_table Ended = (omega arith, omega arith)
in_table Mark = (omega arith, omega arith)
in_table Version = (omega arith, omega arith)
in_table Bound = (omega arith, omega arith)
in_table Code = (omega arith, omega arith)
in_table Kind = (omega arith, omega arith)
in_table Edge = (omega arith, omega arith)
in_table Number = (omega arith, omega arith)
in_table Operand = (omega arith, omega arith)
in_table Extra = (omega arith, omega arith)
in_table Steps = (omega arith, omega arith)
in_table Room = (omega arith, omega arith)

-- How a call came to its answer, by its reading and by what fits its room: something was read that fits, and it answers what that
-- counts; or not, and it answers a number of the table and keeps what it was lent.
pub data Judged {U : Type 0} (e : Read U) (Fits : U → Type 0) (counts : U → ℕ) (Stays : Type 0) (a : Answer) : Type 0 where
  fitted : {u : U} → Came e u → Fits u → a ≡ accepted (counts u) → Judged e Fits counts Stays a
  short : {u : U} → Came e u → (Fits u → ⊥) → a ≡ turned_away (record { reason = Room }) → Stays → Judged e Fits counts Stays a
  turned : {r : Refusal} → e ≡ refused r → a ≡ turned_away r → Stays → Judged e Fits counts Stays a

pub kept : {U : Type 0} {e : Read U} {Fits : U → Type 0} {counts : U → ℕ} {Stays : Type 0} {a : Answer} → Judged e Fits counts Stays a → 0 < a.number → Stays
kept (fitted c f is) h = absurd (omega (arith, h, ap (λ a. a.number) is))
kept (short c f is k) h = k
kept (turned c is k) h = k

one_came : {U : Type 0} {e : Read U} {u v : U} → Came e u → Came e v → u ≡ v
one_came (m, p) (n, q) = (got_same (sym p ∙ q)).0

-- what a call takes is what its reading gives and what fits; what it reads is turned away with a number up to most
pub record Taken {U X : Type 0} (most : ℕ) (e : Read U) (Fits : U → Type 0) (counts : U → ℕ) (Files Roomed : X → Type 0) (count : X → ℕ) : Type 0 where
  pub there : (x : X) → Files x → (u : U) × Came e u × (Roomed x → Fits u) × (counts u ≡ count x)
  pub back : {u : U} → Came e u → (x : X) × Files x × (Fits u → Roomed x) × (Roomed x → Fits u)
  pub reason : {r : Refusal} → e ≡ refused r → number_of r.reason ≤ most

module _ {U X : Type 0} {most : ℕ} {e : Read U} {Fits : U → Type 0} {counts : U → ℕ} {Files Roomed : X → Type 0} {count : X → ℕ} (taken : Taken most e Fits counts Files Roomed count) where
  turned_answers : (n : ℕ) (r : Refusal) → number_of r.reason ≤ n → ((x : X) → Files x × Roomed x → ⊥) → Answers n (λ x. Files x × Roomed x) count (turned_away r)
  turned_answers n r l none = record { accepts = λ x t. absurd (none x t); only = λ h. absurd (omega (arith, h, (in_table r.reason).1)); number = l; alone = λ h. refl }

  fitted_answers : (n : ℕ) {u : U} → Came e u → Fits u → Answers n (λ x. Files x × Roomed x) count (accepted (counts u))
  fitted_answers n c f = record {
    accepts = λ x t. let (v, d, g, same) = taken.there x t.0 in rw (one_came c d, same);
    only = λ h. let (x, files, fits, _) = taken.back c in (x, (files, fits f));
    number = omega arith;
    alone = λ h. absurd (omega (arith, h));
  }

  -- what is not read is not there
  unread : {r : Refusal} → e ≡ refused r → (x : X) → Files x × Roomed x → ⊥
  unread p x t = let (v, d, g, same) = taken.there x t.0 in refused_out (sym p ∙ d.1)

  -- where nothing is lent, all that is read fits
  pub reader_answers : {Stays : Type 0} {a : Answer} → ((u : U) → Fits u) → Judged e Fits counts Stays a → Answers most (λ x. Files x × Roomed x) count a
  reader_answers all (fitted c f is) = rw is (fitted_answers most c f)
  reader_answers all (short {u} c f is k) = absurd (f (all u))
  reader_answers all (turned {r} p is k) = rw is (turned_answers most r (taken.reason p) (unread p))

  pub answers : {Stays : Type 0} {a : Answer} → Judged e Fits counts Stays a → Answers 12 (λ x. Files x × Roomed x) count a
  answers (fitted c f is) = rw is (fitted_answers 12 c f)
  answers (short {u} c f is k) = rw is (turned_answers 12 (record { reason = Room }) (omega arith) λ x t. let (v, d, g, same) = taken.there x t.0 in f (rw (one_came d c) at (g t.1)))
  answers (turned {r} p is k) = rw is (turned_answers 12 r (in_table r.reason).0 (unread p))

  -- 11 comes of the reading
  pub for_length : {Stays : Type 0} {a : Answer} → Judged e Fits counts Stays a → a.number ≡ 11 → (r : Refusal) × (e ≡ refused r) × (number_of r.reason ≡ 11)
  for_length (fitted c f is) h = absurd (omega (arith, h, ap (λ a. a.number) is))
  for_length (short c f is k) h = absurd (omega (arith, h, ap (λ a. a.number) is))
  for_length (turned {r} p is k) h = (r, p, omega (arith, h, ap (λ a. a.number) is))

  -- 12 is for want of room
  pub for_room : {Stays : Type 0} {a : Answer} → most < 12 → Judged e Fits counts Stays a → a.number ≡ 12 → (x : X) × Files x × (Roomed x → ⊥)
  for_room l (fitted c f is) h = absurd (omega (arith, h, ap (λ a. a.number) is))
  for_room l (short c f is k) h = let (x, files, _, fits) = taken.back c in (x, files, λ t. f (fits t))
  for_room l (turned {r} p is k) h = absurd (omega (arith, h, ap (λ a. a.number) is, taken.reason p))

-- a reader alone: all that it reads fits
pub read_judged : {U : Type 0} (counts : U → ℕ) (e : Read U) → Judged e (λ u. Unit) counts Unit (answer_of (mapped counts e))
unfolding answer_of mapped
read_judged counts (got u n) = fitted (n, refl) tt refl
read_judged counts (refused r) = turned refl refl tt

-- a file is stored, or there is no room for it
stored_cases : (P : Lent → Type 0) (file out : List ℕ) → (length file ≤ length out → P (record { answer = accepted (length file); bytes = over 0 file out }))
    → ((length file ≤ length out → ⊥) → P (untouched (record { reason = Room }) out)) → P (stored file out)
unfolding stored
stored_cases P file out fits lacks = by_room (leb (length file) (length out)) refl
  where
    by_room : (b : Bool) → leb (length file) (length out) ≡ b → P (pick b (record { answer = accepted (length file); bytes = over 0 file out }) (untouched (record { reason = Room }) out))
    by_room true e = fits (leb-true (length file) (length out) e)
    by_room false e = lacks λ l. never (sym e ∙ le-leb (length file) (length out) l)

-- so many bytes of the first buffer, and a room for each step
abbrev pub Fitting : ℕ → List Operation → List ℕ → List ℕ → Type 0
Fitting room os out work = (room ≤ length out) × (room_bytes small.row * length os ≤ length work)

-- what is to be left in two buffers is left, or one of them is too short
module _ (P : Ran → Type 0) (room : ℕ) (bytes : List ℕ) (d : View) (os : List Operation) (out work : List ℕ) where
  abbrev all : Ran
  all = record { answer = accepted (length bytes); out = over 0 bytes out; work = overwritten (work_byte small.row d os) (room_bytes small.row * length os) work }

  leaves_cases : (Fitting room os out work → P all) → ((Fitting room os out work → ⊥) → P (both_untouched (record { reason = Room }) out work)) → P (leaves room bytes d os out work)
  leaves_cases fits lacks = by_room (leb room (length out)) (leb (room_bytes small.row * length os) (length work)) refl refl
    where
      by_room : (a b : Bool) → leb room (length out) ≡ a → leb (room_bytes small.row * length os) (length work) ≡ b → P (pick (a && b) all (both_untouched (record { reason = Room }) out work))
      by_room true true e f = fits (leb-true room (length out) e, leb-true (room_bytes small.row * length os) (length work) f)
      by_room true false e f = lacks λ l. never (sym f ∙ le-leb (room_bytes small.row * length os) (length work) l.1)
      by_room false b e f = lacks λ l. never (sym e ∙ le-leb room (length out) l.0)

-- a call that writes a file
pub lent_judged : (e : Read (List ℕ)) (out : List ℕ) → Judged e (λ file. length file ≤ length out) length ((lent e out).bytes ≡ out) (lent e out).answer
unfolding lent
lent_judged (got file n) out =
    stored_cases (λ l. Judged (got file n) (λ file. length file ≤ length out) length (l.bytes ≡ out) l.answer) file out (λ f. fitted (n, refl) f refl) (λ none. short (n, refl) none refl refl)
lent_judged (refused r) out = turned refl refl refl

abbrev pub Both : List ℕ → List ℕ → Ran → Type 0
Both out work r = (r.out ≡ out) × (r.work ≡ work)

module _ {U : Type 0} (room : U → ℕ) (bytes : U → List ℕ) (d : U → View) (os : U → List Operation) (out work : List ℕ) where
  -- what a call leaves by its reading
  abbrev pub left : Read U → Ran
  left (got u n) = leaves (room u) (bytes u) (d u) (os u) out work
  left (refused r) = both_untouched r out work

  pub run_judged : (e : Read U) → Judged e (λ u. Fitting (room u) (os u) out work) (λ u. length (bytes u)) (Both out work (left e)) (left e).answer
  run_judged (got u n) =
      leaves_cases (λ r. Judged (got u n) (λ u. Fitting (room u) (os u) out work) (λ u. length (bytes u)) (Both out work r) r.answer) (room u) (bytes u) (d u) (os u) out work
      (λ f. fitted (n, refl) f refl) (λ none. short (n, refl) none refl (refl, refl))
  run_judged (refused r) = turned refl refl (refl, refl)

-- past what was written a buffer is as it came
over_rest : (file out : List ℕ) → length file ≤ length out → Rest out (accepted (length file)) (over 0 file out)
over_rest file out fits = record { as_long = over_length 0 file out (omega (arith, fits)); stays = over_past file out }

same_rest : (a : Answer) (out : List ℕ) → Rest out a out
same_rest a out = record { as_long = refl; stays = λ i l. refl }

pub lent_rest : (e : Read (List ℕ)) (out : List ℕ) → Rest out (lent e out).answer (lent e out).bytes
unfolding lent
lent_rest (got file n) out = stored_cases (λ l. Rest out l.answer l.bytes) file out (over_rest file out) (λ none. same_rest _ out)
lent_rest (refused r) out = same_rest _ out

pub run_rest : {U : Type 0} (room : U → ℕ) (bytes : U → List ℕ) (d : U → View) (os : U → List Operation) (out work : List ℕ) (e : Read U) → ((u : U) → Came e u → length (bytes u) ≤ room u)
    → Rest out (left room bytes d os out work e).answer (left room bytes d os out work e).out
run_rest room bytes d os out work (got u n) most =
    leaves_cases (λ r. Rest out r.answer r.out) (room u) (bytes u) (d u) (os u) out work (λ f. over_rest (bytes u) out (omega (arith, most u (n, refl), f.0))) (λ none. same_rest _ out)
run_rest room bytes d os out work (refused r) most = same_rest _ out

-- a check: it answers pairs where it counts nothing
pub check_judged : {U : Type 0} (Takes : U → Type 0) (e : Read U) (sets : U → List Announced) → ((u : U) → Takes u → Came e u) → ((u : U) → Came e u → Takes u)
    → ((r : Refusal) → e ≡ refused r → number_of r.reason ≤ 10) → Checks Takes (checked (mapped sets e))
unfolding checked mapped
check_judged Takes (got u n) sets there back reason = record { accepts = λ x t. refl; only = λ h. (u, back u (n, refl)); number = omega arith; alone = λ h. absurd (omega (arith, h)) }
check_judged Takes (refused r) sets there back reason = record {
  accepts = λ x t. refused_out (there x t).1;
  only = λ h. absurd (omega (arith, h, (in_table r.reason).1));
  number = reason r refl;
  alone = λ h s A B. ap (λ r. r A B) (none_shown step_limit s);
}

-- a call that accepts had its room, and has written all its bytes
pub stored_room : (file out : List ℕ) → (stored file out).answer.number ≡ 0 → length file ≤ length out
stored_room file out = stored_cases (λ l. l.answer.number ≡ 0 → length file ≤ length out) file out (λ f h. f) (λ none h. absurd (omega (arith, h)))

module _ (room : ℕ) (bytes : List ℕ) (d : View) (os : List Operation) (out work : List ℕ) where
  pub leaves_room : (leaves room bytes d os out work).answer.number ≡ 0 → Fitting room os out work
  leaves_room = leaves_cases (λ r. r.answer.number ≡ 0 → Fitting room os out work) room bytes d os out work (λ f h. f) (λ none h. absurd (omega (arith, h)))

  pub leaves_there : let r = leaves room bytes d os out work in r.answer.number ≡ 0 → (r.answer ≡ accepted (length bytes)) × (take r.answer.count r.out ≡ bytes)
  leaves_there =
      leaves_cases (λ r. r.answer.number ≡ 0 → (r.answer ≡ accepted (length bytes)) × (take r.answer.count r.out ≡ bytes)) room bytes d os out work
      (λ f h. (refl, over_front bytes out)) (λ none h. absurd (omega (arith, h)))

  -- past its steps the work area is as it came
  pub leaves_past : (i : ℕ) → room_bytes small.row * length os ≤ i → get_or (leaves room bytes d os out work).work i 0 ≡ get_or work i 0
  leaves_past i l =
      leaves_cases (λ r. get_or r.work i 0 ≡ get_or work i 0) room bytes d os out work (λ f. overwritten_past (work_byte small.row d os) (room_bytes small.row * length os) work i l) (λ none. refl)
