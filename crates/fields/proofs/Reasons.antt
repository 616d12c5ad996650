-- What turns a file away has a number from 1 to 10: the other two reasons are no reader's.
use Prim.Native.Nat.{ℕ, ◌+◌, ◌-◌, ◌≤◌}
use mathlib.Core.Bool.{Bool, true, false, ◌&&◌}
use mathlib.Core.List.{List}
use mathlib.Core.Path.{◌≡◌}
use native.Mathlib.Omega.{arith}
use lib.Dec.{eqb, ltb, leb}
use lib.ListN.{length, get_or}
use Rattle.meaning.specs.declared.Reason.{Reason}
use Rattle.meaning.specs.declared.Reason.TheVariants.{Ended, Mark, Version, Extra}
use Rattle.meaning.specs.declared.Refusal.{Refusal}
use Rattle.meaning.specs.Refused.{number_of}
use Rattle.fields.specs.Read.{Read, Reader, got, refused, bind, pick, give, refuse, judge, judged, ◌>>=◌, byte, word, mark, header, end, ended}

-- a refusal has a number up to 10
pub data Why {A : Type 0} : Read A → Type 0 where
  none : {a : A} {at : ℕ} → Why (got a at)
  low : {r : Refusal} → number_of r.reason ≤ 10 → Why (refused r)

-- whatever m refuses, it refuses so
pub record OfFile {A : Type 0} (m : Reader A) : Type 0 where
  pub why : (s : List ℕ) (at : ℕ) → Why (m s at)

why_bind : {A B : Type 0} {e : Read A} (f : A → ℕ → Read B) → Why e → ((a : A) (at : ℕ) → Why (f a at)) → Why (bind e f)
why_bind f none q = q _ _
why_bind f (low l) q = low l

why_out : {A : Type 0} {e : Read A} {r : Refusal} → Why e → e ≡ refused r → number_of r.reason ≤ 10
why_out none h = let z : ◌≡◌ {A = ℕ} 0 1 = cc in absurd (omega arith)
why_out {r = r} (low {r = q} l) h = let same : q ≡ r = cc in rw same at l

pub reason_low : {A : Type 0} {m : Reader A} → OfFile m → (s : List ℕ) {r : Refusal} → m s 0 ≡ refused r → number_of r.reason ≤ 10
reason_low p s h = why_out (p.why s 0) h

pub of_give : {A : Type 0} {x : A} → OfFile (give x)
of_give = record { why = λ s at. none }

-- This serves `m >> n` too, which is `m >>= λ _. n`.
pub of_bind : {A B : Type 0} {m : Reader A} {f : A → Reader B} → OfFile m → ((a : A) → OfFile (f a)) → OfFile (m >>= f)
of_bind p q = record { why = λ s at. why_bind _ (p.why s at) (λ a next. (q a).why s next) }

pub of_pick : {A : Type 0} (b : Bool) {m n : Reader A} → OfFile m → OfFile n → OfFile (pick b m n)
of_pick true p q = p
of_pick false p q = q

module _ (r : Reason) (l : number_of r ≤ 10) where
  why_pick : {A : Type 0} (b : Bool) {e : Read A} → Why e → Why (pick b e (refused (record { reason = r })))
  why_pick true p = p
  why_pick false p = low l

  pub of_refuse : {A : Type 0} → OfFile {A = A} (refuse r)
  of_refuse = record { why = λ s at. low l }

  pub of_judge : (place : ℕ) (b : Bool) → OfFile (judge place b r)
  of_judge place b = record { why = λ s at. why_pick b none }

  pub of_judged : {A : Type 0} {m : Reader A} (test : A → Bool) → OfFile m → OfFile (judged m test r)
  unfolding judged
  of_judged test p = record { why = λ s at. why_bind _ (p.why s at) λ a next. why_bind _ (why_pick (test a) none) λ _ _. none }

-- The fields.
pub of_byte : OfFile byte
unfolding byte
of_byte = record { why = λ s at. why_pick Ended (omega arith) (ltb at (length s)) none }

pub of_word : OfFile word
unfolding word
of_word = record { why = λ s at. why_pick Ended (omega arith) (leb 2 (length s - at)) none }

of_mark : (a b c : ℕ) → OfFile (mark a b c)
unfolding mark
of_mark a b c =
    record {
      why = λ s at.
          why_pick Ended (omega arith) (leb 3 (length s - at))
          (why_pick Mark (omega arith) (eqb (get_or s at 0) a && (eqb (get_or s (at + 1) 0) b && eqb (get_or s (at + 2) 0) c)) none);
    }

pub of_header : (a b c latest : ℕ) → OfFile (header a b c latest)
unfolding header
of_header a b c latest = of_bind (of_mark a b c) λ _. of_judged Version (omega arith) _ of_word

pub of_end : OfFile end
unfolding end
of_end = record { why = λ s at. why_pick Extra (omega arith) (leb (length s) at) none }

pub of_ended : {A : Type 0} {m : Reader A} → OfFile m → OfFile (ended m)
of_ended p = of_bind p λ x. of_bind of_end λ _. of_give
