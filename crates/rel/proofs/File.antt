-- The two laws of the program file: what is accepted is what would be written for a legal program; and a legal program, written, reads back.
use Prim.Native.Nat.{ℕ, zero, suc, ◌+◌, ◌^◌, ◌<◌, ◌≤◌}
use mathlib.Core.Bool.{Bool, true, ◌&&◌}
use mathlib.Core.List.{List, [], ◌∷◌, ◌++◌, append-nil}
use mathlib.Core.Path.{◌≡◌, refl, ap}
use native.Mathlib.Nat.{add-zero, zero-add}
use native.Mathlib.Omega.{arith}
use lib.Dec.{leb}
use lib.ListN.{length, get_or}
use borrow.Author.Tests.{lt-ltb, le-leb, ltb-true, leb-true}
use Rattle.meaning.specs.declared.Operation.{Operation}
use Rattle.meaning.specs.declared.Operation.TheVariants.{Table, Itself, Text, Join, Union, Closure, Has, Diff, Both}
use Rattle.meaning.specs.declared.Reason.{Reason}
use Rattle.meaning.specs.declared.Reason.TheVariants.{Bound, Code, Kind, Operand, Extra}
use Rattle.meaning.specs.Limits.{step_limit, words}
use Rattle.meaning.specs.Operations.{LegalOperation, LegalProgram}
use Rattle.meaning.proofs.Bits.{bits_below, below_bits}
use Rattle.meaning.proofs.Sets.{below_suc}
use Rattle.meaning.proofs.Tests.{and_in, and_left, and_right}
use Rattle.fields.specs.Read.{Reader, got, give, ◌>>=◌, judged, byte_below}
use Rattle.fields.specs.Write.{Bytes, byte_of}
use Rattle.fields.proofs.Formats.{Reads, Accepts, Takes, got_same, bind_out, judge_out, reads_bind, reads_last, reads_give, reads_judged, reads_byte, reads_word, reads_header, reads_file, accepts_give, takes_bind, takes_weaken, takes_judged, takes_byte, takes_word, takes_first, takes_file}
use Rattle.rel.specs.declared.Layout.{Layout}
use Rattle.rel.specs.declared.Layout.TheVariants.{Zeros, Single, Pair, Number, Mask}
use Rattle.rel.specs.Rel.{layouts, layout_of, unused, read_x, read_y, operation_of, step_read, steps_read, program, program_file, laid, coded, step_bytes, steps_bytes, program_bytes}

-- what was accepted has passed its test
pub judged_out : (m : Reader ℕ) (test : ℕ → Bool) (r : Reason) (s : List ℕ) (at : ℕ) {n k : ℕ} → judged m test r s at ≡ got n k → test n ≡ true
unfolding judged
judged_out m test r s at h =
    let (a, i, p, q) = bind_out (m s at) _ h in
    let (u, j, v, w) = bind_out _ _ q in
    rw (got_same w).0 at (judge_out at (test a) r s i v).0

pub range_out : (n limit : ℕ) → leb 1 n && leb n limit ≡ true → (1 ≤ n) × (n ≤ limit)
range_out n limit t = (leb-true 1 n (and_left (leb 1 n) (leb n limit) t), leb-true n limit (and_right (leb 1 n) (leb n limit) t))

reads_below : (limit : ℕ) (r : Reason) {n : ℕ} → n < limit → Reads (byte_below limit r) (byte_of n) n
reads_below limit r l = reads_judged _ r (reads_byte _) (lt-ltb _ _ l)

takes_below : (limit : ℕ) (r : Reason) → Takes (byte_below limit r) byte_of (λ n. n < limit)
takes_below limit r = takes_weaken (takes_judged _ r takes_byte) λ n h. (refl, ltb-true _ _ h.1)

reads_unused : {n : ℕ} → n ≡ 0 → Reads unused (byte_of 0) n
reads_unused e = rw e (reads_below 1 Extra (omega arith))

takes_unused : Takes unused (λ _. byte_of 0) (λ n. n ≡ 0)
takes_unused = takes_weaken (takes_below 1 Extra) λ n h. let e : n ≡ 0 = omega arith in (ap byte_of e, e)

-- what x and y may be, for each layout
abbrev pub Fit : ℕ → ℕ → Layout → ℕ → ℕ → Type 0
Fit k s Zeros x y = (x ≡ 0) × (y ≡ 0)
Fit k s Single x y = (x < s) × (y ≡ 0)
Fit k s Pair x y = (x < s) × (y < s)
Fit k s Number x y = (x < words) × (y ≡ 0)
Fit k s Mask x y = (x < 2 ^ k) × (y ≡ 0)

module _ (k s : ℕ) (f : ℕ → ℕ → Operation) where
  reads_xy : (l : Layout) {x y : ℕ} → Fit k s l x y → Reads (read_x k s l >>= λ x. read_y s l >>= λ y. give (f x y)) (laid l x x y) (f x y)
  reads_xy Zeros h = reads_bind _ (reads_unused h.0) (reads_last _ (reads_unused h.1) (reads_give _))
  reads_xy Single h = reads_bind _ (reads_below s Operand h.0) (reads_last _ (reads_unused h.1) (reads_give _))
  reads_xy Pair h = reads_bind _ (reads_below s Operand h.0) (reads_last _ (reads_below s Operand h.1) (reads_give _))
  reads_xy Number h = reads_last _ (reads_word _) (rw h.1 (reads_give _))
  reads_xy Mask h = reads_last _ (reads_judged _ Kind (reads_word _) (lt-ltb _ _ h.0)) (rw h.1 (reads_give _))

  takes_xy : (l : Layout) {Q : Operation → List ℕ → Type 0} → ((x y : ℕ) → Fit k s l x y → Q (f x y) (laid l x x y))
      → Accepts (read_x k s l >>= λ x. read_y s l >>= λ y. give (f x y)) Q
  takes_xy Zeros q = takes_bind takes_unused λ x h. takes_bind takes_unused λ y i. accepts_give (q x y (h, i))
  takes_xy Single q = takes_bind (takes_below s Operand) λ x h. takes_bind takes_unused λ y i. accepts_give (q x y (h, i))
  takes_xy Pair q = takes_bind (takes_below s Operand) λ x h. takes_bind (takes_below s Operand) λ y i. accepts_give (q x y (h, i))
  takes_xy Number q = takes_bind takes_word λ x h. accepts_give (q x 0 (h, refl))
  takes_xy Mask q = takes_bind (takes_judged _ Kind takes_word) λ x h. accepts_give (q x 0 (ltb-true _ _ h.1, refl))

-- an operation has the code
abbrev pub Known : ℕ → Type 0
Known code = leb 1 code && leb code (length layouts) ≡ true

-- The operations, row by row.
module _ (k s : ℕ) where
  -- what holds of each row holds of a legal operation and what is written for it
  pub by_row : (P : Operation → List ℕ → Type 0) → ((code x y : ℕ) → Known code → Fit k s (layout_of code) x y → P (operation_of code x y) (coded code x x y))
      → (o : Operation) → LegalOperation k s o → P o (step_bytes o)
  unfolding coded LegalOperation
  by_row P f (Table m) h = f 1 m 0 refl (below_bits k m h, refl)
  by_row P f Itself h = f 2 0 0 refl (refl, refl)
  by_row P f (Text t) h = f 3 t 0 refl (h, refl)
  by_row P f (Join a b) h = f 4 a b refl h
  by_row P f (Union a b) h = f 5 a b refl h
  by_row P f (Closure a) h = f 6 a 0 refl (h, refl)
  by_row P f (Has a) h = f 7 a 0 refl (h, refl)
  by_row P f (Diff a b) h = f 8 a b refl h
  by_row P f (Both a b) h = f 9 a b refl h

  module _ (x y : ℕ) where
    -- what is made of x and y is legal, and written as it stood
    abbrev Made : ℕ → Type 0
    Made code = Fit k s (layout_of code) x y → (coded code x x y ≡ step_bytes (operation_of code x y)) × LegalOperation k s (operation_of code x y)

    made : (code : ℕ) → (1 ≤ code) × (code ≤ length layouts) → Made code
    unfolding coded LegalOperation
    made code h =
        up_to 9 (λ i. (refl, i))
        (up_to 8 (λ i. (refl, i))
        (up_to 7 (λ i. (refl, i.0))
        (up_to 6 (λ i. (refl, i.0))
        (up_to 5 (λ i. (refl, i))
        (up_to 4 (λ i. (refl, i))
        (up_to 3 (λ i. (refl, i.0))
        (up_to 2 (λ i. (refl, tt))
        (up_to 1 (λ i. (refl, bits_below k x i.0)) (λ none. absurd (omega arith))))))))))
        (omega arith)
      where
        up_to : (n : ℕ) → Made n → (code < n → Made code) → code < suc n → Made code
        up_to n = below_suc {n = n} Made code

  reads_step : (o : Operation) → LegalOperation k s o → Reads (step_read k s) (step_bytes o) o
  unfolding step_read coded
  reads_step = by_row (λ o e. Reads (step_read k s) e o) λ code x y t i. reads_bind _ (reads_judged _ Code (reads_byte code) t) (reads_xy k s (operation_of code) (layout_of code) i)

  takes_step : Takes (step_read k s) step_bytes (LegalOperation k s)
  unfolding step_read coded
  takes_step =
      takes_bind (takes_judged _ Code takes_byte) λ code h. takes_xy k s (operation_of code) (layout_of code) λ x y i. made x y code (range_out code (length layouts) h.1) i

-- The steps from s on, each legal at its place.
abbrev pub Legal : ℕ → ℕ → List Operation → Type 0
Legal k s os = (i : ℕ) → i < length os → LegalOperation k (s + i) (get_or os i Itself)

later : (s i : ℕ) → s + suc i ≡ suc s + i
later s i = omega arith

module _ (k s : ℕ) (o : Operation) (os : List Operation) where
  pub legal_first : Legal k s (o ∷ os) → LegalOperation k s o
  legal_first h = rw add-zero at (h 0 (omega arith))

  pub legal_rest : Legal k s (o ∷ os) → Legal k (suc s) os
  legal_rest h i l = rw later at (h (suc i) (omega arith))

  legal_more : LegalOperation k s o → Legal k (suc s) os → Legal k s (o ∷ os)
  legal_more h t zero l = rw add-zero h
  legal_more h t (suc i) l = rw later (t i (omega arith))

reads_steps : (k s : ℕ) (os : List Operation) → Legal k s os → Reads (steps_read k s (length os)) (steps_bytes os) os
unfolding steps_read steps_bytes
reads_steps k s [] h = reads_give []
reads_steps k s (o ∷ os) h = reads_bind _ (reads_step k s o (legal_first k s o os h)) (reads_last _ (reads_steps k (suc s) os (legal_rest k s o os h)) (reads_give _))

takes_steps : (k s n : ℕ) → Takes (steps_read k s n) steps_bytes (λ os. (n ≡ length os) × Legal k s os)
unfolding steps_read steps_bytes
takes_steps k s zero = accepts_give (refl, (refl, λ i l. absurd (omega arith)))
takes_steps k s (suc n) =
    takes_bind (takes_step k s) λ o h. takes_bind (takes_steps k (suc s) n) λ os i.
    accepts_give (ap (λ l. step_bytes o ++ l) (append-nil (steps_bytes os)), (ap suc i.0, legal_more k s o os h i.1))

pub all_legal : {k : ℕ} {os : List Operation} → LegalProgram step_limit k os → Legal k 0 os
all_legal h i l = rw zero-add (h.operations i l)

reads_program : (k : ℕ) (os : List Operation) → LegalProgram step_limit k os → Reads (program k) (program_bytes os) os
unfolding program program_bytes
reads_program k os h =
    reads_bind _ (reads_header 0x52 0x45 0x4C 1 1 (omega arith) (omega arith))
    (reads_bind _ (reads_judged _ Bound (reads_byte _) (and_in (le-leb _ _ h.some_step) (le-leb _ _ h.most_steps))) (reads_steps k 0 os (all_legal h)))

takes_program : (k : ℕ) → Takes (program k) program_bytes (LegalProgram step_limit k)
unfolding program program_bytes
takes_program k =
    takes_bind (takes_first 0x52 0x45 0x4C) λ _ _. takes_bind (takes_judged _ Bound takes_byte) λ n h. takes_weaken (takes_steps k 0 n) λ os i.
    let e = i.0 in
    let (some, most) = range_out n step_limit h.1 in
    (rw e, record { some_step = omega arith; most_steps = omega arith; operations = λ s l. rw zero-add at (i.1 s l) })

pub program_read_lem : {s : List ℕ} {k n : ℕ} {os : List Operation} → Bytes s → program_file k s 0 ≡ got os n → LegalProgram step_limit k os × (s ≡ program_bytes os)
unfolding program_file
program_read_lem {s} {k} bytes h = let (e, legal, _) = takes_file s (takes_program k) bytes h in (legal, e)

pub program_written : {k : ℕ} {os : List Operation} → LegalProgram step_limit k os → program_file k (program_bytes os) 0 ≡ got os (length (program_bytes os))
unfolding program_file
program_written {k} {os} h = reads_file (reads_program k os h)
