-- The closure, as computed, is one or more steps: for any relation on the numbers below n, cycles included.
use Prim.Native.Nat.{ℕ, zero, suc, ◌+◌, ◌<◌, ◌≤◌}
use mathlib.Core.Path.{◌≡◌, refl}
use mathlib.Core.Bool.{Bool, true, false, ◌&&◌, cond}
use mathlib.Core.Logic.{⊎_elim}
use native.Mathlib.Nat.{eq-or-lt_of_le, not-suc-le-zero}
use native.Mathlib.Omega.{arith}
use Rattle.meaning.specs.Sets.{any}
use Rattle.meaning.specs.Relations.{Relation, OneOrMore, one, more, within, closure}
use Rattle.meaning.proofs.Tests.{never, and_in, and_left, and_right, or_left, or_right, or_out}
use Rattle.meaning.proofs.Sets.{below_suc, any_in, any_out}

-- how many numbers below n pass
counted : ℕ → (ℕ → Bool) → ℕ
counted zero f = 0
counted (suc n) f = cond (f n) 1 0 + counted n f

-- a test that implies another adds no more to a count; if it adds as much, the two agree
adds_mono : (a b : Bool) → (a ≡ true → b ≡ true) → cond a 1 0 ≤ cond b 1 0
adds_mono true b h = rw (h refl) (omega arith)
adds_mono false b h = omega arith

adds_back : (a b : Bool) → cond b 1 0 ≤ cond a 1 0 → b ≡ true → a ≡ true
adds_back true b l h = refl
adds_back false true l h = absurd (omega arith)
adds_back false false l h = h

counted_most : (n : ℕ) (f : ℕ → Bool) → counted n f ≤ n
unfolding counted
counted_most zero f = omega arith
counted_most (suc n) f = omega (arith, adds_mono (f n) true (λ h. refl), counted_most n f)

module _ (f g : ℕ → Bool) (implies : (u : ℕ) → f u ≡ true → g u ≡ true) where
  counted_mono : (n : ℕ) → counted n f ≤ counted n g
  unfolding counted
  counted_mono zero = omega arith
  counted_mono (suc n) = omega (arith, adds_mono (f n) (g n) (implies n), counted_mono n)

  -- where as many pass f as g, the same do
  counted_same : (n : ℕ) → counted n f ≡ counted n g → (u : ℕ) → u < n → g u ≡ true → f u ≡ true
  unfolding counted
  counted_same zero e u l = absurd (not-suc-le-zero l)
  counted_same (suc n) e u l =
      let a = adds_mono (f n) (g n) (implies n) in
      let b = counted_mono n in
      below_suc (λ x. g x ≡ true → f x ≡ true) u (adds_back (f n) (g n) (omega arith)) (counted_same n (omega arith) u) l

-- the rows of r join numbers below n
abbrev pub On : ℕ → Relation → Type 0
On n r = (v w : ℕ) → r v w ≡ true → (v < n) × (w < n)

module _ (n : ℕ) (r : Relation) (v : ℕ) where
  -- one to k steps lead from v to w
  abbrev found : ℕ → ℕ → Bool
  found k w = within k n r v w

  -- one to k steps lead from v to u, and one more to w
  abbrev through : ℕ → ℕ → ℕ → Bool
  through k w u = r u w && found k u

  found_one : (k w : ℕ) → r v w ≡ true → found (suc k) w ≡ true
  unfolding within
  found_one k w = or_left (r v w) (any n (through k w))

  found_more : (k u w : ℕ) → u < n → r u w ≡ true → found k u ≡ true → found (suc k) w ≡ true
  unfolding within
  found_more k u w l e h = or_right (r v w) (any n (through k w)) (any_in n (through k w) u l (and_in e h))

  found_out : {P : Type 0} (k w : ℕ) → (r v w ≡ true → P) → ((u : ℕ) → u < n → r u w ≡ true → found k u ≡ true → P) → found (suc k) w ≡ true → P
  unfolding within
  found_out k w f g =
      or_out (r v w) (any n (through k w)) f (any_out n (through k w) (λ u l h. g u l (and_left (r u w) (found k u) h) (and_right (r u w) (found k u) h)))

  found_sound : (k w : ℕ) → found k w ≡ true → OneOrMore r v w
  unfolding within
  found_sound zero w h = never h
  found_sound (suc k) w h = found_out k w one (λ u l e p. more (found_sound k u p) e) h

  found_grows : (k w : ℕ) → found k w ≡ true → found (suc k) w ≡ true
  unfolding within
  found_grows zero w h = never h
  found_grows (suc k) w h =
      found_out k w (found_one (suc k) w) (λ u l e p. found_more (suc k) u w l e (found_grows k u p)) h

  -- k steps are enough
  abbrev Enough : ℕ → Type 0
  Enough k = (w : ℕ) → OneOrMore r v w → found k w ≡ true

  module _ (on : On n r) where
    -- if one more step finds nothing new, k steps are enough
    stops : (k : ℕ) → ((u : ℕ) → u < n → found (suc k) u ≡ true → found k u ≡ true) → Enough k
    stops k h w (one e) = h w (on v w e).1 (found_one k w e)
    stops k h w (more {u} p e) = h w (on u w e).1 (found_more k u w (on u w e).0 e (stops k h u p))

    -- so it is left to show it where one more step finds more numbers
    stops_or_grows : (k : ℕ) → (counted n (found k) < counted n (found (suc k)) → Enough k) → Enough k
    stops_or_grows k more-found =
        ⊎_elim (λ e. stops k (counted_same (found k) (found (suc k)) (found_grows k) n e)) more-found
        (eq-or-lt_of_le (counted_mono (found k) (found (suc k)) (found_grows k) n))

    -- k + 1 steps that each find more would find more than k numbers
    enough : (k : ℕ) → counted n (found (suc k)) ≤ k → Enough k
    enough zero c = stops_or_grows zero (λ l. absurd (omega arith))
    enough (suc k) c = stops_or_grows (suc k) (λ l w p. found_grows k w (enough k (omega arith) w p))

pub closure_sound : (n : ℕ) (r : Relation) {v w : ℕ} → closure n r v w ≡ true → OneOrMore r v w
unfolding closure
closure_sound n r {v} {w} = found_sound n r v n w

pub closure_complete : (n : ℕ) (r : Relation) → On n r → {v w : ℕ} → OneOrMore r v w → closure n r v w ≡ true
unfolding closure
closure_complete n r on {v} {w} = enough n r v on n (counted_most n (found n r v (suc n))) w

-- steps of r become steps of s, where f takes each row of r to one of s
pub steps_map : (r s : Relation) (f : ℕ → ℕ) → ((u w : ℕ) → r u w ≡ true → s (f u) (f w) ≡ true) → {v w : ℕ} → OneOrMore r v w → OneOrMore s (f v) (f w)
steps_map r s f k {v} {w} (one h) = one (k v w h)
steps_map r s f k {v} {w} (more {u} m h) = more (steps_map r s f k m) (k u w h)
