-- Lists: what holds of all rows, how many pass a test, and what holds at each place.
use Prim.Native.Nat.{ℕ, zero, suc, ◌+◌, ◌≤◌, ◌<◌}
use mathlib.Core.Path.{◌≡◌, refl, sym}
use mathlib.Core.Bool.{Bool, true, false}
use mathlib.Core.List.{List, [], ◌∷◌, ◌++◌}
use native.Mathlib.Nat.{zero-add}
use native.Mathlib.Omega.{arith}
use lib.ListN.{length, get_or, take, set, replicate}
use Rattle.fields.specs.Read.{pick}
use Rattle.edg.specs.declared.Row.{Row}
use Rattle.edg.specs.Edg.{count}

pub either : {P : Type 0} (b : Bool) → (b ≡ true → P) → (b ≡ false → P) → P
either true f g = f refl
either false f g = g refl

pub data All (P : Row → Type 0) : List Row → Type 0 where
  all_none : All P []
  all_more : {r : Row} {rs : List Row} → P r → All P rs → All P (r ∷ rs)

pub all_append : {P : Row → Type 0} {rs ts : List Row} → All P rs → All P ts → All P (rs ++ ts)
all_append all_none q = q
all_append (all_more p ps) q = all_more p (all_append ps q)

pub all_split : {P : Row → Type 0} (rs ts : List Row) → All P (rs ++ ts) → All P rs × All P ts
all_split [] ts p = (all_none, p)
all_split (r ∷ rs) ts (all_more p ps) = let (q, s) = all_split rs ts ps in (all_more p q, s)

pub all_with : {P Q R : Row → Type 0} {rs : List Row} → ((r : Row) → P r → Q r → R r) → All P rs → All Q rs → All R rs
all_with f all_none all_none = all_none
all_with f (all_more {r} p ps) (all_more q qs) = all_more (f r p q) (all_with f ps qs)

pub all_map : {P Q : Row → Type 0} {rs : List Row} → ((r : Row) → P r → Q r) → All P rs → All Q rs
all_map f ps = all_with (λ r p _. f r p) ps ps

one_most : (b : Bool) → pick b 1 0 ≤ 1
one_most true = omega arith
one_most false = omega arith

module _ (f : Row → Bool) where
  pub count_append : (rs ts : List Row) → count f (rs ++ ts) ≡ count f rs + count f ts
  unfolding count
  count_append [] ts = sym (zero-add (count f ts))
  count_append (r ∷ rs) ts = omega (arith, count_append rs ts)

  pub count_none : {rs : List Row} → All (λ r. f r ≡ false) rs → count f rs ≡ 0
  unfolding count
  count_none all_none = refl
  count_none (all_more p more) = rw (p, count_none more)

  pub count_full : {rs : List Row} → All (λ r. f r ≡ true) rs → count f rs ≡ length rs
  unfolding count
  count_full all_none = refl
  count_full (all_more p more) = rw (p, count_full more) (omega arith)

  pub count_most : (rs : List Row) → count f rs ≤ length rs
  unfolding count
  count_most [] = omega arith
  count_most (r ∷ rs) = omega (arith, one_most (f r), count_most rs)

  pub count_all : (rs : List Row) → length rs ≤ count f rs → All (λ r. f r ≡ true) rs
  unfolding count
  count_all [] h = all_none
  count_all (r ∷ rs) h =
      either (f r)
      (λ e. all_more e (count_all rs (omega (arith, simp e at h))))
      (λ e. absurd (omega (arith, simp e at h, count_most rs)))

  -- a row that passes has what all have
  pub count_some : {P : Row → Type 0} {Q : Type 0} {rs : List Row} → ((r : Row) → P r → f r ≡ true → Q) → 0 < count f rs → All P rs → Q
  unfolding count
  count_some k h all_none = absurd (omega arith)
  count_some k h (all_more {r} p more) = either (f r) (k r p) (λ e. count_some k (omega (arith, simp e at h)) more)

-- rows that pass one of two tests
pub count_split : (f g h : Row → Bool) → ((r : Row) → pick (f r) 1 0 ≡ pick (g r) 1 0 + pick (h r) 1 0) → (rs : List Row) → count f rs ≡ count g rs + count h rs
unfolding count
count_split f g h e [] = refl
count_split f g h e (r ∷ rs) = omega (arith, e r, count_split f g h e rs)

-- what holds at each place, and of what is set there, holds after it
pub set_keeps : {A : Type 0} (P : ℕ → A → Type 0) (l : List A) (i : ℕ) (v d : A) → ((j : ℕ) → P j (get_or l j d)) → P i v → (j : ℕ) → P j (get_or (set l i v) j d)
set_keeps P [] i v d h p j = h j
set_keeps P (x ∷ l) zero v d h p zero = p
set_keeps P (x ∷ l) zero v d h p (suc j) = h (suc j)
set_keeps P (x ∷ l) (suc i) v d h p zero = h zero
set_keeps P (x ∷ l) (suc i) v d h p (suc j) = set_keeps (λ k. P (suc k)) l i v d (λ k. h (suc k)) p j

-- what holds at each place, and of what stands past the end, holds of the first n
pub take_keeps : {A : Type 0} (P : ℕ → A → Type 0) (n : ℕ) (l : List A) (d : A) → ((j : ℕ) → P j (get_or l j d)) → ((j : ℕ) → P j d) → (j : ℕ) → P j (get_or (take n l) j d)
take_keeps P zero l d h q j = q j
take_keeps P (suc n) [] d h q j = q j
take_keeps P (suc n) (x ∷ l) d h q zero = h zero
take_keeps P (suc n) (x ∷ l) d h q (suc j) = take_keeps (λ k. P (suc k)) n l d (λ k. h (suc k)) (λ k. q (suc k)) j

pub same_anywhere : {A : Type 0} (x : A) (n i : ℕ) → get_or (replicate n x) i x ≡ x
same_anywhere x zero i = refl
same_anywhere x (suc n) zero = refl
same_anywhere x (suc n) (suc i) = same_anywhere x n i
