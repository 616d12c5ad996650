-- Laws of the search, the list and the mask.
use Prim.Native.Nat.{ℕ, zero, suc, ◌+◌, ◌*◌, ◌/◌, ◌%◌, ◌<◌, suc-le-suc}
use mathlib.Core.Path.{◌≡◌, refl, sym, ◌∙◌}
use mathlib.Core.Bool.{Bool, true, false, cond}
use mathlib.Core.Logic.{⊎_elim}
use native.Mathlib.Nat.{eq-or-lt_of_le, le_of_suc-le-suc, not-suc-le-zero}
use native.Mathlib.Omega.{arith}
use lib.Dec.{eqb}
use borrow.Author.Tests.{eq-eqb, ne_eqb}
use mathlib.Core.List.{[]}
use Rattle.meaning.specs.Sets.{any, listed, bit, mask}
use Rattle.meaning.proofs.Tests.{never, fails, or_left, or_right, or_out}

-- what holds of n and of each number below n holds of each below suc n
pub below_suc : {n : ℕ} (P : ℕ → Type 0) (u : ℕ) → P n → (u < n → P u) → u < suc n → P u
below_suc {n} P u at_n less l = ⊎_elim (λ e. rw (equal e) at_n) (λ m. less (le_of_suc-le-suc m)) (eq-or-lt_of_le l)
  where
    equal : suc u ≡ suc n → u ≡ n
    equal e = omega arith

pub any_in : (n : ℕ) (f : ℕ → Bool) (u : ℕ) → u < n → f u ≡ true → any n f ≡ true
unfolding any
any_in zero f u l h = absurd (not-suc-le-zero l)
any_in (suc n) f u l h =
    below_suc (λ x. f x ≡ true → any (suc n) f ≡ true) u (or_left (f n) (any n f)) (λ m e. or_right (f n) (any n f) (any_in n f u m e)) l h

pub any_out : {P : Type 0} (n : ℕ) (f : ℕ → Bool) → ((u : ℕ) → u < n → f u ≡ true → P) → any n f ≡ true → P
unfolding any
any_out zero f k h = never h
any_out (suc n) f k h = or_out (f n) (any n f) (k n (omega arith)) (any_out n f (λ u l. k u (omega arith))) h

pub any_cong : (n : ℕ) (f g : ℕ → Bool) → ((u : ℕ) → u < n → f u ≡ g u) → any n f ≡ any n g
unfolding any
any_cong zero f g h = refl
any_cong (suc n) f g h = rw (h n (omega arith), any_cong n f g (λ u l. h u (omega arith)))

pub listed_cong : (n : ℕ) (f g : ℕ → Bool) → ((u : ℕ) → u < n → f u ≡ g u) → listed n f ≡ listed n g
unfolding listed
listed_cong zero f g h = refl
listed_cong (suc n) f g h = rw (h n (omega arith), listed_cong n f g (λ u l. h u (omega arith)))

pub listed_none : (n : ℕ) (f : ℕ → Bool) → ((u : ℕ) → f u ≡ true → ⊥) → listed n f ≡ []
unfolding listed
listed_none zero f h = refl
listed_none (suc n) f h = rw (fails (f n) (h n), listed_none n f h)

half : (b : Bool) (m : ℕ) → (m * 2 + cond b 1 0) / 2 ≡ m
half true m = omega arith
half false m = omega arith

pub bit_mask : (n : ℕ) (f : ℕ → Bool) (i : ℕ) → i < n → bit (mask n f) i ≡ f i
unfolding bit mask
bit_mask zero f i l = absurd (not-suc-le-zero l)
bit_mask (suc n) f zero l = low (f 0) (mask n (λ i. f (suc i)))
  where
    low : (b : Bool) (m : ℕ) → eqb ((m * 2 + cond b 1 0) % 2) 1 ≡ b
    low true m = eq-eqb ((m * 2 + 1) % 2) 1 (omega arith)
    low false m = ne_eqb ((m * 2 + 0) % 2) 1 (λ e. omega arith)
bit_mask (suc n) f (suc i) l =
    rw (half (f 0) (mask n (λ i. f (suc i)))) (bit_mask n (λ i. f (suc i)) i (le_of_suc-le-suc l))

pub bit_none : (i : ℕ) → bit 0 i ≡ false
unfolding bit
bit_none zero = refl
bit_none (suc i) = bit_none i

-- a mask has no bit from n on
pub mask_below_lem : (n : ℕ) (f : ℕ → Bool) (i : ℕ) → bit (mask n f) i ≡ true → i < n
unfolding bit mask
mask_below_lem zero f i h = never (sym (bit_none i) ∙ h)
mask_below_lem (suc n) f zero h = omega arith
mask_below_lem (suc n) f (suc i) h =
    suc-le-suc (mask_below_lem n (λ i. f (suc i)) i (rw (half (f 0) (mask n (λ i. f (suc i)))) at h))
