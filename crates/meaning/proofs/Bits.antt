-- Laws of the bits of a number and of masks.
use Prim.Native.Nat.{ℕ, zero, suc, ◌+◌, ◌*◌, ◌/◌, ◌%◌, ◌^◌, ◌<◌, ◌≤◌, max, min}
use mathlib.Core.Path.{◌≡◌, refl, sym, ap, ◌∙◌, fun_ext}
use mathlib.Core.Bool.{Bool, true, false, ◌&&◌, ◌||◌, cond}
use native.Mathlib.Nat.{div-div-eq-div-mul, pow-succ', div-one}
use native.Mathlib.Omega.{arith}
use lib.Bits.{bit_and, bit_or, and_step, or_step, or_block, shifted_half, shifted_even}
use lib.Dec.{eqb, eqb-zero-suc, eqb-suc-zero, eqb-suc-suc}
use lib.Pow.{shl_exact}
use borrow.Author.Tests.{eq-eqb, eqb-true, eqb-false}
use Rattle.meaning.specs.Sets.{bit, mask}
use Rattle.meaning.proofs.Tests.{same}
use Rattle.meaning.proofs.Sets.{bit_none, bit_mask, mask_below_lem}

-- bit k is the lowest after a shift by k
pub bit_shifted : (k m : ℕ) → eqb (m / 2 ^ k % 2) 1 ≡ bit m k
unfolding bit
bit_shifted zero m = ap (λ (x : ℕ). eqb (x % 2) 1) (div-one m)
bit_shifted (suc k) m =
    ap (λ (x : ℕ). eqb (x % 2) 1) (ap (λ (p : ℕ). m / p) (pow-succ' 2 k) ∙ sym (div-div-eq-div-mul m 2 (2 ^ k)))
    ∙ bit_shifted k (m / 2)

-- a number below 2 ^ n has no bit from n on
pub bits_below : (n m : ℕ) → m < 2 ^ n → (i : ℕ) → bit m i ≡ true → i < n
unfolding bit
bits_below zero m l zero h = let e = eqb-true (m % 2) 1 h in absurd (omega arith)
bits_below zero m l (suc i) h = let p = bits_below zero (m / 2) (omega arith) i h in absurd (omega arith)
bits_below (suc n) m l zero h = omega arith
bits_below (suc n) m l (suc i) h = let p = bits_below n (m / 2) (omega arith) i h in omega arith

-- a number with no bit is 0
no_bits : (fuel m : ℕ) → m ≤ fuel → ((i : ℕ) → bit m i ≡ true → ⊥) → m ≡ 0
unfolding bit
no_bits zero m l h = omega arith
no_bits (suc fuel) m l h =
    let half : m / 2 ≡ 0 = no_bits fuel (m / 2) (omega arith) (λ i. h (suc i)) in
    let low : m % 2 ≡ 1 → ⊥ = λ e. h 0 (eq-eqb (m % 2) 1 e) in
    omega arith

-- and the other way round: a number all of whose bits are below n
pub below_bits : (n m : ℕ) → ((i : ℕ) → bit m i ≡ true → i < n) → m < 2 ^ n
unfolding bit
below_bits zero m h = omega (arith, no_bits m m (omega arith) (λ i b. omega (arith, h i b)))
below_bits (suc n) m h = omega (arith, below_bits n (m / 2) (λ i b. omega (arith, h (suc i) b)))

-- the number of a bit
abbrev digit : Bool → ℕ
digit b = cond b 1 0

pub mask_cong : (n : ℕ) (f g : ℕ → Bool) → ((i : ℕ) → i < n → f i ≡ g i) → mask n f ≡ mask n g
unfolding mask
mask_cong zero f g h = refl
mask_cong (suc n) f g h = rw (h 0 (omega arith), mask_cong n (λ i. f (suc i)) (λ i. g (suc i)) (λ i l. h (suc i) (omega arith)))

pub mask_none : (n : ℕ) → mask n (λ i. false) ≡ 0
unfolding mask
mask_none zero = refl
mask_none (suc n) = rw (mask_none n)

-- a number below 2 ^ n is the mask of its bits
pub mask_bits : (n m : ℕ) → m < 2 ^ n → mask n (bit m) ≡ m
unfolding mask bit
mask_bits zero m l = omega arith
mask_bits (suc n) m l = omega (arith, mask_bits n (m / 2) (omega arith), low (eqb (m % 2) 1) refl)
  where
    low : (b : Bool) → eqb (m % 2) 1 ≡ b → digit b ≡ m % 2
    low true e = omega (arith, eqb-true (m % 2) 1 e)
    low false e = let n = eqb-false (m % 2) 1 e in omega arith

-- the mask of one number
pub mask_single : (n k : ℕ) → k < n → mask n (λ i. eqb i k) ≡ 2 ^ k
unfolding mask
mask_single zero k l = absurd (omega arith)
mask_single (suc n) zero l = simp (eqb-suc-zero, mask_none n)
mask_single (suc n) (suc k) l = simp (eqb-suc-suc, eqb-zero-suc, mask_single n k (omega arith)) (omega arith)

digit_small : (a : Bool) → digit a < 2 ^ 1
digit_small true = omega arith
digit_small false = omega arith

digit_or : (a b : Bool) → bit_or (digit a) (digit b) ≡ digit (a || b)
digit_or true true = refl
digit_or true false = refl
digit_or false true = refl
digit_or false false = refl

pub mask_or : (n : ℕ) (f g : ℕ → Bool) → bit_or (mask n f) (mask n g) ≡ mask n (λ i. f i || g i)
unfolding mask
mask_or zero f g = refl
mask_or (suc n) f g =
    or_block 1 (mask n (λ i. f (suc i))) (mask n (λ i. g (suc i))) (digit (f 0)) (digit (g 0)) (digit_small (f 0)) (digit_small (g 0))
    ∙ rw (digit_or (f 0) (g 0), mask_or n (λ i. f (suc i)) (λ i. g (suc i)))

-- what holds of all pairs of binary digits
by_digits : (P : ℕ → ℕ → Type 0) → P 0 0 → P 0 1 → P 1 0 → P 1 1 → (x y : ℕ) → x < 2 → y < 2 → P x y
by_digits P a b c d zero zero p q = a
by_digits P a b c d zero (suc zero) p q = b
by_digits P a b c d (suc zero) zero p q = c
by_digits P a b c d (suc zero) (suc zero) p q = d
by_digits P a b c d zero (suc (suc y)) p q = absurd (omega arith)
by_digits P a b c d (suc zero) (suc (suc y)) p q = absurd (omega arith)
by_digits P a b c d (suc (suc x)) y p q = absurd (omega arith)

-- an operation on numbers that is f on their binary digits is t on their bits, if f is t on digits
module _ (op f : ℕ → ℕ → ℕ) (t : Bool → Bool → Bool)
    (step : (a b : ℕ) → op a b ≡ op (a / 2) (b / 2) * 2 + f (a % 2) (b % 2))
    (small : (x y : ℕ) → x < 2 → y < 2 → f x y < 2)
    (digit : (x y : ℕ) → x < 2 → y < 2 → eqb (f x y) 1 ≡ t (eqb x 1) (eqb y 1)) where
  bitwise : (k a b : ℕ) → bit (op a b) k ≡ t (bit a k) (bit b k)
  unfolding bit
  bitwise zero a b =
      let s = small (a % 2) (b % 2) (omega arith) (omega arith) in
      let low : op a b % 2 ≡ f (a % 2) (b % 2) = omega (arith, step a b) in
      ap (λ (x : ℕ). eqb x 1) low ∙ digit (a % 2) (b % 2) (omega arith) (omega arith)
  bitwise (suc k) a b =
      let s = small (a % 2) (b % 2) (omega arith) (omega arith) in
      let half : op a b / 2 ≡ op (a / 2) (b / 2) = omega (arith, step a b) in
      ap (λ (m : ℕ). bit m k) half ∙ bitwise k (a / 2) (b / 2)

pub bit_or_lem : (k a b : ℕ) → bit (bit_or a b) k ≡ bit a k || bit b k
bit_or_lem = bitwise bit_or max ◌||◌ or_step (λ x y p q. omega arith) (by_digits _ refl refl refl refl)

pub bit_and_lem : (k a b : ℕ) → bit (bit_and a b) k ≡ bit a k && bit b k
bit_and_lem = bitwise bit_and min ◌&&◌ and_step (λ x y p q. omega arith) (by_digits _ refl refl refl refl)

-- 2 ^ m is above m
below_power : (m : ℕ) → m < 2 ^ m
below_power zero = omega arith
below_power (suc m) = omega (arith, below_power m)

-- two numbers with the same bits are equal
pub same_bits : (m n : ℕ) → bit m ≡ bit n → m ≡ n
same_bits m n e =
    let l = below_power (m + n) in
    sym (mask_bits (m + n) m (omega arith)) ∙ ap (mask (m + n)) e ∙ mask_bits (m + n) n (omega arith)

-- a set of numbers below n has the bits of its mask
pub bits_of_mask : (n : ℕ) (f : ℕ → Bool) → ((i : ℕ) → f i ≡ true → i < n) → bit (mask n f) ≡ f
bits_of_mask n f small =
    fun_ext λ i. same (bit (mask n f) i) (f i) (λ h. sym (bit_mask n f i (mask_below_lem n f i h)) ∙ h) (λ h. bit_mask n f i (small i h) ∙ h)
