-- Laws of a number's bits: shifted, mixed, the lowest that is set, and the number that they make; and of the words of a row.
use Prim.Native.Nat.{ℕ, zero, suc, ◌+◌, ◌-◌, ◌*◌, ◌/◌, ◌%◌, ◌^◌, ◌<◌, suc-le-suc}
use mathlib.Core.Path.{◌≡◌, refl, sym, ap, ap₂, ◌∙◌}
use mathlib.Core.Bool.{Bool, true, false, not, ◌&&◌, and-true, and_self, cond}
use mathlib.Core.List.{List}
use native.Mathlib.Nat.{div-div-eq-div-mul, pow-succ', div-one, pow-suc, zero-add, suc-add, one-mul, not-suc-le-zero}
use native.Mathlib.Omega.{arith}
use borrow.Author.Rules.{rules}
use borrow.Author.Tests.{eq-eqb, ne_eqb, eqb-true, eqb-false}
use lib.Dec.{eqb, eqb-suc-zero, eqb-suc-suc}
use lib.Pow.{shl_exact}
use lib.ListN.{get_or}
use mir.Syntax.{w64}
use mir.Val.{Fits}
use lib.Bits.{bit_and, bit_or, and_lt, or_lt}
use lib.Count.{count_trailing_zeros, under}
use Rattle.meaning.specs.Sets.{bit, mask}
use Rattle.meaning.proofs.Sets.{bit_none}
use Rattle.meaning.proofs.Bits.{bit_or_lem, bit_and_lem}
use Rattle.rows.specs.declared.Mix.{Mix}
use Rattle.rows.specs.declared.Mix.TheVariants.{Either, Both, First}
use Rattle.rows.specs.Inside.Rows.{bit_in, in_row, mixes, mixed_word, Lowest}

-- bit i + j is bit j after a shift by i
pub bit_shifted : (i j m : ℕ) → bit (m / 2 ^ i) j ≡ bit m (i + j)
unfolding bit
bit_shifted zero j m = rw (zero-add, div-one)
bit_shifted (suc i) j m = rw (suc-add, pow-succ', ← (div-div-eq-div-mul m 2 (2 ^ i))) (bit_shifted i j (m / 2))

-- what holds of each digit
pub digit : (P : ℕ → Type 0) → P 0 → P 1 → (x : ℕ) → x < 2 → P x
digit P a b zero l = a
digit P a b (suc zero) l = b
digit P a b (suc (suc x)) l = absurd (omega arith)

-- every bit turned round
pub bit_not : (n i a : ℕ) → a < 2 ^ n → i < n → bit (2 ^ n - 1 - a) i ≡ not (bit a i)
unfolding bit
bit_not zero i a l m = absurd (not-suc-le-zero m)
bit_not (suc n) zero a l m =
    let low : (2 ^ suc n - 1 - a) % 2 ≡ 1 - a % 2 = omega (arith, pow-suc 2 n) in
    rw low (digit (λ x. eqb (1 - x) 1 ≡ not (eqb x 1)) refl refl (a % 2) (omega arith))
bit_not (suc n) (suc i) a l m =
    let half : (2 ^ suc n - 1 - a) / 2 ≡ 2 ^ n - 1 - a / 2 = omega (arith, pow-suc 2 n) in
    rw half (bit_not n i (a / 2) (omega (arith, pow-suc 2 n)) (omega arith))

-- a number below 2 ^ n is the mask of its bits
pub is_mask : (n m : ℕ) (f : ℕ → Bool) → m < 2 ^ n → ((i : ℕ) → i < n → bit m i ≡ f i) → m ≡ mask n f
unfolding bit mask
is_mask zero m f l h = omega arith
is_mask (suc n) m f l h =
    let half : m / 2 ≡ mask n (λ i. f (suc i)) = is_mask n (m / 2) (λ i. f (suc i)) (omega (arith, pow-suc 2 n)) (λ i k. h (suc i) (omega arith)) in
    let low : m % 2 ≡ cond (f 0) 1 0 = rw (← h 0 (omega arith)) (digit (λ x. x ≡ cond (eqb x 1) 1 0) refl refl (m % 2) (omega arith)) in
    omega (arith, half, low)

module _ {how : Mix} {x y : ℕ} where
  pub mixed_either : Fits w64 x → Fits w64 y → how ≡ Either → bit_or x y ≡ mixed_word how x y
  unfolding mixes mixed_word
  mixed_either f g e = is_mask 64 (bit_or x y) _ (or_lt 64 x y f.fits g.fits) (λ i l. rw e (bit_or_lem i x y))

  pub mixed_both : Fits w64 x → Fits w64 y → how ≡ Both → bit_and x y ≡ mixed_word how x y
  unfolding mixes mixed_word
  mixed_both f g e = is_mask 64 (bit_and x y) _ (and_lt 64 x y f.fits g.fits) (λ i l. rw e (bit_and_lem i x y))

  pub mixed_first : Fits w64 x → Fits w64 y → how ≡ First → bit_and x (18446744073709551615 - y) ≡ mixed_word how x y
  unfolding mixes mixed_word
  mixed_first f g e =
      is_mask 64 (bit_and x (18446744073709551615 - y)) _ (and_lt 64 x (18446744073709551615 - y) f.fits (omega arith))
      (λ i l. rw e (bit_and_lem i x (18446744073709551615 - y) ∙ ap (λ b. bit x i && b) (bit_not 64 i y g.fits l)))

-- the lowest bit that is set, by the lowest digit: it is that, or it is the lowest of the half
lowest_by : (k m t d : ℕ) → m % 2 ≡ d → d < 2 → (d ≡ 0 → Lowest k (m / 2) t) → Lowest (suc k) m (under d t)
unfolding bit
lowest_by k m t zero e l h = record { below = suc-le-suc (h refl).below; isset = (h refl).isset; zeros = zeros_from (h refl) }
  where
    zeros_from : Lowest k (m / 2) t → (i : ℕ) → i < suc t → bit m i ≡ false
    zeros_from h zero l = ne_eqb (m % 2) 1 (λ q. omega arith)
    zeros_from h (suc i) l = h.zeros i (omega arith)
lowest_by k m t (suc zero) e l h = record { below = omega arith; isset = eq-eqb (m % 2) 1 e; zeros = λ i q. absurd (not-suc-le-zero q) }
lowest_by k m t (suc (suc d)) e l h = absurd (omega arith)

pub lowest_is : (k m : ℕ) → 0 < m → m < 2 ^ k → Lowest k m (count_trailing_zeros k m)
unfolding count_trailing_zeros
lowest_is zero m p l = absurd (omega arith)
lowest_is (suc k) m p l =
    lowest_by k m (count_trailing_zeros k (m / 2)) (m % 2) refl (omega arith) (λ e. lowest_is k (m / 2) (omega arith) (omega (arith, pow-suc 2 k)))

-- the bits of a power of 2
pub bit_power : (k : ℕ) → bit (2 ^ k) k ≡ true
unfolding bit
bit_power zero = refl
bit_power (suc k) = let half : 2 ^ suc k / 2 ≡ 2 ^ k = omega (arith, pow-suc 2 k) in rw half (bit_power k)

pub bit_power_other : (k i : ℕ) → (i ≡ k → ⊥) → bit (2 ^ k) i ≡ false
unfolding bit
bit_power_other zero zero ne = absurd (ne refl)
bit_power_other zero (suc i) ne = bit_none i
bit_power_other (suc k) zero ne = ne_eqb (2 ^ suc k % 2) 1 (λ e. omega (arith, pow-suc 2 k))
bit_power_other (suc k) (suc i) ne =
    let half : 2 ^ suc k / 2 ≡ 2 ^ k = omega (arith, pow-suc 2 k) in
    rw half (bit_power_other k i (λ e. ne (ap suc e)))

-- 1, shifted
pub shifted_one : (n k : ℕ) → k < n → 1 * 2 ^ k % 2 ^ n ≡ 2 ^ k
shifted_one n k l = shl_exact {a = 1} 1 k n (omega arith) (omega arith) ∙ one-mul (2 ^ k)

-- a number, without its lowest bit that is set, as the code takes it away
rest_bit : (t i m : ℕ) → bit m t ≡ true → ((j : ℕ) → j < t → bit m j ≡ false) → bit m i && bit (m - 1) i ≡ bit m i && not (eqb i t)
unfolding bit
rest_bit zero zero m h z = let e = eqb-true (m % 2) 1 h in let low : (m - 1) % 2 ≡ 0 = omega arith in rw low
rest_bit zero (suc i) m h z =
    let e = eqb-true (m % 2) 1 h in
    let half : (m - 1) / 2 ≡ m / 2 = omega arith in
    rw (half, eqb-suc-zero i) (and_self (bit (m / 2) i) ∙ sym (and-true (bit (m / 2) i)))
rest_bit (suc t) zero m h z = rw (z 0 (omega arith))
rest_bit (suc t) (suc i) m h z =
    let e = eqb-false (m % 2) 1 (z 0 (omega arith)) in
    let half : (m - 1) / 2 ≡ m / 2 - 1 = omega arith in
    rw (half, eqb-suc-suc i t) (rest_bit t i (m / 2) h (λ j l. z (suc j) (omega arith)))

pub bit_rest : {n m t : ℕ} → Lowest n m t → (i : ℕ) → bit (bit_and m (m - 1)) i ≡ bit m i && not (eqb i t)
bit_rest {m = m} {t} low i = bit_and_lem i m (m - 1) ∙ rest_bit t i m low.isset low.zeros

-- bit i of word k of a row
pub word_bit : (row : List ℕ) (k i : ℕ) → i < 64 → in_row row (64 * k + i) ≡ bit (get_or row k 0) i
unfolding bit_in
word_bit row k i l = ap₂ (λ (x y : ℕ). bit (get_or row x 0) y) (omega arith) (omega arith)

pub ruleset laws = (mixed_either, mixed_both, mixed_first, rules)
