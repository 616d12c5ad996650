-- Decimal digits: the last one stands behind those of a tenth, and small numbers have few.
use Prim.Native.Nat.{ℕ, zero, suc, ◌+◌, ◌/◌, ◌%◌, ◌^◌, ◌≤◌, ◌<◌}
use mathlib.Core.Bool.{Bool, true, false}
use mathlib.Core.List.{◌++◌}
use mathlib.Core.Path.{◌≡◌, refl, ap}
use native.Mathlib.Nat.{pow-suc}
use native.Mathlib.Omega.{arith}
use lib.Dec.{ltb}
use lib.ListN.{length, length-append}
use borrow.Author.Tests.{lt-ltb, le-ltb, ltb-true, ltb-false}
use Rattle.fields.specs.Write.{byte_of}
use Rattle.text.specs.Listing.{digits, decimal}

by_ten : {P : Type 0} (n : ℕ) → (n < 10 → P) → (10 ≤ n → P) → P
by_ten {P} n less more = go (ltb n 10) refl
  where
    go : (b : Bool) → ltb n 10 ≡ b → P
    go true e = less (ltb-true n 10 e)
    go false e = more (ltb-false n 10 e)

-- where enough digits are allowed, it does not matter how many
enough : (f g n : ℕ) → n < f → n < g → digits f n ≡ digits g n
unfolding digits
enough zero g n h k = absurd (omega arith)
enough (suc f) zero n h k = absurd (omega arith)
enough (suc f) (suc g) n h k =
    by_ten n (λ l. rw (lt-ltb n 10 l))
    (λ l. rw (le-ltb n 10 l, enough f g (n / 10) (omega arith) (omega arith)))

pub one_digit : (n : ℕ) → n < 10 → decimal n ≡ byte_of (48 + n % 10)
unfolding decimal digits
one_digit n l = rw (lt-ltb n 10 l)

pub last_digit : (n : ℕ) → 10 ≤ n → decimal n ≡ decimal (n / 10) ++ byte_of (48 + n % 10)
unfolding decimal digits
last_digit n l = rw (le-ltb n 10 l, enough n (suc (n / 10)) (n / 10) (omega arith) (omega arith))

pub few_digits : (k n : ℕ) → n < 10 ^ suc k → length (decimal n) ≤ suc k
few_digits zero n l = omega (arith, ap length (one_digit n (omega arith)))
few_digits (suc k) n l =
    by_ten n (λ m. omega (arith, ap length (one_digit n m)))
    (λ m.
    omega (
      arith,
      ap length (last_digit n m),
      length-append (decimal (n / 10)) (byte_of (48 + n % 10)),
      few_digits k (n / 10) (omega (arith, pow-suc 10 (suc k))),
    ))

-- a number of 16 bits
pub five_digits : (n : ℕ) → n < 65536 → length (decimal n) ≤ 5
five_digits n l = few_digits 4 n (omega arith)
