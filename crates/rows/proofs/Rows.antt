-- Laws of rows: their bits, and what the functions on rows make of them.
use Rattle.std.proofs.Common.{Option, Some, None, MatchOption, IsSomeAnd}
use Prim.Native.Nat.{ℕ, ◌+◌, ◌-◌, ◌*◌, ◌/◌, ◌%◌, ◌^◌, ◌≤◌, ◌<◌, min}
use mathlib.Core.Path.{◌≡◌, refl, sym, ap, ◌∙◌}
use mathlib.Core.Bool.{Bool, true, false, ◌||◌, or-false}
use mathlib.Core.List.{List}
use native.Mathlib.Nat.{zero-add, mod-lt, div-add-mod', mul-le-mul_left}
use borrow.Author.Tests.{eq-eqb, ne_eqb, lt-ltb}
use native.Mathlib.Omega.{arith}
use lib.Dec.{eqb}
use lib.Bits.{bit_or}
use lib.ListN.{length, get_or, set, replicate, length-replicate, get_or-replicate, get_or-eq_default}
use lib.Seq.{get_or-set_same, get_or-set_other}
use Rattle.meaning.specs.Limits.{row_bits}
use Rattle.meaning.specs.Sets.{bit}
use Rattle.meaning.proofs.Sets.{bit_none}
use Rattle.rows.specs.Inside.Rows.{bit_in, in_row, in_bytes, Bits, including, stretch, rows_at, Placed, Lowest, RowMade, Next, NextIs}
use Rattle.rows.proofs.Cases.{by_order, by_equal}
use Rattle.meaning.proofs.Bits.{bits_below, bit_or_lem}
use Rattle.rows.proofs.Bits.{bit_shifted, shifted_one, bit_power, bit_power_other, word_bit}
use Rattle.rows.proofs.Bytes.{kept_all, kept_set, stretch_length, stretch_at, stretch_past, stretch_set}

-- past its end a row has no bits
pub row_end : (width : ℕ) (row : List ℕ) (w : ℕ) → length row ≡ width → width ≤ w / 64 → in_row row w ≡ false
unfolding bit_in
row_end width row w e l = rw (get_or-eq_default row 0 {n = w / 64} (omega arith)) (bit_none (w % 64))

-- a bit of the row that stands at a place
pub row_bit : (width : ℕ) (xs : List ℕ) (at x : ℕ) → x / 8 < width → in_bytes (stretch width xs at) x ≡ bit (get_or xs (at + x / 8) 0) (x % 8)
unfolding bit_in
row_bit width xs at x l = ap (λ (b : ℕ). bit b (x % 8)) (stretch_at width xs at (x / 8) l)

pub row_past : (width : ℕ) (xs : List ℕ) (at x : ℕ) → width ≤ x / 8 → in_bytes (stretch width xs at) x ≡ false
unfolding bit_in
row_past width xs at x l = ap (λ (b : ℕ). bit b (x % 8)) (stretch_past width xs at (x / 8) l) ∙ bit_none (x % 8)

-- a row ends where the next starts, and the last ends inside the room
pub row_order : (width u v : ℕ) → u < v → width * u + width ≤ width * v
row_order width u v l = omega (arith, mul-le-mul_left width l)

pub row_placed : (width base v : ℕ) → v < row_bits width → Placed width base v (base + width * v)
row_placed width base v l = record { is = refl; below = l; inside = omega (arith, row_order width v (row_bits width) l) }

-- a row of a room
pub row_read_lem : (width : ℕ) (xs : List ℕ) (base u : ℕ) {row : List ℕ} → u < 8 * width → Bits row (in_bytes (stretch width xs (base + width * u))) → Bits row (rows_at width xs base u)
unfolding rows_at
row_read_lem width xs base u l b = record { bits = λ w. b.bits w ∙ rw (lt-ltb u (8 * width) l) }

pub row_blank : (words : ℕ) → Bits (replicate words 0) (λ w. false)
unfolding bit_in
row_blank words = record {
  bits = λ w. by_order (w / 64) words
      (λ h. ap (λ (b : ℕ). bit b (w % 64)) (get_or-replicate words (w / 64) 0 0 h) ∙ bit_none (w % 64))
      (row_end words (replicate words 0) w (length-replicate words 0));
}

-- what passes, with nothing more
including_none : (f : ℕ → Bool) (w : ℕ) {there : Bool} → there ≡ false → (x : ℕ) → f x ≡ including f w there x
unfolding including
including_none f w e x = rw e (sym (or-false _))

-- One bit more in parts that have size bits each: bit w, where part is the one that has it.
module _ (size : ℕ) (some : 0 < size) (parts : List ℕ) (w : ℕ) {part : ℕ} (is : part ≡ get_or parts (w / size) 0) where
  -- the bit alone, in its part
  only_bit : (x : ℕ) → x / size ≡ w / size → bit (1 * 2 ^ (w % size) % 2 ^ size) (x % size) ≡ eqb w x
  only_bit x e =
      ap (λ (m : ℕ). bit m (x % size)) (shifted_one size (w % size) (mod-lt w some))
      ∙ by_equal (x % size) (w % size)
      (λ h. ap (bit (2 ^ (w % size))) h ∙ bit_power (w % size) ∙ sym (eq-eqb w x (cc (div-add-mod' x size, div-add-mod' w size))))
      (λ n. bit_power_other (w % size) (x % size) n ∙ sym (ne_eqb w x (λ h. n (sym (ap (λ (y : ℕ). y % size) h)))))

  bit_more : w / size < length parts → (x : ℕ) → bit_in size (set parts (w / size) (bit_or part (1 * 2 ^ (w % size) % 2 ^ size))) x ≡ bit_in size parts x || eqb w x
  unfolding bit_in
  bit_more l x =
      by_equal (x / size) (w / size)
      (λ q. rw (q, get_or-set_same, bit_or_lem, is, only_bit x q))
      (λ n. rw (get_or-set_other, ne_eqb w x (λ h. n (sym (ap (λ (y : ℕ). y / size) h)))) (sym (or-false _)))

  -- and so where it is to be there
  bit_put : {there : Bool} → there ≡ true → w / size < length parts → (x : ℕ)
      → bit_in size (set parts (w / size) (bit_or part (1 * 2 ^ (w % size) % 2 ^ size))) x ≡ including (bit_in size parts) w there x
  unfolding including
  bit_put e l x = rw e (bit_more l x)

module _ (row : List ℕ) (w : ℕ) {there : Bool} where
  pub with_none : there ≡ false → Bits row (including (in_row row) w there)
  with_none e = record { bits = including_none (in_row row) w e }

  -- bit i of word k
  pub with_one : (k i : ℕ) → there ≡ true → 64 * k + i ≡ w → i < 64 → k < length row
      → Bits (set row k (bit_or (get_or row k 0) (1 * 2 ^ i % 2 ^ 64))) (including (in_row row) w there)
  with_one k i e is small l =
      let word : w / 64 ≡ k = omega arith in
      let place : w % 64 ≡ i = omega arith in
      record { bits = rw (word, place) at (bit_put 64 (omega arith) row w refl e (omega arith)) }

module _ (width : ℕ) (xs : List ℕ) (at w : ℕ) (there : Bool) where
  pub put_none : there ≡ false → RowMade width xs xs at (including (in_bytes (stretch width xs at)) w there)
  put_none e = record { bits = including_none _ w e; others = kept_all }

  module _ (e : there ≡ true) (l : w < 8 * width) (r : at + width ≤ length xs) where
    abbrev byte : ℕ
    byte = bit_or (get_or xs (at + w / 8) 0) (1 * 2 ^ (w % 8) % 256)

    pub put_one : {ys : List ℕ} → ys ≡ set xs (at + w / 8) byte → RowMade width xs ys at (including (in_bytes (stretch width xs at)) w there)
    put_one is = rw is record {
      bits = λ x. ap (λ (s : List ℕ). in_bytes s x) (stretch_set width xs at (w / 8) byte (omega arith))
          ∙ bit_put 8 (omega arith) (stretch width xs at) w (sym (stretch_at width xs at (w / 8) (omega arith))) e (omega (arith, stretch_length width xs at r)) x;
      others = kept_set (at + w / 8) byte (omega arith) (omega arith) kept_all;
    }

-- The next bit of a word is the lowest of what a shift leaves, or there is none.
module _ (n from : ℕ) where
  shifted_bit : (x : ℕ) → from ≤ x → bit n x ≡ bit (n / 2 ^ from) (x - from)
  shifted_bit x l = let e : from + (x - from) ≡ x = omega arith in ap (bit n) (sym e) ∙ sym (bit_shifted from (x - from) n)

  pub word_found : {t : ℕ} → n < 2 ^ 64 → Lowest 64 (n / 2 ^ from) t → NextIs 64 (bit n) from (Some (from + t))
  word_found {t} small low =
      let there : bit n (from + t) ≡ true = sym (bit_shifted from t n) ∙ low.isset in
      let below = bits_below 64 n small (from + t) there in (
        below,
        record {
          ahead = omega arith;
          most = omega (arith, below);
          none = λ x a b. shifted_bit x a ∙ low.zeros (x - from) (omega arith);
          found = λ l. there;
        },
      )

  pub word_ended : from ≤ 64 → (from < 64 → n / 2 ^ from ≡ 0) → NextIs 64 (bit n) from None
  word_ended l h = record {
    ahead = l;
    most = omega arith;
    none = λ x a b. shifted_bit x a ∙ ap (λ (m : ℕ). bit m (x - from)) (h (omega arith)) ∙ bit_none (x - from);
    found = λ m. absurd (omega arith);
  }

-- The next bit of a row of two words is in the first of them, or in the second.
module _ (row : List ℕ) (from : ℕ) where
  first : (x : ℕ) → x < 64 → in_row row x ≡ bit (get_or row 0 0) x
  first x l = rw zero-add at (word_bit row 0 x l)

  second : (x : ℕ) → 64 ≤ x → x < 128 → in_row row x ≡ bit (get_or row 1 0) (x - 64)
  second x h k = let e : 64 * 1 + (x - 64) ≡ x = omega arith in ap (in_row row) (sym e) ∙ word_bit row 1 (x - 64) (omega arith)

  pub row_found : {w : ℕ} → NextIs 64 (bit (get_or row 0 0)) (min from 64) (Some w) → NextIs 128 (in_row row) from (Some w)
  row_found {w} (l, low) = (
    omega arith,
    record {
      ahead = omega (arith, low.ahead);
      most = omega arith;
      none = λ x a b. first x (omega arith) ∙ low.none x (omega arith) b;
      found = λ h. first w l ∙ low.found l;
    },
  )

  onward : NextIs 64 (bit (get_or row 0 0)) (min from 64) None → from ≤ 128 → {v : ℕ} → Next 64 (bit (get_or row 1 0)) (from - 64) v → Next 128 (in_row row) from (64 + v)
  onward low m {v} high = record {
    ahead = omega (arith, high.ahead, low.ahead);
    most = omega (arith, high.most);
    none = λ x a b.
        by_order x 64 (λ h. first x h ∙ low.none x (omega arith) (omega arith)) (λ h. second x h (omega (arith, high.most)) ∙ high.none (x - 64) (omega arith) (omega arith));
    found = λ h. word_bit row 1 v (omega arith) ∙ high.found (omega arith);
  }

  pub row_onward : NextIs 64 (bit (get_or row 0 0)) (min from 64) None → from ≤ 128 → (o made : Option ℕ) → NextIs 64 (bit (get_or row 1 0)) (from - 64) o
      → {Q : ℕ → ℕ → Type 0} → MatchOption o (made ≡ None) (λ v. IsSomeAnd made (Q v)) → ((v w : ℕ) → Q v w → w ≡ 64 + v) → NextIs 128 (in_row row) from made
  row_onward low m None made high is same = rw is (onward low m high)
  row_onward low m (Some v) (Some w) (l, high) is same = rw (same v w is) (omega arith, onward low m high)
  row_onward low m (Some v) None h is same = absurd is
