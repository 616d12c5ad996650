-- Laws of words and bytes: a word has the bits of the bytes that it is read from or written to.
use Prim.Native.Nat.{ℕ, zero, suc, ◌+◌, ◌-◌, ◌*◌, ◌/◌, ◌%◌, ◌^◌, ◌≤◌, ◌<◌}
use mathlib.Core.Path.{◌≡◌, refl, sym, ap, ap₂, ◌∙◌}
use mathlib.Core.Bool.{and-true}
use mathlib.Core.List.{List, [], ◌∷◌}
use mathlib.Core.Logic.{inl}
use native.Mathlib.Nat.{zero-add, add-zero, pow-suc, div-one}
use native.Mathlib.Omega.{arith}
use borrow.Rule.Slice.PartMut.{put_mid}
use lib.Bits.{and_mask}
use lib.ListN.{length, get_or, get_or-eq_default}
use lib.Pow.{pow_pos, pow-add}
use Rattle.std.specs.Int.{w64, byte_at, bytes_low_first, to_le_bytes, from_le_bytes}
use Rattle.std.proofs.lemmas.Nat.{le_bytes_8}
use Rattle.meaning.specs.Limits.{small}
use Rattle.meaning.specs.Sets.{bit, mask}
use Rattle.meaning.proofs.Tests.{fails}
use Rattle.meaning.proofs.Sets.{bit_none, bit_mask}
use Rattle.meaning.proofs.Bits.{bits_below, bit_and_lem}
use Rattle.rows.specs.Inside.Rows.{bit_in, in_row, in_bytes, stretch, Bits, RowMade}
use Rattle.rows.proofs.Cases.{by_order}
use Rattle.rows.proofs.Bits.{bit_shifted, bit_not, digit, is_mask}
use Rattle.rows.proofs.Bytes.{put_there, put_others, kept_wider, kept_inside, stretch_length, stretch_at, stretch_past, stretch_kept}
use Rattle.rows.proofs.Rows.{row_bit, row_past, row_end}

-- the low digits of a number have its low bits
bit_low : (n m i : ℕ) → i < n → bit (m % 2 ^ n) i ≡ bit m i
bit_low n m i l =
    let ones : 2 ^ n - 1 ≡ 2 ^ n - 1 - 0 = omega arith in
    rw (← (and_mask m n), bit_and_lem, ones, bit_not n i 0 (pow_pos n) l, bit_none) (and-true _)

power_bytes : (k : ℕ) → 256 ^ k ≡ 2 ^ (8 * k)
power_bytes zero = refl
power_bytes (suc k) = let e : 8 * suc k ≡ 8 * k + 8 = omega arith in rw (pow-suc, power_bytes k, e, pow-add)

-- byte k of a word, and the bytes that std's `to_le_bytes` makes of it
byte_is : (k n : ℕ) → byte_at k n ≡ n / 2 ^ (8 * k) % 2 ^ 8
byte_is zero n = rw div-one
byte_is (suc k) n = rw power_bytes

bytes_at : (i k n j : ℕ) → j < k → get_or (bytes_low_first i k n) j 0 ≡ byte_at (i + j) n
bytes_at i zero n j l = absurd (omega arith)
bytes_at i (suc k) n zero l = rw add-zero
bytes_at i (suc k) n (suc j) l = bytes_at (suc i) k n j (omega arith) ∙ ap (λ (x : ℕ). byte_at x n) (omega arith)

-- its bytes have its bits
pub word_bytes : (n : ℕ) → n < 2 ^ 64 → (w : ℕ) → in_bytes (to_le_bytes w64 n) w ≡ bit n w
unfolding bit_in
word_bytes n fits w = by_order (w / 8) 8 inside outside
  where
    inside : w / 8 < 8 → in_bytes (to_le_bytes w64 n) w ≡ bit n w
    inside l =
        let e : 8 * (w / 8) + w % 8 ≡ w = omega arith in
        ap (λ (b : ℕ). bit b (w % 8)) (bytes_at 0 8 n (w / 8) l ∙ ap (λ (k : ℕ). byte_at k n) (zero-add (w / 8)) ∙ byte_is (w / 8) n) ∙ bit_low 8 (n / 2 ^ (8 * (w / 8))) (w % 8) (omega arith)
        ∙ bit_shifted (8 * (w / 8)) (w % 8) n ∙ ap (bit n) e

    outside : 8 ≤ w / 8 → in_bytes (to_le_bytes w64 n) w ≡ bit n w
    outside l =
        ap (λ (b : ℕ). bit b (w % 8)) (get_or-eq_default (to_le_bytes w64 n) 0 {n = w / 8} (omega arith)) ∙ bit_none (w % 8)
        ∙ sym (fails (bit n w) (λ b. let s = bits_below 64 n fits w b in omega arith))

-- a word that is read from its bytes
pub word_read : (xs : List ℕ) (at : ℕ) {bytes : List ℕ} {n : ℕ} → at + 8 ≤ length xs → ((i : ℕ) → get_or xs i 0 < 256) → n < 2 ^ 64 → bytes ≡ stretch 8 xs at → n ≡ from_le_bytes w64 bytes
    → n ≡ mask 64 (in_bytes (stretch 8 xs at))
word_read xs at {bytes} {n} l fits few e is =
    is_mask 64 n _ few (λ i m. sym (word_bytes n few i) ∙ ap (λ (bs : List ℕ). in_bytes bs i) (le_bytes_8 (stretch 8 xs at) n (stretch_length 8 xs at l) byte_fits (rw e at is)))
  where
    byte_fits : (i : ℕ) → get_or (stretch 8 xs at) i 0 < 256
    byte_fits i = by_order i 8 (λ m. omega (arith, stretch_at 8 xs at i m, fits (at + i))) (λ m. omega (arith, stretch_past 8 xs at i m))

-- and one whose bytes are written
pub word_written : (xs : List ℕ) (at : ℕ) {bytes : List ℕ} (n : ℕ) → at + 8 ≤ length xs → n < 2 ^ 64 → bytes ≡ to_le_bytes w64 n → RowMade 8 xs (put_mid at 8 xs bytes) at (bit n)
word_written xs at {bytes} n l few e =
    let long : length bytes ≡ 8 = ap length e in
    record { bits = λ w. ap (λ (bs : List ℕ). in_bytes bs w) (put_there xs bytes at 8 l long ∙ e) ∙ word_bytes n few w; others = put_others xs bytes at 8 l long }

-- a row whose words have the bits of eight bytes each
row_words : (words : ℕ) (row xs : List ℕ) (at : ℕ) → length row ≡ words → ((k i : ℕ) → k < words → i < 64 → bit (get_or row k 0) i ≡ in_bytes (stretch 8 xs (at + 8 * k)) i)
    → (w : ℕ) → in_row row w ≡ in_bytes (stretch (8 * words) xs at) w
unfolding bit_in
row_words words row xs at e h w = by_order (w / 64) words inside outside
  where
    inside : w / 64 < words → in_row row w ≡ in_bytes (stretch (8 * words) xs at) w
    inside l =
        let part : at + 8 * (w / 64) + w % 64 / 8 ≡ at + w / 8 = omega arith in
        let low : w % 64 % 8 ≡ w % 8 = omega arith in
        h (w / 64) (w % 64) l (omega arith) ∙ row_bit 8 xs (at + 8 * (w / 64)) (w % 64) (omega arith)
        ∙ ap₂ (λ (a b : ℕ). bit (get_or xs a 0) b) part low ∙ sym (row_bit (8 * words) xs at w (omega arith))

    outside : words ≤ w / 64 → in_row row w ≡ in_bytes (stretch (8 * words) xs at) w
    outside l = row_end words row w e l ∙ sym (row_past (8 * words) xs at w (omega arith))

-- such a row of two words
two_words : (row xs : List ℕ) (at : ℕ) → length row ≡ 2 → ((i : ℕ) → i < 64 → bit (get_or row 0 0) i ≡ in_bytes (stretch 8 xs at) i)
    → ((i : ℕ) → i < 64 → bit (get_or row 1 0) i ≡ in_bytes (stretch 8 xs (at + 8)) i) → (w : ℕ) → in_row row w ≡ in_bytes (stretch small.row xs at) w
two_words row xs at e a b =
    row_words 2 row xs at e λ k i l m.
    digit (λ j. bit (get_or row j 0) i ≡ in_bytes (stretch 8 xs (at + 8 * j)) i) (rw add-zero (a i m)) (b i m) k l

-- a row that is read
pub row_taken : (xs : List ℕ) (at : ℕ) {x y : ℕ} → x ≡ mask 64 (in_bytes (stretch 8 xs at)) → y ≡ mask 64 (in_bytes (stretch 8 xs (at + 8)))
    → Bits (x ∷ y ∷ []) (in_bytes (stretch small.row xs at))
row_taken xs at {x} {y} p q = record { bits = two_words (x ∷ y ∷ []) xs at refl (λ i m. rw p (bit_mask 64 _ i m)) (λ i m. rw q (bit_mask 64 _ i m)) }

-- and one that is written: the second word leaves the first as it is
pub row_stored : {xs ys zs : List ℕ} {at : ℕ} (row : List ℕ) → length row ≡ 2 → at + small.row ≤ length xs → RowMade 8 xs ys at (bit (get_or row 0 0)) → RowMade 8 ys zs (at + 8) (bit (get_or row 1 0))
    → RowMade small.row xs zs at (in_row row)
row_stored {xs} {ys} {zs} {at} row e l a b =
    let kept : stretch 8 zs at ≡ stretch 8 ys at = stretch_kept 8 at b.others (omega (arith, a.others.same)) (inl (omega arith)) in
    record {
      bits = λ w. sym (two_words row zs at e (λ i m. rw kept (sym (a.bits i))) (λ i m. sym (b.bits i)) w);
      others = kept_inside (omega arith) (omega arith) (kept_wider (omega arith) a.others) b.others;
    }
