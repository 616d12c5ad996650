-- Laws of rows that are mixed word by word, and of those taken in by the bits of a word, the lowest first.
use Prim.Native.Nat.{ℕ, zero, suc, ◌+◌, ◌-◌, ◌*◌, ◌/◌, ◌%◌, ◌≤◌, ◌<◌}
use mathlib.Core.Path.{◌≡◌, refl, sym, ap, ap₂, ◌∙◌}
use mathlib.Core.Bool.{Bool, false, not, ◌&&◌, ◌||◌, and-true, and-false, and_assoc, and_comm, or-false, or_assoc, or_comm}
use mathlib.Core.List.{List}
use native.Mathlib.Nat.{add-zero, add-suc, mul-add}
use native.Mathlib.Omega.{arith}
use borrow.Author.Tests.{eq-eqb, ne_eqb, lt-ltb}
use lib.Bits.{bit_and}
use lib.Dec.{eqb}
use lib.ListN.{length, get_or}
use Rattle.meaning.specs.Sets.{any, bit}
use Rattle.meaning.proofs.Sets.{any_cong, bit_none, bit_mask}
use Rattle.rows.specs.declared.Mix.{Mix}
use Rattle.rows.specs.declared.Mix.TheVariants.{Either, Both, First}
use Rattle.rows.specs.Inside.Rows.{bit_in, in_row, in_bytes, stretch, rows_from, rows_at, Bits, gathered, mixes, mixed_word, Lowest}
use Rattle.rows.proofs.Cases.{by_order, by_equal}
use Rattle.rows.proofs.Bits.{bit_rest, word_bit}
use Rattle.rows.proofs.Rows.{row_end}
use Rattle.rows.proofs.Searches.{any_still}

mixes_none : (how : Mix) → mixes how false false ≡ false
unfolding mixes
mixes_none Either = refl
mixes_none Both = refl
mixes_none First = refl

pub row_mixed : (words : ℕ) (how : Mix) (x y : List ℕ) {r : List ℕ} → ((k : ℕ) → k < words → get_or r k 0 ≡ mixed_word how (get_or x k 0) (get_or y k 0))
    → length r ≡ words → length x ≡ words → length y ≡ words → Bits r (λ w. mixes how (in_row x w) (in_row y w))
unfolding bit_in mixed_word
row_mixed words how x y {r} m er ex ey = record { bits = λ w. by_order (w / 64) words (inside w) (outside w) }
  where
    inside : (w : ℕ) → w / 64 < words → in_row r w ≡ mixes how (in_row x w) (in_row y w)
    inside w h = ap (λ (b : ℕ). bit b (w % 64)) (m (w / 64) h) ∙ bit_mask 64 _ (w % 64) (omega arith)

    outside : (w : ℕ) → words ≤ w / 64 → in_row r w ≡ mixes how (in_row x w) (in_row y w)
    outside w h = row_end words r w er h ∙ sym (mixes_none how) ∙ ap₂ (mixes how) (sym (row_end words x w ex h)) (sym (row_end words y w ey h))

or_swap : (a b c : Bool) → a || (b || c) ≡ b || (a || c)
or_swap a b c = sym (or_assoc a b c) ∙ ap (λ (d : Bool). d || c) (or_comm a b) ∙ or_assoc b a c

-- a search with one number apart
any_apart : (n t : ℕ) (f g : ℕ → Bool) → t < n → ((u : ℕ) → g u ≡ f u && not (eqb u t)) → any n f ≡ f t || any n g
unfolding any
any_apart zero t f g l h = absurd (omega arith)
any_apart (suc n) t f g l h = by_equal n t here (λ d. below d (any_apart n t f g (omega arith) h))
  where
    other : (u : ℕ) → (u ≡ t → ⊥) → f u ≡ g u
    other u d = sym (h u ∙ rw (ne_eqb u t d) (and-true (f u)))

    here : n ≡ t → any (suc n) f ≡ f t || any (suc n) g
    here e =
        let gone : g n ≡ false = h n ∙ rw (eq-eqb n t e) (and-false (f n)) in
        rw gone (ap₂ ◌||◌ (ap f e) (any_cong n f g (λ u k. other u (λ q. omega arith))))

    below : (n ≡ t → ⊥) → any n f ≡ f t || any n g → any (suc n) f ≡ f t || any (suc n) g
    below d e = ap₂ ◌||◌ (other n d) e ∙ or_swap (g n) (f t) (any n g)

-- a search below m, and among the n from m on
any_split : (m n : ℕ) (f : ℕ → Bool) → any (m + n) f ≡ any m f || any n (λ i. f (m + i))
unfolding any
any_split m zero f = ap (λ (k : ℕ). any k f) (add-zero m) ∙ sym (or-false (any m f))
any_split m (suc n) f =
    ap (λ (k : ℕ). any k f) (add-suc m n) ∙ ap (λ (b : Bool). f (m + n) || b) (any_split m n f)
    ∙ or_swap (f (m + n)) (any m f) _

-- Rows from a place on, by the bits of a word: what those that are left take in, onto what is taken in already, is what
-- all of them take in.
module _ (size width : ℕ) (bytes : List ℕ) (at : ℕ) where
  abbrev hit : ℕ → ℕ → ℕ → Bool
  hit m w u = bit m u && rows_from width bytes at u w

  hit_lowest : {m t : ℕ} (w : ℕ) → Lowest size m t → any size (hit m w) ≡ rows_from width bytes at t w || any size (hit (bit_and m (m - 1)) w)
  hit_lowest {m} {t} w low =
      rw low.isset at (any_apart size t (hit m w) (hit (bit_and m (m - 1)) w) low.below
      (λ u. rw (bit_rest low u, and_assoc (bit m u) (not (eqb u t)), and_comm (not (eqb u t)), ← and_assoc)))

  pub record Gathering (which : ℕ) (start : List ℕ) (left : ℕ) (all : List ℕ) : Type 0 where
    pub same : (w : ℕ) → gathered size (rows_from width bytes at) (bit left) (in_row all) w ≡ gathered size (rows_from width bytes at) (bit which) (in_row start) w

  module _ {which left : ℕ} {start all : List ℕ} (g : Gathering which start left all) where
    pub gathering_more : {t : ℕ} {row more : List ℕ} → Lowest size left t → Bits row (in_bytes (stretch width bytes (at + width * t)))
        → Bits more (λ w. mixes Either (in_row all w) (in_row row w)) → Gathering which start (bit_and left (left - 1)) more
    unfolding gathered mixes rows_from
    gathering_more low b m = record { same = λ w. rw (m.bits w, b.bits w, or_assoc, ← hit_lowest w low) (g.same w) }

    pub gathering_all : left ≡ 0 → Bits all (gathered size (rows_from width bytes at) (bit which) (in_row start))
    unfolding gathered any
    gathering_all e = record { bits = λ w. sym (nothing w) ∙ g.same w }
      where
        nothing : (w : ℕ) → gathered size (rows_from width bytes at) (bit left) (in_row all) w ≡ in_row all w
        nothing w =
            rw (e, any_still 0 size (hit 0 w) (omega arith) (λ u k l. rw (bit_none u))) (or-false (in_row all w))

-- The rows of a room, by the words of the row that names them: before the first word none is taken in, and then one word more.
module _ (width : ℕ) (bytes : List ℕ) (base : ℕ) (which : List ℕ) (f : ℕ → Bool) where
  pub gathered_nothing : {all : List ℕ} → Bits all f → Bits all (gathered 0 (rows_at width bytes base) (in_row which) f)
  unfolding gathered any
  gathered_nothing b = record { bits = λ w. b.bits w ∙ sym (or-false (f w)) }

  abbrev named : ℕ → ℕ → Bool
  named w u = in_row which u && rows_at width bytes base u w

  pub gathered_word : (k : ℕ) {at : ℕ} {all more : List ℕ} → 64 * (k + 1) ≤ 8 * width → at ≡ base + width * (64 * k)
      → Bits all (gathered (64 * k) (rows_at width bytes base) (in_row which) f) → Bits more (gathered 64 (rows_from width bytes at) (bit (get_or which k 0)) (in_row all))
      → Bits more (gathered (64 * (k + 1)) (rows_at width bytes base) (in_row which) f)
  unfolding gathered rows_from rows_at
  gathered_word k {at} l e a b = record { bits = λ w. b.bits w ∙ ap₂ ◌||◌ (a.bits w) (by_word w) ∙ or_assoc (f w) _ _ ∙ ap (λ (x : Bool). f w || x) (sym (split w)) }
    where
      by_word : (w : ℕ) → any 64 (λ u. bit (get_or which k 0) u && rows_from width bytes at u w) ≡ any 64 (λ u. named w (64 * k + u))
      by_word w =
          any_cong 64 _ _ λ u h.
          let place : at + width * u ≡ base + width * (64 * k + u) = omega (arith, mul-add width (64 * k) u) in
          rw (place, word_bit which k u h, lt-ltb (64 * k + u) (8 * width) (omega arith))

      split : (w : ℕ) → any (64 * (k + 1)) (named w) ≡ any (64 * k) (named w) || any 64 (λ u. named w (64 * k + u))
      split w = let next : 64 * (k + 1) ≡ 64 * k + 64 = omega arith in rw next (any_split (64 * k) 64 (named w))
