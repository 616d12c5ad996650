-- Bytes that are written over others, and stretches as lists.
use Prim.Native.Nat.{ℕ, ◌+◌, ◌-◌, ◌≤◌, ◌<◌}
use mathlib.Core.Path.{◌≡◌, refl, sym, ap, ◌∙◌}
use mathlib.Core.List.{List}
use mathlib.Core.Logic.{◌⊎◌, ⊎_elim}
use native.Mathlib.Omega.{arith}
use borrow.Rule.Slice.PartMut.{put_mid}
use lib.ListN.{length, get_or, set, take, drop, length-set, length-take, length-drop, length-append, get_or-append, get_or-eq_default}
use lib.Seq.{get_or-set_other, get_or-take, get_or-drop, drop-set-add, take-set-lt, ext_get_or}
use Rattle.std.proofs.lemmas.List.{take_at, drop_at, get_or-append_right}
use Rattle.rows.specs.Inside.Rows.{stretch, OthersStay}

pub kept_all : {xs : List ℕ} {from size : ℕ} → OthersStay xs xs from size
kept_all = record { same = refl; before = λ i l. refl; after = λ i l. refl }

pub kept_wider : {xs ys : List ℕ} {from size more : ℕ} → size ≤ more → OthersStay xs ys from size → OthersStay xs ys from more
kept_wider l k = record { same = k.same; before = k.before; after = λ i m. k.after i (omega arith) }

-- what changed inside a stretch changed inside a wider one
pub kept_inside : {xs ys zs : List ℕ} {from size at part : ℕ} → from ≤ at → at + part ≤ from + size → OthersStay xs ys from size → OthersStay ys zs at part → OthersStay xs zs from size
kept_inside l m a b = record {
  same = b.same ∙ a.same;
  before = λ i n. b.before i (omega arith) ∙ a.before i n;
  after = λ i n. b.after i (omega arith) ∙ a.after i n;
}

pub kept_set : {xs ys : List ℕ} {from size : ℕ} (j v : ℕ) → from ≤ j → j < from + size → OthersStay xs ys from size → OthersStay xs (set ys j v) from size
kept_set {xs} {ys} {from} {size} j v a b k = record {
  same = length-set ys j v ∙ k.same;
  before = λ i l. get_or-set_other ys j i v 0 (omega arith) ∙ k.before i l;
  after = λ i l. get_or-set_other ys j i v 0 (omega arith) ∙ k.after i l;
}

-- bytes that are put over others: they stand there, and all else stays
module _ (xs ys : List ℕ) (at size : ℕ) (room : at + size ≤ length xs) (long : length ys ≡ size) where
  front : length (take at xs) ≡ at
  front = omega (arith, length-take at xs)

  pub put_there : stretch size (put_mid at size xs ys) at ≡ ys
  unfolding stretch
  put_there = rw (drop_at (take at xs) _ at front) (take_at ys _ size long)

  pub put_others : OthersStay xs (put_mid at size xs ys) at size
  put_others = record {
    same = simp (length-append, length-take, length-drop) (omega arith);
    before = λ i l. get_or-append (take at xs) _ 0 i (omega (arith, front)) ∙ get_or-take at xs i 0 l;
    after = λ i l.
        get_or-append_right (take at xs) _ at i 0 front (omega arith) ∙ get_or-append_right ys _ size (i - at) 0 long (omega arith)
        ∙ get_or-drop size (drop at xs) (i - at - size) 0 ∙ get_or-drop at xs (size + (i - at - size)) 0 ∙ ap (λ (j : ℕ). get_or xs j 0) (omega arith);
  }

module _ (size : ℕ) (xs : List ℕ) (at : ℕ) where
  pub stretch_length : at + size ≤ length xs → length (stretch size xs at) ≡ size
  unfolding stretch
  stretch_length l = simp (length-take, length-drop) (omega arith)

  pub stretch_at : (k : ℕ) → k < size → get_or (stretch size xs at) k 0 ≡ get_or xs (at + k) 0
  unfolding stretch
  stretch_at k l = rw (get_or-take, get_or-drop)

  pub stretch_past : (k : ℕ) → size ≤ k → get_or (stretch size xs at) k 0 ≡ 0
  unfolding stretch
  stretch_past k l = get_or-eq_default (take size (drop at xs)) 0 {n = k} (omega (arith, length-take size (drop at xs)))

  pub stretch_set : (k v : ℕ) → k < size → stretch size (set xs (at + k) v) at ≡ set (stretch size xs at) k v
  unfolding stretch
  stretch_set k v l = rw (drop-set-add, take-set-lt)

-- two stretches of bytes that agree at each place
pub stretch_is : (size : ℕ) (xs ys : List ℕ) (at : ℕ) → at + size ≤ length xs → length ys ≡ size → ((k : ℕ) → k < size → get_or xs (at + k) 0 ≡ get_or ys k 0)
    → stretch size xs at ≡ ys
stretch_is size xs ys at l e h =
    ext_get_or 0 (stretch size xs at) ys (stretch_length size xs at l ∙ sym e)
    (λ k m. let small : k < size = omega (arith, stretch_length size xs at l) in stretch_at size xs at k small ∙ h k small)

-- what is kept is the same stretch
pub stretch_kept : (size : ℕ) {xs ys : List ℕ} {from room : ℕ} (at : ℕ) → OthersStay xs ys from room → at + size ≤ length xs → (at + size ≤ from) ⊎ (from + room ≤ at)
    → stretch size ys at ≡ stretch size xs at
stretch_kept size {xs} {ys} {from} {room} at k l apart =
    stretch_is size ys (stretch size xs at) at (omega (arith, k.same)) (stretch_length size xs at l)
    (λ j m. ⊎_elim (λ a. k.before (at + j) (omega arith)) (λ a. k.after (at + j) (omega arith)) apart ∙ sym (stretch_at size xs at j m))
