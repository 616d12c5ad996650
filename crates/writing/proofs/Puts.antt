-- One field behind another: what is written so far stands before what comes next.
use Prim.Native.Nat.{ℕ, ◌+◌, ◌≤◌, ◌<◌}
use native.Mathlib.Omega.{arith}
use mathlib.Core.Path.{◌≡◌, refl, sym, ap, ◌∙◌}
use mathlib.Core.Logic.{⊎_elim}
use mathlib.Core.List.{List, [], ◌∷◌, ◌++◌, append_assoc, append-nil}
use lib.ListN.{length, take, drop, set, length-append, length-drop, drop_of_length-le}
use lib.Seq.{length-take-le, take_all, take_at, drop-append-add, drop-drop, sets-eq, paste-zero, take-append_seam}
use borrow.Rule.Slice.PartMut.{put_mid}
use Rattle.std.proofs.lemmas.Bool.{cases_lt}
use Rattle.writing.specs.Lent.{over}
use Rattle.writing.specs.Inside.Put.{Put}

pub over_nothing : (at : ℕ) (old : List ℕ) → over at [] old ≡ old
unfolding over
over_nothing at old = sym (paste-zero old at [])

-- a buffer that ends before the place is followed by what is written
over_past : (at : ℕ) (bs old : List ℕ) → length old ≤ at → over at bs old ≡ old ++ bs
unfolding over
over_past at bs old l =
    ap (λ x. x ++ bs ++ drop (at + length bs) old) (take_all at old l)
    ∙ ap (λ x. old ++ bs ++ x) (drop_of_length-le old (omega (arith, l)))
    ∙ append-nil (old ++ bs)

-- what is written stands where it was, and what comes next stands behind it
module _ (at : ℕ) (bs cs old : List ℕ) where
  more_past : length old < at → over (at + length bs) cs (over at bs old) ≡ over at (bs ++ cs) old
  more_past l =
      ap (λ x. over (at + length bs) cs x) (over_past at bs old (omega arith))
      ∙ over_past (at + length bs) cs (old ++ bs) (omega (arith, length-append old bs))
      ∙ append_assoc old bs cs
      ∙ sym (over_past at (bs ++ cs) old (omega arith))

  more_inside : at ≤ length old → over (at + length bs) cs (over at bs old) ≡ over at (bs ++ cs) old
  unfolding over
  more_inside h =
      let p = take at old ++ bs in
      let here : length p ≡ at + length bs = length-append (take at old) bs ∙ ap (λ n. n + length bs) (length-take-le at old h) in
      let rest = drop (at + length bs) old in
      let far : at + length bs + length cs ≡ at + length (bs ++ cs) = omega (arith, length-append bs cs) in
      ap (λ x. x ++ cs ++ drop (at + length bs + length cs) (p ++ rest)) (take_at p rest (at + length bs) here)
      ∙ ap (λ n. p ++ cs ++ drop (n + length cs) (p ++ rest)) (sym here)
      ∙ ap (λ x. p ++ cs ++ x) (drop-append-add p rest (length cs) ∙ drop-drop (length cs) (at + length bs) old ∙ ap (λ n. drop n old) far)
      ∙ ap (λ x. x ++ drop (at + length (bs ++ cs)) old) (append_assoc (take at old) bs cs)

  pub over_more : over (at + length bs) cs (over at bs old) ≡ over at (bs ++ cs) old
  over_more = ⊎_elim more_past more_inside (cases_lt (length old) at)

-- what was written at the start is what stands there
pub over_front : (bs old : List ℕ) → take (length bs) (over 0 bs old) ≡ bs
unfolding over
over_front bs old = take-append_seam bs (drop (0 + length bs) old)

pub over_length : (at : ℕ) (bs old : List ℕ) → at + length bs ≤ length old → length (over at bs old) ≡ length old
unfolding over
over_length at bs old h =
    omega
    (arith, h, length-append (take at old ++ bs) (drop (at + length bs) old), length-append (take at old) bs, length-take-le at old (omega (arith, h)), length-drop (at + length bs) old)

pub put_nothing : (at : ℕ) (old : List ℕ) → Put at [] old old at
put_nothing at old = record { there = sym (over_nothing at old); behind = omega arith }

-- a field, then what follows it
pub put_then : {at next after : ℕ} {bs cs old mid new : List ℕ} → Put at bs old mid next → Put next cs mid new after → Put at (bs ++ cs) old new after
put_then {at} {next} {after} {bs} {cs} {old} {mid} {new} p q =
    record {
      there = q.there ∙ ap (λ n. over n cs mid) p.behind ∙ ap (λ x. over (at + length bs) cs x) p.there ∙ over_more at bs cs old;
      behind = omega (arith, p.behind, q.behind, length-append bs cs);
    }

-- a buffer keeps its length
pub put_length : {at next : ℕ} {bs old new : List ℕ} → at + length bs ≤ length old → Put at bs old new next → length new ≡ length old
put_length {at} {next} {bs} {old} h p = ap length p.there ∙ over_length at bs old h

pub put_byte : (at v : ℕ) (old : List ℕ) → at < length old → Put at (v ∷ []) old (set old at v) (at + 1)
unfolding over
put_byte at v old h = record { there = sets-eq (v ∷ []) old at (omega (arith, h)); behind = refl }

-- bytes copied into a part of the buffer
pub put_part : (at k : ℕ) (old : List ℕ) {part bytes : List ℕ} → part ≡ bytes → k ≡ length bytes → Put at bytes old (put_mid at k old part) (at + length bytes)
unfolding over
put_part at k old {bytes = bytes} e f =
    let behind : drop k (drop at old) ≡ drop (at + length bytes) old = drop-drop k at old ∙ ap (λ n. drop (at + n) old) f in
    rw e (record { there = sym (append_assoc (take at old) bytes (drop k (drop at old))) ∙ ap (λ l. take at old ++ bytes ++ l) behind; behind = refl })
