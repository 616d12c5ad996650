-- Reading the masks: what holds before each turn of the loop, and one law for each return and for the turn.
use Prim.Native.Nat.{ℕ, suc, ◌+◌, ◌-◌, ◌<◌, ◌≤◌}
use mathlib.Core.List.{List, [], ◌∷◌, ◌++◌, append-nil}
use mathlib.Core.Path.{◌≡◌, refl, sym, ap, ◌∙◌}
use native.Mathlib.Omega.{arith}
use lib.ListN.{length, replicate, set, length-append}
use lib.Seq.{set_at, append_snoc}
use borrow.Author.Rules.{rules}
use Rattle.meaning.specs.declared.Refusal.{Refusal}
use Rattle.meaning.specs.Limits.{types}
use Rattle.fields.specs.Read.{Read, got, refused, bind, mask_below}
use Rattle.graph.specs.Gra.{masks, all_masks}

-- the reading comes to e, with what is in hand before it
abbrev after : List ℕ → Read (List ℕ) → Read (List ℕ)
after xs e = bind e (λ ms n. got (xs ++ ms) n)

after_none : (e : Read (List ℕ)) → e ≡ after [] e
after_none (got ms n) = refl
after_none (refused r) = refl

after_more : (xs : List ℕ) (m : ℕ) (e : Read (List ℕ)) → after xs (bind e (λ ms n. got (m ∷ ms) n)) ≡ after (xs ++ (m ∷ [])) e
after_more xs m (got ms n) = ap (λ (l : List ℕ). got l n) (sym (append_snoc xs m ms))
after_more xs m (refused r) = refl

-- before turn i: the masks of the types below i are read, and zeros follow them
pub record Sofar (s : List ℕ) (k start : ℕ) (xs : List ℕ) (at i : ℕ) : Type 0 where
  pub done : List ℕ
  pub left : ℕ
  pub count : length done ≡ i
  pub all : i + left ≡ k
  pub kept : xs ≡ done ++ replicate (types - i) 0
  pub reading : masks k k s start ≡ after done (masks k left s at)

pub masks_start : (s : List ℕ) (k at : ℕ) → Sofar s k at (replicate types 0) at 0
masks_start s k at = record { done = []; left = k; count = refl; all = omega arith; kept = refl; reading = after_none (masks k k s at) }

module _ {s : List ℕ} {k start : ℕ} {xs : List ℕ} {at i : ℕ} (h : Sofar s k start xs at i) where
  pub masks_done : k ≤ i → got xs at ≡ all_masks k s start
  unfolding masks all_masks
  masks_done l =
      let e : i ≡ k = omega (arith, h.all) in
      let none : h.left ≡ 0 = omega (arith, h.all) in
      let reading = rw none at h.reading in
      let kept = rw e at h.kept in
      simp (reading, append-nil, kept)

  module _ (l : i < k) where
    one_more : masks k k s start ≡ after h.done (bind (mask_below k s at) λ m at. bind (masks k (h.left - 1) s at) λ ms n. got (m ∷ ms) n)
    unfolding masks
    one_more = let some : h.left ≡ suc (h.left - 1) = omega (arith, h.all) in rw some at h.reading

    pub masks_refused : {r : Refusal} → refused r ≡ mask_below k s at → refused r ≡ all_masks k s start
    unfolding all_masks
    masks_refused q = simp (one_more, sym q)

    pub masks_again : {m next : ℕ} → k ≤ types → got m next ≡ mask_below k s at → Sofar s k start (set xs i m) next (i + 1)
    masks_again {m} {next} most q =
        let fewer : types - i ≡ suc (types - (i + 1)) = omega arith in
        record {
          done = h.done ++ (m ∷ []);
          left = h.left - 1;
          count = omega (arith, length-append h.done (m ∷ []), h.count);
          all = omega (arith, h.all);
          kept =
              ap (λ (l : List ℕ). set l i m) (rw fewer at h.kept)
              ∙ set_at h.done 0 (replicate (types - (i + 1)) 0) m i h.count
              ∙ sym (append_snoc h.done m (replicate (types - (i + 1)) 0));
          reading = one_more ∙ simp (sym q) (after_more h.done m (masks k (h.left - 1) s next));
        }

pub ruleset laws = (masks_start, masks_done, masks_refused, masks_again, rules)
