-- The whole: what the functions say that judge numbers and elements.
use Prim.Native.Nat.{ℕ, zero, suc, ◌+◌, ◌-◌, ◌≤◌, ◌<◌}
use mathlib.Core.Path.{◌≡◌, refl, sym, ap, ◌∙◌}
use mathlib.Core.Bool.{Bool, false, ◌&&◌, ◌||◌}
use mathlib.Core.List.{List, []}
use native.Mathlib.Omega.{arith}
use native.Mathlib.Numerals.{add-one}
use lib.Dec.{eqb, ltb}
use lib.ListN.{length, get_or}
use borrow.Author.Tests.{lt-ltb, le-leb, eq-eqb, ne_eqb, eqb-true}
use Rattle.std.specs.Prelude.{IsTrue, ◌↔◌, Result, Err}
use Rattle.meaning.specs.declared.Graph.{Graph}
use Rattle.meaning.specs.declared.Element.{Element}
use Rattle.meaning.specs.declared.Reason.TheVariants.{Number, Edge}
use Rattle.meaning.specs.declared.Refusal.{Refusal}
use Rattle.meaning.specs.Documents.{is_element, above, below, node, view, parent_rule, edge_rule}
use Rattle.meaning.proofs.Tests.{same}
use Rattle.fields.specs.Read.{Read, got, refused}
use Rattle.fields.specs.Inside.Outcomes.{read_of}
use Rattle.fields.specs.declared.Cursor.{Cursor}
use Rattle.fields.proofs.Formats.{bind_out, judge_out}
use Rattle.edg.specs.Edg.{ones, judge_here, element_judged, elements_judged}
use Rattle.edg.proofs.Numbers.{ones_out, ones_in}

pub ones_same : {f h : ℕ → ℕ} (n : ℕ) → ((i : ℕ) → i < n → f i ≡ h i) → ones n f ≡ ones n h
ones_same {f} {h} n e = same _ _ (λ p. ones_in n h (λ i l. sym (e i l) ∙ ones_out n f p i l)) (λ p. ones_in n f (λ i l. e i l ∙ ones_out n h p i l))

-- whether each number came once
pub ones_where : (b : Bool) (l : List ℕ) → (IsTrue b ↔ ((i : ℕ) → i < length l → get_or l i 0 ≡ 1)) → b ≡ ones (length l) (λ i. get_or l i 0)
ones_where b l h = same b _ (λ e. ones_in (length l) _ (h.0 e)) (λ e. h.1 (ones_out (length l) _ e))

eqb_either_way : (a b : ℕ) → eqb a b ≡ eqb b a
eqb_either_way a b = same _ _ (λ h. eq-eqb b a (sym (eqb-true a b h))) (λ h. eq-eqb a b (sym (eqb-true b a h)))

-- no element is met on the way up from the document node
none_above : (k : ℕ) (es : List Element) (v : ℕ) → ltb 0 v && (eqb v 0 || above k (view es) v 0) ≡ false
unfolding above is_element view
none_above k es zero = refl
none_above zero es (suc n) = simp (lt-ltb 0 (suc n) (omega arith), ne_eqb (suc n) 0 (λ e. omega arith))
none_above (suc k) es (suc n) = simp (lt-ltb 0 (suc n) (omega arith), ne_eqb (suc n) 0 (λ e. omega arith), le-leb 0 (length es) (omega arith))

-- On the way up to v: what it comes to, b, is known from the node that was reached and the parents that may still be asked for.
pub record Climbing (es : List Element) (b : Bool) (v at : ℕ) : Type 0 where
  pub inside : at ≤ length es
  pub left : ℕ
  pub enough : at ≤ left
  pub rest : b ≡ ltb 0 v && (eqb v at || above left (view es) v at)

pub climb_start : (es : List Element) (v w : ℕ) → w ≤ length es → Climbing es (ltb 0 v && (eqb v w || below (view es) v w)) v w
unfolding below view
climb_start es v w h = record { inside = h; left = suc (length es); enough = omega arith; rest = refl }

module _ {es : List Element} {b : Bool} {v at : ℕ} (c : Climbing es b v at) where
  pub climb_end : at ≤ 0 → false ≡ b
  climb_end h = let e : at ≡ 0 = omega arith in sym (c.rest ∙ rw e (none_above c.left es v))

  module _ (p : 0 < at) (falling : (v : ℕ) → 0 < v → (node es v).parent < v) {x : Element} (e : x ≡ node es at) where
    pub climb_again : (v ≡ at → ⊥) → Climbing es b v x.parent
    unfolding above is_element view
    climb_again q =
        let less : x.parent < at = rw e (falling at p) in
        let inside = c.inside in
        let enough = c.enough in
        let one_less : c.left ≡ suc (c.left - 1) = omega arith in
        record {
          inside = omega arith;
          left = c.left - 1;
          enough = omega arith;
          rest =
              c.rest ∙ simp (ne_eqb v at q)
              (ap (λ k. ltb 0 v && above k (view es) v at) one_less ∙ simp (le-leb at _ inside, lt-ltb 0 at p, ← e, eqb_either_way x.parent v));
        }

judged_stays : (g : Graph) (es : List Element) (i : ℕ) (s : List ℕ) (at : ℕ) {u : Unit {0}} {n : ℕ} → element_judged g es i s at ≡ got u n → at ≡ n
unfolding element_judged
judged_stays g es i s at h =
    let (_, m, p, q) = bind_out (judge_here (parent_rule (view es) i) Number s at) _ h in
    (judge_out at (parent_rule (view es) i) Number s at p).1 ∙ (judge_out m (edge_rule g (view es) i) Edge s m q).1

-- The loop over the elements: w is what judging all of them comes to, and those below i keep both rules.
pub record Judging (g : Graph) (es : List Element) (w : Read (Unit {0})) (at i : ℕ) : Type 0 where
  pub rest : w ≡ elements_judged g es i (suc (length es) - i) [] at

pub judging_start : (g : Graph) (es : List Element) (at : ℕ) → Judging g es (elements_judged g es 1 (length es) [] at) at 1
judging_start g es at = let e : suc (length es) - 1 ≡ length es = omega arith in record { rest = rw e }

module _ {g : Graph} {es : List Element} {w : Read (Unit {0})} {at i : ℕ} (j : Judging g es w at i) where
  pub judging_end : length es < i → got tt at ≡ w
  unfolding elements_judged
  judging_end h = let z : suc (length es) - i ≡ 0 = omega arith in sym (rw z at j.rest)

  module _ (h : i ≤ length es) where
    element : w ≡ elements_judged g es i (suc (suc (length es) - suc i)) [] at
    element = let z : suc (length es) - i ≡ suc (suc (length es) - suc i) = omega arith in rw z at j.rest

    pub judging_refused : {x : Result (Unit {0} × Cursor) Refusal} {r : Refusal} → x ≡ Err r → refused r ≡ element_judged g es i [] at → read_of x ≡ w
    unfolding elements_judged
    judging_refused e q = rw e (sym (element ∙ simp (← q)))

    pub judging_again : {u : Unit {0}} {m : ℕ} → got u m ≡ element_judged g es i [] at → Judging g es w at (i + 1)
    unfolding elements_judged
    judging_again q = rw add-one (record { rest = element ∙ simp (← q, ← (judged_stays g es i [] at (sym q))) })
