-- An element, its parent, the parent's parent: what the closes pass, and what the next element's parent may be.
use Prim.Native.Nat.{ℕ, zero, suc, ◌-◌, ◌≤◌, ◌<◌}
use mathlib.Core.Bool.{true, false, ◌||◌}
use mathlib.Core.List.{List, [], ◌++◌}
use mathlib.Core.Path.{◌≡◌, refl, sym, subst, ◌∙◌}
use native.Mathlib.Omega.{arith}
use lib.Dec.{eqb, ltb}
use lib.ListN.{length}
use borrow.Author.Tests.{lt-ltb, le-leb, eq-eqb, ne_eqb, ltb-true, eqb-true}
use Rattle.meaning.specs.declared.Graph.{Graph}
use Rattle.meaning.specs.declared.Element.{Element}
use Rattle.meaning.specs.Documents.{node, view, is_element, above, below, parent_rule, Accepted}
use Rattle.meaning.proofs.Tests.{never, and_in, and_left, and_right, or_left, or_right, or_out}
use Rattle.meaning.proofs.Views.{element_positive, rule_first, rule_later, accepted_keeps}
use Rattle.fields.specs.Write.{byte_of}
use Rattle.tre.specs.Tre.{closes}

-- b is reached from a by its parents
pub data Up (es : List Element) : ℕ → ℕ → Type 0 where
  here : {a : ℕ} → Up es a a
  up : {a b : ℕ} → 0 < a → Up es (node es a).parent b → Up es a b

up_same : {es : List Element} {a b : ℕ} → a ≡ b → Up es a b
up_same {es} {a} e = subst (Up es a) e here

pub up_parent : {es : List Element} {a b : ℕ} → Up es a b → 0 < b → Up es a (node es b).parent
up_parent here l = up l here
up_parent (up m u) l = up m (up_parent u l)

pub closes_none : (f : ℕ) (es : List Element) (a : ℕ) → closes f es a a ≡ []
unfolding closes
closes_none zero es a = refl
closes_none (suc f) es a = simp (eq-eqb a a refl)

pub closes_one : (f : ℕ) (es : List Element) (a b : ℕ) → (a ≡ b → ⊥) → closes (suc f) es a b ≡ byte_of 0x02 ++ closes f es (node es a).parent b
unfolding closes
closes_one f es a b n = simp (ne_eqb a b n)

-- Parents are less than their children, up to element n.
module _ (es : List Element) (n : ℕ) (less : (i : ℕ) → 0 < i → i ≤ n → (node es i).parent < i) where
  pub up_least : {a b : ℕ} → Up es a b → a ≤ n → b ≤ a
  up_least here l = omega arith
  up_least (up {a} m u) l = omega (arith, less a m l, up_least u (omega (arith, less a m l)))

  -- one close more leads to the parent
  pub closes_parent : (f : ℕ) {a b : ℕ} → Up es a b → a ≤ f → a ≤ n → 0 < b → closes f es a (node es b).parent ≡ closes f es a b ++ byte_of 0x02
  closes_parent zero here k l m = absurd (omega arith)
  closes_parent zero (up p u) k l m = absurd (omega arith)
  closes_parent (suc f) (here {a}) k l m =
      closes_one f es a (node es a).parent (λ e. omega (arith, less a m l))
      ∙ simp (closes_none f es (node es a).parent, closes_none (suc f) es a)
  closes_parent (suc f) (up {a} {b} p u) k l m =
      let d = less a p l in
      let w = up_least u (omega arith) in
      let q = less b m (omega arith) in
      closes_one f es a (node es b).parent (λ e. omega arith)
      ∙ simp (closes_parent f u (omega arith) (omega arith) m, closes_one f es a b (λ e. omega arith))

  -- an ancestor is found by asking for so many parents
  up_above : {a b : ℕ} → Up es a b → (k : ℕ) → a ≤ k → a ≤ n → a ≤ length es → eqb b a || above k (view es) b a ≡ true
  unfolding above is_element view
  up_above (here {a}) k l m w = or_left (eqb a a) _ (eq-eqb a a refl)
  up_above (up p u) zero l m w = absurd (omega arith)
  up_above (up {a} {b} p u) (suc k) l m w =
      let d = less a p m in
      or_right (eqb b a) _
      (and_in (and_in (le-leb a (length es) w) (lt-ltb 0 a p))
      (or_out (eqb b (node es a).parent) _
      (λ q. or_left _ _ (eq-eqb (node es a).parent b (sym (eqb-true b (node es a).parent q))))
      (or_right (eqb (node es a).parent b) _)
      (up_above u k (omega arith) (omega arith) (omega arith))))

  -- the parent rule, of an element whose parent is the one before or above that
  pub rule_in : (a : ℕ) → a ≤ n → a < length es → Up es a (node es (suc a)).parent → (0 < a → 0 < (node es (suc a)).parent) → parent_rule (view es) (suc a) ≡ true
  unfolding parent_rule below view
  rule_in zero l w u p = eq-eqb (node es 1).parent 0 (omega (arith, up_least u l))
  rule_in (suc a) l w u p =
      let other : eqb (suc (suc a)) 1 ≡ false = ne_eqb (suc (suc a)) 1 (λ e. omega arith) in
      let before : suc (suc a) - 1 ≡ suc a = omega arith in
      rw (other, before) (and_in (lt-ltb 0 _ (p (omega arith))) (up_above u (suc (length es)) (omega arith) l (omega arith)))

module _ (limit : ℕ) (g : Graph) (es : List Element) (accepted : Accepted limit g es) where
  element : (i : ℕ) → 0 < i → i ≤ length es → is_element (view es) i ≡ true
  unfolding is_element view
  element i p l = and_in (le-leb i (length es) l) (lt-ltb 0 i p)

  pub parent_less : (i : ℕ) → 0 < i → i ≤ length es → (node es i).parent < i
  unfolding view
  parent_less i p l = (accepted_keeps limit g es accepted).parent_less i (element i p l)

  above_up : (k : ℕ) {a b : ℕ} → above k (view es) b a ≡ true → Up es a b
  unfolding above view
  above_up zero h = never h
  above_up (suc k) {a} {b} h =
      let p = element_positive (view es) a (and_left (is_element (view es) a) _ h) in
      or_out (eqb (node es a).parent b) _
      (λ q. up p (up_same (eqb-true _ _ q)))
      (λ q. up p (above_up k q))
      (and_right (is_element (view es) a) _ h)

  -- what the parent rule says of the element that follows a
  pub rule_up : (a : ℕ) → a < length es → Up es a (node es (suc a)).parent × (0 < a → 0 < (node es (suc a)).parent)
  unfolding below view
  rule_up zero l = (up_same (sym (rule_first (view es) (accepted.parents 1 (omega arith) l))), λ p. absurd (omega arith))
  rule_up (suc a) l =
      let p : ℕ = (node es (suc (suc a))).parent in
      let h = rule_later (view es) a (accepted.parents (suc (suc a)) (omega arith) l) in
      (or_out (eqb p (suc a)) _ (λ q. up_same (sym (eqb-true p (suc a) q))) (above_up (suc (length es))) (and_right (ltb 0 p) _ h), λ _. ltb-true 0 p (and_left (ltb 0 p) _ h))

  -- element 1 is above all others
  pub root_up : (n a : ℕ) → a ≤ n → 0 < a → a ≤ length es → Up es a 1
  root_up zero a l p w = absurd (omega arith)
  root_up (suc n) zero l p w = absurd (omega arith)
  root_up (suc n) (suc zero) l p w = here
  root_up (suc n) (suc (suc a)) l p w =
      let (_, q) = rule_up (suc a) w in
      let d = parent_less (suc (suc a)) p w in
      up p (root_up n (node es (suc (suc a))).parent (omega arith) (q (omega arith)) (omega arith))
