-- What the view of an accepted document keeps to, and what follows for parents and for nodes below.
use Prim.Native.Nat.{ℕ, zero, suc, ◌-◌, ◌<◌, ◌≤◌}
use mathlib.Core.Path.{◌≡◌, refl, sym, ap, ◌∙◌}
use mathlib.Core.Bool.{true, false, ◌&&◌, ◌||◌}
use mathlib.Core.List.{List}
use native.Mathlib.Nat.{not-suc-le-zero}
use native.Mathlib.Omega.{arith}
use lib.Dec.{eqb, ltb}
use lib.ListN.{length}
use borrow.Author.Tests.{ltb-true, leb-true, le-leb, eqb-true, eq-eqb, ne_eqb}
use Rattle.meaning.specs.declared.Graph.{Graph}
use Rattle.meaning.specs.declared.Element.{Element}
use Rattle.meaning.specs.Limits.{document}
use Rattle.meaning.specs.Relations.{OneOrMore, one, more}
use Rattle.meaning.specs.Graphs.{child_kind}
use Rattle.meaning.specs.Documents.{View, is_element, is_parent, above, below, is_text, text_test, view, node, parent_rule, edge_rule, Accepted}
use Rattle.meaning.proofs.Tests.{never, and_in, and_left, and_right, and_where, or_left, or_right, or_out}

-- All that the theorems ask of a view.
pub record Lawful (g : Graph) (d : View) : Type 0 where
  pub root_there : d.there 0 ≡ true
  pub root_kind : d.kind 0 ≡ document
  pub bounded : (v : ℕ) → d.there v ≡ true → v < d.size
  pub parent_less : (w : ℕ) → is_element d w ≡ true → d.parent w < w
  pub parent_there : (w : ℕ) → is_element d w ≡ true → d.there (d.parent w) ≡ true
  pub edge : (w : ℕ) → is_element d w ≡ true → child_kind g (d.kind (d.parent w)) (d.kind w) ≡ true

pub element_there : (d : View) (w : ℕ) → is_element d w ≡ true → d.there w ≡ true
unfolding is_element
element_there d w h = and_left (d.there w) (ltb 0 w) h

pub element_positive : (d : View) (w : ℕ) → is_element d w ≡ true → 0 < w
unfolding is_element
element_positive d w h = ltb-true 0 w (and_right (d.there w) (ltb 0 w) h)

pub parent_element : (d : View) (v w : ℕ) → is_parent d v w ≡ true → is_element d w ≡ true
unfolding is_parent
parent_element d v w h = and_left (is_element d w) (eqb (d.parent w) v) h

pub parent_is : (d : View) (v w : ℕ) → is_parent d v w ≡ true → d.parent w ≡ v
unfolding is_parent
parent_is d v w h = eqb-true (d.parent w) v (and_right (is_element d w) (eqb (d.parent w) v) h)

pub is_parent_lem : (d : View) (w : ℕ) → is_element d w ≡ true → is_parent d (d.parent w) w ≡ true
unfolding is_parent
is_parent_lem d w h = and_in h (eq-eqb (d.parent w) (d.parent w) refl)

pub test_element : (d : View) (c v : ℕ) → text_test d c v ≡ true → is_element d v ≡ true
unfolding text_test
test_element d c v h = and_left (is_element d v) _ (and_right (is_text c) _ h)

pub test_text : (d : View) (c v : ℕ) → text_test d c v ≡ true → is_text c ≡ true
unfolding text_test
test_text d c v h = and_left (is_text c) _ h

above_there : (d : View) (k v w : ℕ) → above k d v w ≡ true → d.there w ≡ true
unfolding above
above_there d zero v w h = never h
above_there d (suc k) v w h = element_there d w (and_left (is_element d w) _ h)

pub below_there : (d : View) (v w : ℕ) → below d v w ≡ true → d.there w ≡ true
unfolding below
below_there d v w h = above_there d d.size v w h

-- the parent rule, at element 1 and at the others
pub rule_first : (d : View) → parent_rule d 1 ≡ true → d.parent 1 ≡ 0
unfolding parent_rule
rule_first d h = eqb-true (d.parent 1) 0 h

pub rule_later : (d : View) (i : ℕ) → parent_rule d (suc (suc i)) ≡ true
    → ltb 0 (d.parent (suc (suc i))) && (eqb (d.parent (suc (suc i))) (suc i) || below d (d.parent (suc (suc i))) (suc i)) ≡ true
unfolding parent_rule
rule_later d i h =
    let other : eqb (suc (suc i)) 1 ≡ false = ne_eqb (suc (suc i)) 1 (λ e. omega arith) in
    let before : suc (suc i) - 1 ≡ suc i = omega arith in
    rw (other, before) at h

module _ (limit : ℕ) (g : Graph) (es : List Element) (accepted : Accepted limit g es) where
  there_below : (i : ℕ) → is_element (view es) i ≡ true → i ≤ length es
  unfolding view
  there_below i e = leb-true i (length es) (element_there (view es) i e)

  -- parents up to m are less than their children, so what is above a node up to m is less than it
  above_less : (m : ℕ) → ((i : ℕ) → i ≤ m → is_element (view es) i ≡ true → (view es).parent i < i)
      → (k v w : ℕ) → w ≤ m → above k (view es) v w ≡ true → v < w
  unfolding above
  above_less m less zero v w l h = never h
  above_less m less (suc k) v w l h =
      let e : is_element (view es) w ≡ true = and_left (is_element (view es) w) _ h in
      let lw : (view es).parent w < w = less w l e in
      or_out (eqb ((view es).parent w) v) (above k (view es) v ((view es).parent w))
      (λ q. omega (arith, eqb-true ((view es).parent w) v q))
      (λ q. omega (arith, above_less m less k v ((view es).parent w) (omega arith) q))
      (and_right (is_element (view es) w) _ h)

  -- by the parent rule, element i's parent is less, where those of the elements before it are
  less_at : (i : ℕ) → ((j : ℕ) → j < i → is_element (view es) j ≡ true → (view es).parent j < j)
      → is_element (view es) i ≡ true → (view es).parent i < i
  unfolding below
  less_at zero less e = absurd (not-suc-le-zero (element_positive (view es) 0 e))
  less_at (suc zero) less e = omega (arith, rule_first (view es) (accepted.parents 1 (omega arith) accepted.some_element))
  less_at (suc (suc i)) less e =
      let p : ℕ = (view es).parent (suc (suc i)) in
      or_out (eqb p (suc i)) (below (view es) p (suc i))
      (λ q. omega (arith, eqb-true p (suc i) q))
      (λ q. omega (arith, above_less (suc i) (λ j l. less j (omega arith)) (view es).size p (suc i) (omega arith) q))
      (and_right (ltb 0 p) _ (rule_later (view es) i (accepted.parents (suc (suc i)) (omega arith) (there_below (suc (suc i)) e))))

  less_before : (n i : ℕ) → i < n → is_element (view es) i ≡ true → (view es).parent i < i
  less_before zero i l e = absurd (not-suc-le-zero l)
  less_before (suc n) i l e = less_at i (λ j m. less_before n j (omega arith)) e

  pub accepted_keeps : Lawful g (view es)
  unfolding view edge_rule node
  accepted_keeps = record {
    root_there = le-leb 0 (length es) (omega arith);
    root_kind = refl;
    bounded = λ v h. omega (arith, leb-true v (length es) h);
    parent_less = λ w e. less_before (suc w) w (omega arith) e;
    parent_there = λ w e. le-leb _ (length es) (omega (arith, less_before (suc w) w (omega arith) e, there_below w e));
    edge = λ w e. accepted.edges w (element_positive (view es) w e) (there_below w e);
  }

module _ (g : Graph) (d : View) (keeps : Lawful g d) where
  -- w has fewer than k nodes above it, so a k-th parent is never asked for
  above_enough : (k v w : ℕ) → w < k → above (suc k) d v w ≡ above k d v w
  unfolding above
  above_enough zero v w l = absurd (not-suc-le-zero l)
  above_enough (suc k) v w l =
      and_where (is_element d w) λ e.
      ap (λ b. eqb (d.parent w) v || b) (above_enough k v (d.parent w) (omega (arith, keeps.parent_less w e)))

  -- w is below v where v is its parent, or its parent is below v
  pub below_unrolled : (v w : ℕ) → d.there w ≡ true → below d v w ≡ is_element d w && (eqb (d.parent w) v || below d v (d.parent w))
  unfolding below above
  below_unrolled v w h = sym (above_enough d.size v w (keeps.bounded w h))

  pub below_child : (v w : ℕ) → is_parent d v w ≡ true → below d v w ≡ true
  below_child v w h =
      let e : is_element d w ≡ true = parent_element d v w h in
      below_unrolled v w (element_there d w e)
      ∙ and_in e (or_left _ _ (eq-eqb (d.parent w) v (parent_is d v w h)))

  pub below_deeper : (v u w : ℕ) → below d v u ≡ true → is_parent d u w ≡ true → below d v w ≡ true
  below_deeper v u w b h =
      let e : is_element d w ≡ true = parent_element d u w h in
      below_unrolled v w (element_there d w e)
      ∙ and_in e (or_right (eqb (d.parent w) v) _ (rw (parent_is d u w h) b))

  above_steps : (k v w : ℕ) → above k d v w ≡ true → OneOrMore (is_parent d) v w
  unfolding above
  above_steps zero v w h = never h
  above_steps (suc k) v w h =
      let e : is_element d w ≡ true = and_left (is_element d w) _ h in
      or_out (eqb (d.parent w) v) (above k d v (d.parent w))
      (λ q. one (rw (eqb-true (d.parent w) v q) at (is_parent_lem d w e)))
      (λ q. more (above_steps k v (d.parent w) q) (is_parent_lem d w e))
      (and_right (is_element d w) _ h)

  -- below by parents is one or more steps from parent to child
  pub below_steps : {v w : ℕ} → below d v w ≡ true → OneOrMore (is_parent d) v w
  unfolding below
  below_steps {v} {w} h = above_steps d.size v w h

  pub steps_below : {v w : ℕ} → OneOrMore (is_parent d) v w → below d v w ≡ true
  steps_below {v} {w} (one h) = below_child v w h
  steps_below {v} {w} (more {u} s h) = below_deeper v u w (steps_below s) h
