-- Relations that grow: by a row, and by a column that has one number in it.
use Prim.Native.Nat.{ℕ, ◌+◌, ◌<◌}
use mathlib.Core.Path.{◌≡◌, sym, ap, ap₂, ◌∙◌}
use mathlib.Core.Bool.{Bool, true, false, ◌&&◌, ◌||◌, or-false, and-false, and-true, and_comm, and_assoc, cond}
use native.Mathlib.Omega.{arith}
use borrow.Author.Tests.{eq-eqb, ne_eqb, lt-ltb, le-ltb}
use lib.Dec.{eqb, ltb}
use Rattle.meaning.specs.Relations.{Relation}
use Rattle.meaning.proofs.Tests.{and_implied}
use Rattle.rows.proofs.Cases.{by_order, by_equal}
use Rattle.rooms.specs.Inside.Rooms.{up_to, columns, changed, added}

-- all of r, where its rows start, or end, below n
pub up_to_all : (n : ℕ) (r : Relation) → ((v w : ℕ) → r v w ≡ true → v < n) → (v w : ℕ) → up_to n r v w ≡ r v w
unfolding up_to
up_to_all n r h v w = and_comm (ltb v n) (r v w) ∙ and_implied (r v w) (ltb v n) (λ e. lt-ltb v n (h v w e))

pub columns_all : (n : ℕ) (r : Relation) → ((v w : ℕ) → r v w ≡ true → w < n) → (v w : ℕ) → columns n r v w ≡ r v w
unfolding columns
columns_all n r h v w = and_comm (ltb w n) (r v w) ∙ and_implied (r v w) (ltb w n) (λ e. lt-ltb w n (h v w e))

-- nothing of r, where no number below n starts, or ends, a row of it
pub up_to_none : (r : Relation) (v w : ℕ) → up_to 0 r v w ≡ false
unfolding up_to
up_to_none r v w = ap (λ (t : Bool). t && r v w) (le-ltb v 0 (omega arith))

pub columns_none : (n : ℕ) (r : Relation) → ((v w : ℕ) → w < n → r v w ≡ false) → (v w : ℕ) → columns n r v w ≡ false
unfolding columns
columns_none n r h v w =
    by_order w n (λ l. ap (λ (t : Bool). ltb w n && t) (h v w l) ∙ and-false (ltb w n)) (λ l. ap (λ (t : Bool). t && r v w) (le-ltb w n l))

-- a number that is not v is below the next of v where it is below v
below_next : (u v : ℕ) → (u ≡ v → ⊥) → ltb u v ≡ ltb u (v + 1)
below_next u v n =
    by_order u v (λ h. lt-ltb u v h ∙ sym (lt-ltb u (v + 1) (omega arith))) (λ h. le-ltb u v h ∙ sym (le-ltb u (v + 1) (omega arith)))

-- what passes below v, and v where it does, is what passes below the next of v
pub one_more : (f : ℕ → Bool) (v x : ℕ) {there : Bool} → f v ≡ there → (ltb x v && f x) || (there && eqb v x) ≡ ltb x (v + 1) && f x
one_more f v x {there} h =
    by_equal x v
    (λ e. ap₂ (λ (a b : Bool). (a && f x) || (there && b)) (le-ltb x v (omega arith)) (eq-eqb v x (sym e)) ∙ and-true there
    ∙ sym (ap₂ ◌&&◌ (lt-ltb x (v + 1) (omega arith)) (ap f e ∙ h)))
    (λ n. ap₂ (λ (a b : Bool). (a && f x) || (there && b)) (below_next x v n) (ne_eqb v x (λ e. n (sym e)))
    ∙ ap (λ (b : Bool). (ltb x (v + 1) && f x) || b) (and-false there) ∙ or-false _)

-- the row that is changed, and the others
module _ (v : ℕ) (f : ℕ → Bool) (r : Relation) where
  pub changed_here : {u : ℕ} → u ≡ v → (w : ℕ) → changed v f r u w ≡ f w
  unfolding changed
  changed_here {u} e w = ap (λ (t : Bool). cond t (f w) (r u w)) (eq-eqb u v e)

  pub changed_else : {u : ℕ} → (u ≡ v → ⊥) → (w : ℕ) → changed v f r u w ≡ r u w
  unfolding changed
  changed_else {u} n w = ap (λ (t : Bool). cond t (f w) (r u w)) (ne_eqb u v n)

pub row_next : (r : Relation) (v u w : ℕ) → changed v (r v) (up_to v r) u w ≡ up_to (v + 1) r u w
unfolding up_to
row_next r v u w =
    by_equal u v
    (λ e. changed_here v (r v) _ e w ∙ sym (ap₂ (λ (t : Bool) (x : ℕ). t && r x w) (lt-ltb u (v + 1) (omega arith)) e))
    (λ n. changed_else v (r v) _ n w ∙ ap (λ (t : Bool). t && r u w) (below_next u v n))

pub column_next : (r : Relation) (u w : ℕ) (there : Bool) → ((v : ℕ) → r v w ≡ there && eqb u v) → (v x : ℕ) → added u w there (columns w r) v x ≡ columns (w + 1) r v x
unfolding added columns
column_next r u w there h v x = ap (λ (t : Bool). (ltb x w && r v x) || t) (sym (and_assoc there (eqb u v) (eqb w x))) ∙ one_more (r v) w x (h v)
