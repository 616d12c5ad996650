-- What holds of both ends of every row: the operations that build relations keep it.
use Prim.Native.Nat.{ℕ}
use mathlib.Core.Path.{◌≡◌}
use mathlib.Core.Bool.{Bool, true, not, ◌&&◌}
use lib.Dec.{eqb}
use borrow.Author.Tests.{eqb-true}
use Rattle.meaning.specs.Sets.{any}
use Rattle.meaning.specs.Relations.{Relation, OneOrMore, one, more, join, unite, has, difference, intersection, closure}
use Rattle.meaning.proofs.Tests.{and_left, and_right, or_out}
use Rattle.meaning.proofs.Sets.{any_out}
use Rattle.meaning.proofs.Closure.{closure_sound}

abbrev pub Ends : (ℕ → Type 0) → Relation → Type 0
Ends P r = (v w : ℕ) → r v w ≡ true → P v × P w

module _ (P : ℕ → Type 0) where
  pub diagonal_ends : (f : ℕ → Bool) → ((v : ℕ) → f v ≡ true → P v) → Ends P (λ v w. eqb v w && f v)
  diagonal_ends f k v w h =
      let p : P v = k v (and_right (eqb v w) (f v) h) in
      (p, rw (eqb-true v w (and_left (eqb v w) (f v) h)) at p)

  pub join_ends : (n : ℕ) (r s : Relation) → Ends P r → Ends P s → Ends P (join n r s)
  unfolding join
  join_ends n r s a b v w h =
      any_out n (λ u. r v u && s u w)
      (λ u l e. ((a v u (and_left (r v u) (s u w) e)).0, (b u w (and_right (r v u) (s u w) e)).1)) h

  pub unite_ends : (r s : Relation) → Ends P r → Ends P s → Ends P (unite r s)
  unfolding unite
  unite_ends r s a b v w h = or_out (r v w) (s v w) (a v w) (b v w) h

  pub has_ends : (n : ℕ) (r : Relation) → Ends P r → Ends P (has n r)
  unfolding has
  has_ends n r a = diagonal_ends (λ v. any n (λ u. r v u)) (λ v h. any_out n (λ u. r v u) (λ u l e. (a v u e).0) h)

  pub difference_ends : (r s : Relation) → Ends P r → Ends P (difference r s)
  unfolding difference
  difference_ends r s a v w h = a v w (and_left (r v w) (not (s v w)) h)

  pub intersection_ends : (r s : Relation) → Ends P r → Ends P (intersection r s)
  unfolding intersection
  intersection_ends r s a v w h = a v w (and_left (r v w) (s v w) h)

  pub closure_ends : (n : ℕ) (r : Relation) → Ends P r → Ends P (closure n r)
  closure_ends n r a v w h = ends (closure_sound n r h)
    where
      ends : {x : ℕ} → OneOrMore r v x → P v × P x
      ends (one {w = x} e) = a v x e
      ends (more {u} {w = x} p e) = ((ends p).0, (a u x e).1)
