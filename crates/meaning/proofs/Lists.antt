-- Laws of a list by the numbers of its places.
use Prim.Native.Nat.{ℕ, zero, suc, ◌+◌, ◌<◌}
use mathlib.Core.Path.{◌≡◌, refl, sym, ap, ◌∙◌}
use mathlib.Core.List.{List, [], ◌∷◌, ◌++◌}
use native.Mathlib.Nat.{add-zero, suc-add, add-suc}
use native.Mathlib.Omega.{arith}
use lib.ListN.{length, get_or}
use Rattle.meaning.specs.Lists.{table}

module _ {A : Type 0} (f : ℕ → A) where
  pub table_length : (a n : ℕ) → length (table f a n) ≡ n
  unfolding table
  table_length a zero = refl
  table_length a (suc n) = ap suc (table_length (suc a) n)

  pub table_at : (a n i : ℕ) (none : A) → i < n → get_or (table f a n) i none ≡ f (a + i)
  unfolding table
  table_at a zero i none l = absurd (omega arith)
  table_at a (suc n) zero none l = ap f (sym (add-zero a))
  table_at a (suc n) (suc i) none l = table_at (suc a) n i none (omega arith) ∙ ap f (suc-add a i ∙ sym (add-suc a i))

  pub table_more : (a n : ℕ) → table f a (suc n) ≡ table f a n ++ (f (a + n) ∷ [])
  unfolding table
  table_more a zero = ap (λ (i : ℕ). f i ∷ []) (sym (add-zero a))
  table_more a (suc n) =
      ap (λ (l : List A). f a ∷ l) (table_more (suc a) n)
      ∙ ap (λ (i : ℕ). f a ∷ (table f (suc a) n ++ (f i ∷ []))) (suc-add a n ∙ sym (add-suc a n))

  pub table_cong : (g : ℕ → A) (a n : ℕ) → ((i : ℕ) → i < a + n → f i ≡ g i) → table f a n ≡ table g a n
  unfolding table
  table_cong g a zero h = refl
  table_cong g a (suc n) h =
      ap (λ (x : A). x ∷ table f (suc a) n) (h a (omega arith)) ∙ ap (λ (l : List A). g a ∷ l) (table_cong g (suc a) n (λ i l. h i (omega arith)))
