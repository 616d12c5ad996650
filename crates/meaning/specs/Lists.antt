-- A list by the numbers of its places.
use Rattle.std.specs.Prelude.{ℕ, zero, suc, List, [], ◌∷◌}

-- f at the numbers from a on, n of them
unfoldable pub table : {A : Type 0} → (ℕ → A) → ℕ → ℕ → List A
table f a zero = []
table f a (suc n) = f a ∷ table f (suc a) n
