-- Sets of numbers: as a test, as a list, and as a mask.
use Rattle.std.specs.Prelude.{ℕ, zero, suc, ◌+◌, ◌*◌, ◌/◌, ◌%◌, Bool, false, ◌||◌, cond, List, [], ◌∷◌, ◌++◌, eqb}

-- some number below n passes
unfoldable pub any : ℕ → (ℕ → Bool) → Bool
any zero f = false
any (suc n) f = f n || any n f

-- the numbers below n that pass, ascending, each once
unfoldable pub listed : ℕ → (ℕ → Bool) → List ℕ
listed zero f = []
listed (suc n) f = listed n f ++ cond (f n) (n ∷ []) []

-- bit i of a mask, the lowest being bit 0
unfoldable pub bit : ℕ → ℕ → Bool
bit m zero = eqb (m % 2) 1
bit m (suc i) = bit (m / 2) i

-- the mask of the numbers below n that pass
unfoldable pub mask : ℕ → (ℕ → Bool) → ℕ
mask zero f = 0
mask (suc n) f = mask n (λ i. f (suc i)) * 2 + cond (f 0) 1 0
