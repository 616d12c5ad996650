-- Two numbers are in one order or the other, and equal or not.
use Prim.Native.Nat.{ℕ, ◌≤◌, ◌<◌}
use mathlib.Core.Path.{◌≡◌}
use native.Mathlib.Decide.{dec_lt, ℕ_discrete}
use native.Mathlib.Omega.{arith}

pub by_order : {P : Type 0} (a b : ℕ) → (a < b → P) → (b ≤ a → P) → P
by_order {P} a b f g = go (dec_lt a b)
  where
    go : Dec (a < b) → P
    go (yes h) = f h
    go (no h) = g (omega arith)

pub by_equal : {P : Type 0} (a b : ℕ) → (a ≡ b → P) → ((a ≡ b → ⊥) → P) → P
by_equal {P} a b f g = go (ℕ_discrete a b)
  where
    go : Dec (a ≡ b) → P
    go (yes h) = f h
    go (no h) = g h
