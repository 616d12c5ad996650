-- Laws of tests: && and || of them, and what each says when it passes.
use Prim.Native.Nat.{ℕ}
use mathlib.Core.Path.{◌≡◌, refl, sym}
use mathlib.Core.Bool.{Bool, true, false, not, ◌&&◌, ◌||◌}
use native.Mathlib.Omega.{arith}

-- what fails does not pass
pub never : {P : Type 0} → false ≡ true → P
never h = let z : ◌≡◌ {A = ℕ} 0 1 = cc in absurd (omega arith)

pub fails : (a : Bool) → (a ≡ true → ⊥) → a ≡ false
fails true h = absurd (h refl)
fails false h = refl

-- two tests that pass together are equal
pub same : (a b : Bool) → (a ≡ true → b ≡ true) → (b ≡ true → a ≡ true) → a ≡ b
same true b f g = sym (f refl)
same false true f g = g refl
same false false f g = refl

pub and_in : {a b : Bool} → a ≡ true → b ≡ true → a && b ≡ true
and_in p q = rw (p, q)

pub and_left : (a b : Bool) → a && b ≡ true → a ≡ true
and_left true b h = refl
and_left false b h = h

pub and_right : (a b : Bool) → a && b ≡ true → b ≡ true
and_right true b h = h
and_right false b h = never h

pub or_left : (a b : Bool) → a ≡ true → a || b ≡ true
or_left a b h = rw h

pub or_right : (a b : Bool) → b ≡ true → a || b ≡ true
or_right true b h = refl
or_right false b h = h

pub or_out : {P : Type 0} (a b : Bool) → (a ≡ true → P) → (b ≡ true → P) → a || b ≡ true → P
or_out true b f g h = f refl
or_out false b f g h = g h

-- the second test matters only where the first passes
pub and_where : (a : Bool) {b c : Bool} → (a ≡ true → b ≡ c) → a && b ≡ a && c
and_where true h = h refl
and_where false h = refl

pub and_cong : {a : Bool} (c : Bool) {e f : Bool} → a ≡ c → (c ≡ true → e ≡ f) → a && e ≡ c && f
and_cong c p h = rw p (and_where c h)

pub and_implied : (a b : Bool) → (a ≡ true → b ≡ true) → a && b ≡ a
and_implied true b h = h refl
and_implied false b h = refl

pub not_in : (a : Bool) → (a ≡ true → ⊥) → not a ≡ true
not_in a h = rw (fails a h)
