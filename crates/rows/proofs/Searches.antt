-- Laws of the search that skips what does not pass: any, and the list, up to the next that passes.
use Rattle.std.proofs.Common.{Option, Some, None, MatchOption, is_some, unwrap_or}
use Prim.Native.Nat.{ℕ, zero, suc, ◌+◌, ◌≤◌, ◌<◌}
use mathlib.Core.Path.{◌≡◌, refl, sym, ap, ◌∙◌}
use mathlib.Core.Bool.{Bool, false, ◌||◌, cond}
use mathlib.Core.List.{[], ◌∷◌, ◌++◌, append-nil}
use native.Mathlib.Nat.{not-suc-le-zero}
use native.Mathlib.Omega.{arith}
use borrow.Author.Tests.{lt-ltb, le-ltb}
use native.Mathlib.Numerals.{add-one}
use lib.Dec.{leb, ltb, leb-suc-suc}
use Rattle.meaning.specs.Sets.{any, listed}
use Rattle.meaning.proofs.Sets.{any_in}
use Rattle.rows.specs.Inside.Rows.{Next, NextIs}
use Rattle.rows.proofs.Cases.{by_order, by_equal}

-- where none from k to m passes, a search below m comes to what one below k comes to
pub any_still : (k m : ℕ) (f : ℕ → Bool) → k ≤ m → ((x : ℕ) → k ≤ x → x < m → f x ≡ false) → any m f ≡ any k f
unfolding any
any_still zero zero f l h = refl
any_still (suc k) zero f l h = absurd (not-suc-le-zero l)
any_still k (suc m) f l h =
    by_equal k (suc m) (λ e. ap (λ (n : ℕ). any n f) (sym e)) λ n.
    ap (λ (b : Bool). b || any m f) (h m (omega arith) (omega arith)) ∙ any_still k m f (omega arith) (λ x a b. h x a (omega arith))

pub listed_still : (k m : ℕ) (f : ℕ → Bool) → k ≤ m → ((x : ℕ) → k ≤ x → x < m → f x ≡ false) → listed m f ≡ listed k f
unfolding listed
listed_still zero zero f l h = refl
listed_still (suc k) zero f l h = absurd (not-suc-le-zero l)
listed_still k (suc m) f l h =
    by_equal k (suc m) (λ e. ap (λ (n : ℕ). listed n f) (sym e)) λ n.
    ap (λ (b : Bool). listed m f ++ cond b (m ∷ []) []) (h m (omega arith) (omega arith))
    ∙ append-nil (listed m f) ∙ listed_still k m f (omega arith) (λ x a b. h x a (omega arith))

-- some number below size passes where the first that does is below it
pub some_below : {limit first : ℕ} {f : ℕ → Bool} (size : ℕ) → size ≤ limit → Next limit f 0 first → ltb first size ≡ any size f
unfolding any
some_below {first = first} {f} size s n =
    by_order first size
    (λ h. lt-ltb first size h ∙ sym (any_in size f first h (n.found (omega arith))))
    (λ h. le-ltb first size h ∙ sym (any_still 0 size f (omega arith) (λ x p q. n.none x p (omega arith))))

-- the next number, or the limit
pub next_is : {limit from : ℕ} {f : ℕ → Bool} (o : Option ℕ) → NextIs limit f from o → Next limit f from (unwrap_or o limit)
next_is (Some r) is = is.1
next_is None is = is

-- some number passes where there is a first that does
pub some_passes : (limit : ℕ) (f : ℕ → Bool) (first : Option ℕ) → NextIs limit f 0 first → is_some first ≡ any limit f
some_passes limit f (Some r) (l, n) = sym (lt-ltb r limit l) ∙ some_below limit (omega arith) n
some_passes limit f None n = sym (le-ltb limit limit (omega arith)) ∙ some_below limit (omega arith) n

-- some number up to n passes where the first that does, if one does, is no greater
pub some_upto : (limit n : ℕ) (f : ℕ → Bool) (first : Option ℕ) {there : Bool} {Q : ℕ → Type 0} → n < limit → NextIs limit f 0 first
    → MatchOption first (there ≡ false) Q → ((w : ℕ) → Q w → there ≡ leb w n) → there ≡ any (n + 1) f
some_upto limit n f (Some w) l (b, next) is up =
    up w is ∙ sym (leb-suc-suc w n) ∙ ap (leb (suc w)) (sym (add-one n)) ∙ some_below (n + 1) (omega arith) next
some_upto limit n f None l next is up = is ∙ sym (le-ltb limit (n + 1) (omega arith)) ∙ some_below (n + 1) (omega arith) next
