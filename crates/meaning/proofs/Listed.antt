-- What a list of the numbers that pass holds: exactly those, ascending.
use Prim.Native.Nat.{ℕ, zero, suc, ◌<◌}
use mathlib.Core.Path.{◌≡◌, refl, sym, ◌∙◌}
use mathlib.Core.Bool.{Bool, true, false, cond}
use mathlib.Core.List.{List, [], ◌∷◌, ◌++◌, append-nil}
use native.Mathlib.Nat.{not-suc-le-zero}
use native.Mathlib.Omega.{arith}
use lib.ListN.{length, get_or, length-append, get_or-append}
use lib.Seq.{get_or-append_seam}
use Rattle.meaning.specs.Sets.{listed}
use Rattle.meaning.proofs.Tests.{never}
use Rattle.meaning.proofs.Sets.{below_suc}

pub record Lists (n : ℕ) (f : ℕ → Bool) (ws : List ℕ) : Type 0 where
  pub below : (i : ℕ) → i < length ws → get_or ws i 0 < n
  pub passes : (i : ℕ) → i < length ws → f (get_or ws i 0) ≡ true
  pub ascends : (i j : ℕ) → i < j → j < length ws → get_or ws i 0 < get_or ws j 0
  pub found : (w : ℕ) → w < n → f w ≡ true → (i : ℕ) × (i < length ws) × (get_or ws i 0 ≡ w)

module _ (n : ℕ) (f : ℕ → Bool) (ws : List ℕ) (l : Lists n f ws) where
  -- n does not pass: the list stays
  past : f n ≡ false → Lists (suc n) f ws
  past h =
      record {
        below = λ i m. let b = l.below i m in omega (arith, b);
        passes = l.passes;
        ascends = l.ascends;
        found = λ w m p. below_suc (λ x. f x ≡ true → (i : ℕ) × (i < length ws) × (get_or ws i 0 ≡ x)) w (λ q. never (sym h ∙ q)) (λ k q. l.found w k q) m p;
      }

  abbrev more : List ℕ
  more = ws ++ (n ∷ [])

  -- n passes: it comes last
  module _ (h : f n ≡ true) where
    longer : length more ≡ suc (length ws)
    longer = omega (arith, length-append ws (n ∷ []))

    old : (i : ℕ) → i < length ws → get_or more i 0 ≡ get_or ws i 0
    old i m = get_or-append ws (n ∷ []) 0 i m

    new : get_or more (length ws) 0 ≡ n
    new = get_or-append_seam ws n [] 0

    -- what holds of n and of each in the list holds of each in the longer one
    each : (P : ℕ → Type 0) → P n → ((i : ℕ) → i < length ws → P (get_or ws i 0)) → (i : ℕ) → i < length more → P (get_or more i 0)
    each P a b i m = below_suc (λ j. P (get_or more j 0)) i (rw new a) (λ k. rw (old i k) (b i k)) (rw longer at m)

    put : Lists (suc n) f more
    put =
        record {
          below = each (λ w. w < suc n) (omega arith) (λ i m. let b = l.below i m in omega (arith, b));
          passes = each (λ w. f w ≡ true) h l.passes;
          ascends = λ i j m k. below_suc (λ j. i < j → get_or more i 0 < get_or more j 0) j
              (λ m. rw (new, old i m) (l.below i m))
              (λ k m. let i-in : i < length ws = omega (arith, m, k) in rw (old i i-in, old j k) (l.ascends i j m k)) (rw longer at k) m;
          found = λ w m p. below_suc (λ x. f x ≡ true → (i : ℕ) × (i < length more) × (get_or more i 0 ≡ x)) w
              (λ q. (length ws, omega (arith, longer), new))
              (λ k q. let i = l.found w k q in (i.0, omega (arith, longer, i.1), old i.0 i.1 ∙ i.2)) m p;
        }

pub listed_lists : (n : ℕ) (f : ℕ → Bool) → Lists n f (listed n f)
unfolding listed
listed_lists zero f =
    record {
      below = λ i m. absurd (not-suc-le-zero m);
      passes = λ i m. absurd (not-suc-le-zero m);
      ascends = λ i j k m. absurd (not-suc-le-zero m);
      found = λ w m p. absurd (not-suc-le-zero m);
    }
listed_lists (suc n) f = by_last (f n) refl (listed_lists n f)
  where
    by_last : (b : Bool) → f n ≡ b → Lists n f (listed n f) → Lists (suc n) f (listed n f ++ cond b (n ∷ []) [])
    by_last true h l = put n f (listed n f) l h
    by_last false h l = rw (append-nil (listed n f)) (past n f (listed n f) l h)
