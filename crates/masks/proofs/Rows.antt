-- Announcements made row by row.
use Prim.Native.Nat.{ℕ, zero, suc, ◌+◌, ◌<◌, ◌≤◌}
use mathlib.Core.Path.{◌≡◌, refl, sym, ap, subst, ◌∙◌, fun_ext}
use mathlib.Core.Bool.{Bool, true}
use mathlib.Core.List.{List}
use denote.Param.Members.{Mut, Called}
use mathlib.Core.Logic.{⊎_elim}
use native.Mathlib.Nat.{eq-or-lt_of_le, lt_of_not-le}
use native.Mathlib.Omega.{arith}
use lib.ListN.{length, get_or, get_or-eq_default}
use Rattle.meaning.specs.Limits.{kinds}
use Rattle.meaning.specs.Sets.{bit}
use Rattle.meaning.specs.Relations.{Relation}
use Rattle.meaning.proofs.Tests.{never, same}
use Rattle.meaning.proofs.Sets.{bit_none}
use Rattle.std.specs.Array.{IsFromFnResult, IsFromFnResultFrom}
use Rattle.masks.specs.declared.Announced.{Announced}
use Rattle.masks.specs.Announcement.{rel_of}

-- every pair starts at a kind
pub record FromKinds (r : Relation) : Type 0 where
  pub from : (A B : ℕ) → r A B ≡ true → A < kinds

-- past the last mask there are none
pub pairs_from : (a : Announced) → length a.pairs ≡ kinds → FromKinds (rel_of a)
unfolding rel_of
pairs_from a l =
    record { from = λ A B h. lt_of_not-le (λ k. never (sym (bit_none B) ∙ rw (get_or-eq_default a.pairs 0 {n = A} (omega arith)) at h)) }

-- two relations from kinds that agree on kinds are equal
pub from_same : {r s : Relation} → FromKinds r → FromKinds s → ((A B : ℕ) → A < kinds → r A B ≡ s A B) → r ≡ s
from_same {r} {s} a b h =
    fun_ext λ A. fun_ext λ B. same (r A B) (s A B) (λ e. sym (h A B (a.from A B e)) ∙ e) (λ e. h A B (b.from A B e) ∙ e)

-- an announcement made row by row: each call gives the row of a kind and leaves the closure as it was
module _ {F : Type 0} (g : Mut F (ℕ × Unit {0}) ℕ) (f : F) {r : Relation} (small : FromKinds r)
    (each : (A row : ℕ) (q : F) → A < kinds → Called g f (A, tt) row q → (bit row ≡ r A) × (q ≡ f)) where
  rows_from : (xs : List ℕ) (n A : ℕ) → A + n ≡ kinds → (p : F) → p ≡ f → IsFromFnResultFrom g p xs A n → (B : ℕ) → A ≤ B → B < kinds → bit (get_or xs B 0) ≡ r B
  rows_from xs zero A e p s t B a b = absurd (omega arith)
  rows_from xs (suc n) A e p s t B a b =
      let now : (bit t.1 ≡ r A) × (t.0 ≡ f) = each A t.1 t.0 (omega arith) (subst (λ (x : F). Called g x (A, tt) t.1 t.0) s t.3) in
      ⊎_elim
      (λ (q : A ≡ B). rw (← q) (ap bit (t.2.1 0) ∙ now.0))
      (λ (l : A < B). rows_from xs n (A + 1) (omega arith) t.0 now.1 t.4 B (omega arith) b)
      (eq-or-lt_of_le a)

  pub rows_made : (xs : List ℕ) → IsFromFnResult g f xs kinds → rel_of (record { pairs = xs }) ≡ r
  unfolding rel_of
  rows_made xs t =
      from_same (pairs_from (record { pairs = xs }) t.long) small
      (λ A B l. ap (λ (s : ℕ → Bool). s B) (rows_from xs kinds 0 refl f refl t.each A (omega arith) l))
