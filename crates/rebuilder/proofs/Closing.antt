-- One law for each need of the loop that closes: what has been reached on the way up, and which closes are still to come.
use Prim.Native.Nat.{ℕ, suc, ◌+◌, ◌≤◌, ◌<◌}
use mathlib.Core.List.{List, ◌++◌}
use mathlib.Core.Path.{◌≡◌, refl, sym, ap, ◌∙◌}
use native.Mathlib.Numerals.{add-one}
use native.Mathlib.Omega.{arith}
use lib.ListN.{length}
use Rattle.meaning.specs.declared.Element.{Element}
use Rattle.meaning.specs.Documents.{node}
use Rattle.fields.specs.Write.{byte_of}
use Rattle.tre.specs.Tre.{closes}
use Rattle.tre.proofs.Climbs.{Up, here, up, closes_none}
use Rattle.writing.specs.declared.Writer.{Writer}
use Rattle.writing.specs.Inside.Wrote.{Wrote}
use Rattle.writing.proofs.Toward.{Toward, toward_none, toward_room, toward_more, toward_all}
use Rattle.rebuilder.specs.Inside.TokensFit.{closes_after, TokensFit}
use Rattle.rebuilder.proofs.Closes.{less, up_next, closes_up}

-- the closes from element n up to the parent of the element that follows a
abbrev pub closes_from : List Element → ℕ → ℕ → List ℕ
closes_from es a n = closes (length es) es n (node es (suc a)).parent

-- Element n has been reached on the way up, and the closes from there on are still to come.
pub record Closing (es : List Element) (a : ℕ) (old : Writer) (n : ℕ) (w : Writer) : Type 0 where
  reached : n ≤ length es
  climb : Up es n (node es (suc a)).parent
  to_come : Toward (closes_after es a) old (closes_from es a n) w

one_up : {es : List Element} {n b : ℕ} → Up es n b → (n ≡ b → ⊥) → (0 < n) × Up es (node es n).parent b
one_up here other = absurd (other refl)
one_up (up p u) other = (p, u)

module _ {es : List Element} {a : ℕ} {old : Writer} (start : TokensFit es (closes_after es a) old) where
  pub closing_none : a ≤ length es → Closing es a old a old
  closing_none l = record { reached = l; climb = up_next start.held.accepted l; to_come = toward_none start.room }

  module _ {x : Element} (f : x ≡ node es (a + 1)) {n : ℕ} {w : Writer} (so_far : Closing es a old n w) where
    parent_is : x.parent ≡ (node es (suc a)).parent
    parent_is = ap (λ y. y.parent) f ∙ rw (add-one a)

    pub closing_all : n ≡ x.parent → Wrote (closes_after es a) old w
    closing_all e = toward_all so_far.to_come (rw (e, parent_is) (closes_none (length es) es (node es (suc a)).parent))

    module _ (other : n ≡ x.parent → ⊥) where
      climb_is : (0 < n) × Up es (node es n).parent (node es (suc a)).parent
      climb_is = one_up so_far.climb (λ e. other (e ∙ sym parent_is))

      closes_next : closes_from es a n ≡ byte_of 0x02 ++ closes_from es a (node es n).parent
      closes_next = closes_up start.held.accepted climb_is.0 climb_is.1 so_far.reached

      pub close_fits : w.at < length w.out.now
      close_fits = omega (arith, toward_room (byte_of 0x02) (closes_from es a (node es n).parent) so_far.to_come closes_next)

      module _ {e : Element} (h : e ≡ node es n) where
        pub closing_less : e.parent < n
        closing_less = rw h (less start.held.accepted n climb_is.0 so_far.reached)

        pub closing_more : {next : Writer} → Wrote (byte_of 0x02) w next → Closing es a old e.parent next
        closing_more p = record { reached = omega (arith, closing_less, so_far.reached); climb = rw h climb_is.1; to_come = toward_more (closes_from es a e.parent) p so_far.to_come (rw h closes_next) }

pub ruleset laws = (closing_none, closing_all, close_fits, closing_less, closing_more)
