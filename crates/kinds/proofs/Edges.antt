-- One law for each answer of the test for an edge.
use Prim.Native.Nat.{ℕ, ◌≤◌}
use mathlib.Core.Path.{◌≡◌, sym, ◌∙◌}
use mathlib.Core.Bool.{Bool, false}
use native.Mathlib.Omega.{arith}
use lib.Dec.{eqb}
use lib.ListN.{length, get_or, get_or-eq_default}
use mir.Syntax.{w16}
use mir.Val.{Fits}
use borrow.Author.Rules.{rules}
use borrow.Author.Tests.{eq-eqb, ne_eqb}
use Rattle.meaning.specs.declared.Graph.{Graph}
use Rattle.meaning.specs.Limits.{types, document}
use Rattle.meaning.specs.Sets.{bit}
use Rattle.meaning.specs.Graphs.{child_kind}
use Rattle.meaning.proofs.Tests.{fails}
use Rattle.meaning.proofs.Bits.{bits_below}
use Rattle.meaning.proofs.Sets.{bit_none}

module _ (g : Graph) (a b : ℕ) where
  pub edge_of_document : a ≡ document → eqb b g.root ≡ child_kind g a b
  unfolding child_kind
  edge_of_document e = simp (eq-eqb _ _ e)

  module _ (n : a ≡ document → ⊥) where
    no_document : eqb a document ≡ false
    no_document = ne_eqb _ _ n

    pub no_such_type : types ≤ a → length g.children ≡ types → false ≡ child_kind g a b
    unfolding child_kind
    no_such_type l e =
        let past : get_or g.children a 0 ≡ 0 = get_or-eq_default g.children 0 (omega arith) in
        simp (no_document, past) (sym (bit_none b))

    pub no_such_child : types ≤ b → Fits w16 (get_or g.children a 0) → false ≡ child_kind g a b
    unfolding child_kind
    no_such_child l f = simp no_document (sym (fails (bit (get_or g.children a 0) b) (λ h. omega (arith, bits_below types _ f.fits b h))))

    pub edge_of_type : {m : ℕ} {r : Bool} → m ≡ get_or g.children a 0 → r ≡ bit m b → r ≡ child_kind g a b
    unfolding child_kind
    edge_of_type e t = simp no_document (t ∙ rw e)

pub ruleset laws = (edge_of_document, no_such_type, no_such_child, edge_of_type, rules)
