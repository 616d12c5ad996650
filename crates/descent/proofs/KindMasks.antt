-- Sets of kinds: how large their masks are, and what the operations on masks say of them.
use Prim.Native.Nat.{ℕ, ◌*◌, ◌%◌, ◌^◌, ◌<◌}
use mathlib.Core.Path.{◌≡◌, sym, ap, ap₂, ◌∙◌}
use mathlib.Core.Bool.{Bool, true, ◌&&◌}
use native.Mathlib.Nat.{mod-eq_of_lt}
use native.Mathlib.Omega.{arith}
use lib.Bits.{bit_and, bit_or, and_lt}
use lib.Dec.{eqb}
use lib.Pow.{pow-lt}
use Rattle.meaning.specs.declared.Graph.{Graph}
use Rattle.meaning.specs.Limits.{types, kinds, words}
use Rattle.meaning.specs.Sets.{bit, mask}
use Rattle.meaning.specs.Relations.{Relation}
use Rattle.meaning.specs.Graphs.{LegalGraph, child_kind, reachable}
use Rattle.meaning.specs.Queries.{XPath, self, child, any_child, slash, slashes, union, filter}
use Rattle.meaning.specs.Translation.{image, only, together, or_reachable, out}
use Rattle.meaning.proofs.Sets.{bit_mask, mask_below_lem}
use Rattle.meaning.proofs.Bits.{below_bits, mask_bits, mask_single, mask_or, mask_cong, bit_and_lem}
use Rattle.meaning.proofs.KindSets.{only_out, child_types, reachable_types}

mask_small : (f : ℕ → Bool) → mask kinds f < 2 ^ kinds
mask_small f = below_bits kinds (mask kinds f) (mask_below_lem kinds f)

pub image_small : (r : Relation) (C : ℕ) → image r C < 2 ^ kinds
unfolding image
image_small r C = mask_small _

pub or_reachable_small : (g : Graph) (C : ℕ) → or_reachable g C < 2 ^ kinds
unfolding or_reachable together
or_reachable_small g C = mask_small _

pub out_small : (g : Graph) (C : ℕ) → C < 2 ^ kinds → (p : XPath) → out g C p < 2 ^ kinds
unfolding out or_reachable together only image
out_small g C l self = l
out_small g C l (child t) = mask_small _
out_small g C l any_child = mask_small _
out_small g C l (slash p q) = out_small g (out g C p) (out_small g C l p) q
out_small g C l (slashes p q) = out_small g (or_reachable g (out g C p)) (mask_small _) q
out_small g C l (union p q) = mask_small _
out_small g C l (filter p q) = out_small g C l p

module _ (g : Graph) (legal : LegalGraph g) where
  types_words : (C : ℕ) → ((t : ℕ) → bit C t ≡ true → t < g.k) → C < words
  types_words C f = below_bits types C (λ t h. omega (arith, f t h, legal.most_types))

  pub children_words : (C : ℕ) → image (child_kind g) C < words
  children_words C = types_words _ (child_types g legal C)

  pub reachable_words : (C : ℕ) → image (reachable g) C < words
  reachable_words C = types_words _ (reachable_types g legal C)

  pub only_words : (t C : ℕ) → only t (image (child_kind g) C) < words
  only_words t C = types_words _ (λ u h. child_types g legal C u (only_out t _ u h))

pub together_or : (C D : ℕ) → C < 2 ^ kinds → D < 2 ^ kinds → bit_or C D ≡ together C D
unfolding together
together_or C D c d = sym (ap₂ bit_or (mask_bits kinds C c) (mask_bits kinds D d)) ∙ mask_or kinds (bit C) (bit D)

pub below_or : (g : Graph) (C : ℕ) → C < 2 ^ kinds → bit_or C (image (reachable g) C) ≡ or_reachable g C
unfolding or_reachable
below_or g C c = together_or C (image (reachable g) C) c (image_small (reachable g) C)

pub only_and : (t C : ℕ) → t < types → C < 2 ^ kinds → bit_and (1 * 2 ^ t % 2 ^ 32) C ≡ only t C
unfolding only
only_and t C l c =
    let small : 2 ^ t < 2 ^ 32 = pow-lt {j = 32} (omega arith) in
    let single : 1 * 2 ^ t % 2 ^ 32 ≡ mask kinds (λ A. eqb A t) = mod-eq_of_lt (omega arith) ∙ omega (arith, mask_single kinds t (omega arith)) in
    rw single
    (sym (mask_bits kinds _ (and_lt kinds (mask kinds (λ A. eqb A t)) C (mask_small _) c))
    ∙ mask_cong kinds _ _ (λ A a. bit_and_lem A _ C ∙ ap (λ b. b && bit C A) (bit_mask kinds (λ A. eqb A t) A a)))
