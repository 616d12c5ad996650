-- The kinds of a document's nodes: they are live, and those that a path reaches are among its kinds out.
use Prim.Native.Nat.{ℕ, zero, suc, ◌<◌}
use mathlib.Core.Path.{◌≡◌, ◌∙◌}
use mathlib.Core.Bool.{Bool, true, ◌&&◌}
use native.Mathlib.Nat.{not-suc-le-zero}
use native.Mathlib.Omega.{arith}
use lib.Dec.{eqb}
use borrow.Author.Tests.{eqb-true, eq-eqb, lt-ltb}
use Rattle.meaning.specs.declared.Graph.{Graph}
use Rattle.meaning.specs.Limits.{document, kinds}
use Rattle.meaning.specs.Sets.{bit}
use Rattle.meaning.specs.Graphs.{LegalGraph, child_kind, reachable, live}
use Rattle.meaning.specs.Documents.{View, some, is_element, is_parent, below}
use Rattle.meaning.specs.Queries.{XPath, self, child, any_child, slash, slashes, union, filter, or_below, reaches, holds}
use Rattle.meaning.specs.Translation.{image, or_reachable, out}
use Rattle.meaning.proofs.Tests.{and_in, and_left, and_right, or_left, or_right, or_out}
use Rattle.meaning.proofs.Sets.{any_in, any_out}
use Rattle.meaning.proofs.Closure.{steps_map}
use Rattle.meaning.proofs.Views.{Lawful, parent_element, parent_is, element_there, below_there, below_steps}
use Rattle.meaning.proofs.KindSets.{together_bit, only_bit, image_in, edge_types, reachable_in, live_child}

-- a node is the document node or an element
pub node_cases : (P : ℕ → Type 0) (d : View) (v : ℕ) → d.there v ≡ true → P 0 → (is_element d v ≡ true → P v) → P v
unfolding is_element
node_cases P d zero h at-root at-element = at-root
node_cases P d (suc i) h at-root at-element = at-element (and_in h (lt-ltb 0 (suc i) (omega arith)))

pub some_in : (d : View) (f : ℕ → Bool) (u : ℕ) → u < d.size → d.there u ≡ true → f u ≡ true → some d f ≡ true
unfolding some
some_in d f u l t h = any_in d.size (λ u. d.there u && f u) u l (and_in t h)

pub some_out : {P : Type 0} (d : View) (f : ℕ → Bool) → ((u : ℕ) → d.there u ≡ true → f u ≡ true → P) → some d f ≡ true → P
unfolding some
some_out d f k h =
    any_out d.size (λ u. d.there u && f u) (λ u l e. k u (and_left (d.there u) (f u) e) (and_right (d.there u) (f u) e)) h

module _ (g : Graph) (legal : LegalGraph g) (d : View) (keeps : Lawful g d) where
  pub edge_below : (v w : ℕ) → is_parent d v w ≡ true → child_kind g (d.kind v) (d.kind w) ≡ true
  edge_below v w h = rw (← parent_is d v w h) (keeps.edge w (parent_element d v w h))

  pub kind_small : (v : ℕ) → d.there v ≡ true → d.kind v < kinds
  kind_small v h =
      node_cases (λ v. d.kind v < kinds) d v h (omega (arith, keeps.root_kind))
      (λ e. omega (arith, edge_types g legal _ (d.kind v) (keeps.edge v e), legal.most_types))

  live_before : (n v : ℕ) → v < n → d.there v ≡ true → live g (d.kind v) ≡ true
  unfolding live
  live_before zero v l h = absurd (not-suc-le-zero l)
  live_before (suc n) v l h =
      node_cases (λ v. live g (d.kind v) ≡ true) d v h (or_left _ _ (eq-eqb (d.kind 0) document keeps.root_kind))
      (λ e. live_child g legal (d.kind (d.parent v)) (d.kind v)
      (live_before n (d.parent v) (omega (arith, keeps.parent_less v e)) (keeps.parent_there v e)) (keeps.edge v e))

  -- every node's kind is live
  pub kinds_live : (v : ℕ) → d.there v ≡ true → live g (d.kind v) ≡ true
  kinds_live v h = live_before (suc v) v (omega arith) h

  pub child_kinds : (C v w : ℕ) → d.there v ≡ true → bit C (d.kind v) ≡ true → is_parent d v w ≡ true → bit (image (child_kind g) C) (d.kind w) ≡ true
  child_kinds C v w t c h =
      image_in (child_kind g) C (d.kind v) (d.kind w) (kind_small v t)
      (kind_small w (element_there d w (parent_element d v w h))) c (edge_below v w h)

  pub below_kinds : (C v w : ℕ) → d.there v ≡ true → bit C (d.kind v) ≡ true → below d v w ≡ true → bit (image (reachable g) C) (d.kind w) ≡ true
  below_kinds C v w t c h =
      image_in (reachable g) C (d.kind v) (d.kind w) (kind_small v t) (kind_small w (below_there d v w h)) c
      (reachable_in g legal (steps_map (is_parent d) (child_kind g) d.kind edge_below (below_steps g d keeps h)))

  pub deep_kinds : (C v w : ℕ) → d.there v ≡ true → d.there w ≡ true → bit C (d.kind v) ≡ true → or_below d v w ≡ true → bit (or_reachable g C) (d.kind w) ≡ true
  unfolding or_below or_reachable
  deep_kinds C v w t u c h =
      together_bit C (image (reachable g) C) (d.kind w) (kind_small w u)
      ∙ or_out (eqb v w) (below d v w)
      (λ e. or_left (bit C (d.kind w)) _ (rw (← eqb-true v w e) c))
      (λ b. or_right (bit C (d.kind w)) _ (below_kinds C v w t c b)) h

  -- from a node of the kinds C, a path reaches nodes of its kinds out under C
  pub out_kinds : (p : XPath) (C v w : ℕ) → d.there v ≡ true → d.there w ≡ true → bit C (d.kind v) ≡ true → reaches p d v w ≡ true → bit (out g C p) (d.kind w) ≡ true
  unfolding reaches out
  out_kinds self C v w t u c h = rw (← eqb-true v w h) c
  out_kinds (child k) C v w t u c h =
      only_bit k (image (child_kind g) C) (d.kind w) (kind_small w u)
      ∙ and_in (and_right (is_parent d v w) (eqb (d.kind w) k) h) (child_kinds C v w t c (and_left (is_parent d v w) _ h))
  out_kinds any_child C v w t u c h = child_kinds C v w t c h
  out_kinds (slash p q) C v w t u c h =
      some_out d (λ x. reaches p d v x && reaches q d x w)
      (λ x s e. out_kinds q (out g C p) x w s u
      (out_kinds p C v x t s c (and_left (reaches p d v x) (reaches q d x w) e)) (and_right (reaches p d v x) (reaches q d x w) e)) h
  out_kinds (slashes p q) C v w t u c h =
      some_out d (λ x. reaches p d v x && some d (λ y. or_below d x y && reaches q d y w))
      (λ x s e. some_out d (λ y. or_below d x y && reaches q d y w)
      (λ y r f. out_kinds q (or_reachable g (out g C p)) y w r u
      (deep_kinds (out g C p) x y s r
      (out_kinds p C v x t s c (and_left (reaches p d v x) _ e))
      (and_left (or_below d x y) (reaches q d y w) f))
      (and_right (or_below d x y) (reaches q d y w) f)) (and_right (reaches p d v x) _ e)) h
  out_kinds (union p q) C v w t u c h =
      together_bit (out g C p) (out g C q) (d.kind w) (kind_small w u)
      ∙ or_out (reaches p d v w) (reaches q d v w)
      (λ e. or_left _ _ (out_kinds p C v w t u c e))
      (λ e. or_right (bit (out g C p) (d.kind w)) _ (out_kinds q C v w t u c e)) h
  out_kinds (filter p q) C v w t u c h = out_kinds p C v w t u c (and_left (reaches p d v w) (holds q d w) h)
