-- Kinds: what a legal graph's kinds are, which masks hold what, and the kinds of nodes.
use Prim.Native.Nat.{ℕ, ◌<◌}
use mathlib.Core.Path.{◌≡◌, refl, sym, ◌∙◌, subst}
use mathlib.Core.Bool.{Bool, true, false, ◌&&◌, ◌||◌, cond}
use native.Mathlib.Omega.{arith}
use lib.Dec.{eqb}
use lib.ListN.{get_or}
use borrow.Author.Tests.{eqb-true}
use Rattle.meaning.specs.declared.Graph.{Graph}
use Rattle.meaning.specs.Limits.{document, kinds}
use Rattle.meaning.specs.Sets.{any, bit}
use Rattle.meaning.specs.Relations.{Relation, OneOrMore, one, more}
use Rattle.meaning.specs.Graphs.{LegalGraph, child_kind, reachable, live}
use Rattle.meaning.specs.Translation.{image, only, together}
use Rattle.meaning.proofs.Tests.{and_in, and_left, and_right, or_left, or_right, or_out}
use Rattle.meaning.proofs.Sets.{any_in, any_out, bit_mask, mask_below_lem}
use Rattle.meaning.proofs.Ends.{closure_ends}
use Rattle.meaning.proofs.Closure.{On, closure_sound, closure_complete}

module _ (C D : ℕ) where
  pub together_bit : (K : ℕ) → K < kinds → bit (together C D) K ≡ bit C K || bit D K
  unfolding together
  together_bit K l = bit_mask kinds (λ A. bit C A || bit D A) K l

pub only_bit : (t C K : ℕ) → K < kinds → bit (only t C) K ≡ eqb K t && bit C K
unfolding only
only_bit t C K l = bit_mask kinds (λ A. eqb A t && bit C A) K l

pub only_out : (t C K : ℕ) → bit (only t C) K ≡ true → bit C K ≡ true
unfolding only
only_out t C K h = and_right (eqb K t) (bit C K) (sym (only_bit t C K (mask_below_lem kinds _ K h)) ∙ h)

module _ (r : Relation) (C : ℕ) where
  pub image_in : (A B : ℕ) → A < kinds → B < kinds → bit C A ≡ true → r A B ≡ true → bit (image r C) B ≡ true
  unfolding image
  image_in A B a b c h = bit_mask kinds _ B b ∙ any_in kinds (λ A. bit C A && r A B) A a (and_in c h)

  pub image_out : {P : Type 0} (B : ℕ) → ((A : ℕ) → A < kinds → bit C A ≡ true → r A B ≡ true → P) → bit (image r C) B ≡ true → P
  unfolding image
  image_out B k h =
      any_out kinds (λ A. bit C A && r A B)
      (λ A a e. k A a (and_left (bit C A) (r A B) e) (and_right (bit C A) (r A B) e))
      (sym (bit_mask kinds (λ B. any kinds (λ A. bit C A && r A B)) B (mask_below_lem kinds _ B h)) ∙ h)

module _ (g : Graph) (legal : LegalGraph g) where
  root_kind_small : g.root < kinds
  root_kind_small = omega (arith, legal.root_type, legal.most_types)

  -- an edge leads from a kind to a type
  pub edge_types : (A B : ℕ) → child_kind g A B ≡ true → (A < kinds) × (B < g.k)
  unfolding child_kind
  edge_types A B h = go (eqb A document) refl h
    where
      go : (t : Bool) → eqb A document ≡ t → cond t (eqb B g.root) (bit (get_or g.children A 0) B) ≡ true → (A < kinds) × (B < g.k)
      go true e h = (omega (arith, eqb-true A document e), omega (arith, legal.root_type, eqb-true B g.root h))
      go false e h = (omega (arith, (legal.edges A B h).0, legal.most_types), (legal.edges A B h).1)

  pub edges_on : On kinds (child_kind g)
  edges_on A B h = let e : (A < kinds) × (B < g.k) = edge_types A B h in (e.0, omega (arith, legal.most_types))

  pub reachable_in : {A B : ℕ} → OneOrMore (child_kind g) A B → reachable g A B ≡ true
  unfolding reachable
  reachable_in s = closure_complete kinds (child_kind g) edges_on s

  pub reachable_out : {A B : ℕ} → reachable g A B ≡ true → OneOrMore (child_kind g) A B
  unfolding reachable
  reachable_out h = closure_sound kinds (child_kind g) h

  -- one edge, or more, lead from any kinds to types only
  pub child_types : (C B : ℕ) → bit (image (child_kind g) C) B ≡ true → B < g.k
  child_types C B = image_out (child_kind g) C B (λ A a c h. (edge_types A B h).1)

  pub reachable_types : (C B : ℕ) → bit (image (reachable g) C) B ≡ true → B < g.k
  reachable_types C B = image_out (reachable g) C B (λ A a c h. end_type (reachable_out h))
    where
      end_type : {A B : ℕ} → OneOrMore (child_kind g) A B → B < g.k
      end_type {A} {B} (one h) = (edge_types A B h).1
      end_type {B} (more {u} s h) = (edge_types u B h).1

  -- a child kind of a live kind is live
  pub live_child : (A B : ℕ) → live g A ≡ true → child_kind g A B ≡ true → live g B ≡ true
  unfolding live child_kind
  live_child A B l h =
      or_right (eqb B document) _
      (or_out (eqb A document) _
      (λ e. or_left _ _ (subst (λ (t : Bool). cond t (eqb B g.root) (bit (get_or g.children A 0) B) ≡ true) e h))
      (λ m. or_right (eqb B g.root) _ (reachable_in
      (or_out (eqb A g.root) (reachable g g.root A)
      (λ e. one (rw (eqb-true A g.root e) at h)) (λ q. more (reachable_out q) h) m)))
      l)

  pub live_small : (A : ℕ) → live g A ≡ true → A < kinds
  unfolding live reachable
  live_small A h =
      or_out (eqb A document) _ (λ e. omega (arith, eqb-true A document e))
      (or_out (eqb A g.root) _ (λ e. omega (arith, eqb-true A g.root e, root_kind_small))
      (λ e. (closure_ends (λ B. B < kinds) kinds (child_kind g) edges_on g.root A e).1)) h
