-- What is made for TABLE, SELF and TEXT shows their pairs; the other operations read steps.
use Prim.Native.Nat.{ℕ, ◌<◌}
use mathlib.Core.Path.{◌≡◌, sym, ap, ◌∙◌, fun_ext}
use mathlib.Core.Bool.{true, not, ◌&&◌, cond}
use mathlib.Core.List.{List, []}
use native.Mathlib.Omega.{arith}
use lib.Bits.{bit_and}
use lib.Dec.{eqb}
use borrow.Author.Rules.{rules}
use borrow.Author.Tests.{eqb-true, eqb-false, lt-ltb, not-true}
use Rattle.meaning.specs.declared.Graph.{Graph}
use Rattle.meaning.specs.declared.Operation.{Operation}
use Rattle.meaning.specs.declared.Operation.TheVariants.{Table, Itself, Text}
use Rattle.meaning.specs.Limits.{kinds, types, document}
use Rattle.meaning.specs.Sets.{bit, mask}
use Rattle.meaning.specs.Inside.Diagonal.{diagonal}
use Rattle.meaning.specs.Relations.{Relation, nothing}
use Rattle.meaning.specs.Graphs.{LegalGraph, child_kind, live}
use Rattle.meaning.specs.Documents.{is_text}
use Rattle.meaning.specs.Announcements.{pairs}
use Rattle.meaning.proofs.Tests.{same, and_left, and_where, not_in}
use Rattle.meaning.proofs.Sets.{bit_mask, mask_below_lem}
use Rattle.meaning.proofs.KindSets.{live_small, edges_on}
use Rattle.meaning.proofs.Bits.{bit_and_lem, bits_of_mask}
use Rattle.meaning.proofs.Theorems.{text_0_announces_no_pairs}
use Rattle.kinds.proofs.KindMasks.{chosen_bits}
use Rattle.masks.specs.declared.Announced.{Announced}
use Rattle.masks.specs.Announcement.{rel_of}
use Rattle.masks.proofs.Announcement.{read_shown}
use Rattle.masks.proofs.Rows.{FromKinds}

-- the kinds but the document node's
no_document : (A : ℕ) → A < kinds → bit 0xFFFF A ≡ not (eqb A document)
unfolding mask
no_document A l =
    same (bit 0xFFFF A) (not (eqb A document))
    (λ h. not_in (eqb A document) (λ e. omega (arith, mask_below_lem types (λ K. true) A h, eqb-true A document e)))
    (λ h. bit_mask types (λ K. true) A (omega (arith, eqb-false A document (not-true (eqb A document) h))))

module _ (g : Graph) (legal : LegalGraph g) where
  -- the mask of the live kinds has them as its bits
  live_bits : (l : ℕ) → l ≡ mask kinds (live g) → bit l ≡ live g
  live_bits l e = rw e (bits_of_mask kinds (live g) (live_small g legal))

  pub live_kinds : (l : ℕ) → l ≡ mask kinds (live g) → (A : ℕ) → bit l A ≡ true → A < kinds
  live_kinds l e A h = live_small g legal A (rw (live_bits l e) at h)

  pub some_kinds : (l m : ℕ) → l ≡ mask kinds (live g) → (A : ℕ) → bit (bit_and l m) A ≡ true → A < kinds
  some_kinds l m e A h = live_kinds l e A (and_left (bit l A) (bit m A) (sym (bit_and_lem A l m) ∙ h))

  -- the children of a kind, if it is live, that are in the mask
  pub table_row : (i m l kids r : ℕ) → l ≡ mask kinds (live g) → kids ≡ mask kinds (child_kind g i) → r ≡ cond (bit l i) (bit_and kids m) 0
      → bit r ≡ pairs g [] (Table m) i
  unfolding pairs
  table_row i m l kids r e q h =
      fun_ext λ B. rw (h, chosen_bits (bit l i), live_bits l e, bit_and_lem B kids m, q, bits_of_mask kinds (child_kind g i) (λ B h. (edges_on g legal i B h).1))

  pub table_from : (m : ℕ) → FromKinds (pairs g [] (Table m))
  unfolding pairs
  table_from m = record { from = λ A B h. live_small g legal A (and_left (live g A) _ h) }

  -- what is made for an operation o, from the results ps so far, shows its pairs
  module _ (ps : List Relation) (o : Operation) (r : Announced) where
    pub itself_shown : (l : ℕ) → o ≡ Itself → l ≡ mask kinds (live g) → rel_of r ≡ diagonal (bit l) → rel_of r ≡ pairs g ps o
    unfolding pairs diagonal
    itself_shown l e q h = h ∙ rw (e, live_bits l q)

    pub text_none_shown : {c : ℕ} → o ≡ Text c → c ≡ 0 → rel_of r ≡ nothing → rel_of r ≡ pairs g ps o
    text_none_shown e z h = h ∙ rw (e, z) (fun_ext λ A. fun_ext λ B. sym (text_0_announces_no_pairs g ps A B))

    pub text_shown : (l : ℕ) {c : ℕ} → o ≡ Text c → (c ≡ 0 → ⊥) → l ≡ mask kinds (live g) → rel_of r ≡ diagonal (bit (bit_and l 0xFFFF)) → rel_of r ≡ pairs g ps o
    unfolding pairs diagonal is_text
    text_shown l {c} e some q h =
        h ∙ rw e (fun_ext λ A. fun_ext λ B. ap (λ t. eqb A B && t) (bit_and_lem A l 0xFFFF
        ∙ rw (live_bits l q, lt-ltb 0 c (omega arith)) (and_where (live g A) (λ k. no_document A (live_small g legal A k)))))

-- what the operations ask, and what they read
pub ruleset reading = (read_shown, live_kinds, some_kinds)

-- what those announce that read no step
pub ruleset showing = (itself_shown, text_none_shown, text_shown, rules)
