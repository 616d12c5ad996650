-- The laws of the functions that make announcements of announcements: which relation each row shows, and that it is one from kinds.
use Prim.Native.Nat.{ℕ, ◌+◌, ◌<◌}
use mathlib.Core.Path.{◌≡◌, refl, sym, ap, ◌∙◌, fun_ext}
use mathlib.Core.Bool.{true, false, ◌&&◌, ◌||◌, and_comm, and-true, and-false}
use native.Mathlib.Numerals.{add-one}
use native.Mathlib.Omega.{arith}
use lib.Bits.{bit_and, bit_or}
use lib.Dec.{eqb}
use lib.ListN.{length, get_or, replicate, get_or-replicate}
use borrow.Author.Tests.{eq-eqb, eqb-true}
use Rattle.std.proofs.lemmas.Bool.{true_from_ne_false}
use Rattle.meaning.specs.Limits.{kinds}
use Rattle.meaning.specs.Sets.{any, bit, mask}
use Rattle.meaning.specs.Inside.Diagonal.{diagonal}
use Rattle.meaning.specs.Relations.{Relation, nothing, unite, intersection, join, has, within, closure}
use Rattle.meaning.proofs.Tests.{never, fails, same, and_left, and_right, and_where, and_implied, or_out}
use Rattle.meaning.proofs.Sets.{any_in, any_out, any_cong, bit_mask, bit_none, mask_below_lem}
use Rattle.meaning.proofs.Bits.{below_bits, mask_bits, mask_cong, mask_none, bit_or_lem, bit_and_lem, bits_of_mask}
use Rattle.kinds.proofs.KindMasks.{image_upto, image_none, image_more}
use Rattle.masks.specs.declared.Announced.{Announced}
use Rattle.masks.specs.Announcement.{rel_of}
use Rattle.masks.specs.Inside.Pairs.{image_of}
use Rattle.masks.proofs.Rows.{FromKinds, pairs_from, from_same}

pub nothing_made : rel_of (record { pairs = replicate kinds 0 }) ≡ nothing
unfolding rel_of
nothing_made =
    from_same (pairs_from (record { pairs = replicate kinds 0 }) refl) (record { from = λ A B h. never h })
    (λ A B l. ap (λ (x : ℕ). bit x B) (get_or-replicate kinds A 0 0 l) ∙ bit_none B)

pub image_shown : (set : ℕ) (a : Announced) (found n : ℕ) → n ≡ kinds → bit found ≡ image_upto (λ K. get_or a.pairs K 0) set n → bit found ≡ image_of (rel_of a) (bit set)
unfolding image_upto image_of rel_of
image_shown set a found n l h = h ∙ rw l

module _ (a b : Announced) where
  -- the row of A, made of its rows in a and b
  module _ (A row : ℕ) where
    pub union_row : row ≡ bit_or (get_or a.pairs A 0) (get_or b.pairs A 0) → bit row ≡ unite (rel_of a) (rel_of b) A
    unfolding unite rel_of
    union_row e = fun_ext λ B. rw e (bit_or_lem B _ _)

    pub both_row : row ≡ bit_and (get_or a.pairs A 0) (get_or b.pairs A 0) → bit row ≡ intersection (rel_of a) (rel_of b) A
    unfolding intersection rel_of
    both_row e = fun_ext λ B. rw e (bit_and_lem B _ _)

    pub joined_row : bit row ≡ image_of (rel_of b) (bit (get_or a.pairs A 0)) → bit row ≡ join kinds (rel_of a) (rel_of b) A
    unfolding join image_of rel_of
    joined_row e = e

  module _ (k : length a.pairs ≡ kinds) where
    pub both_from : FromKinds (intersection (rel_of a) (rel_of b))
    unfolding intersection
    both_from = record { from = λ A B h. (pairs_from a k).from A B (and_left (rel_of a A B) _ h) }

    pub joined_from : FromKinds (join kinds (rel_of a) (rel_of b))
    unfolding join
    joined_from = record { from = λ A B h. any_out kinds _ (λ K _ e. (pairs_from a k).from A K (and_left (rel_of a A K) _ e)) h }

    pub union_from : length b.pairs ≡ kinds → FromKinds (unite (rel_of a) (rel_of b))
    unfolding unite
    union_from l = record { from = λ A B h. or_out (rel_of a A B) (rel_of b A B) ((pairs_from a k).from A B) ((pairs_from b l).from A B) h }

-- the set of one kind
single_bits : (A B single : ℕ) → A < kinds → single ≡ mask kinds (λ K. eqb K A) → bit single B ≡ eqb A B
single_bits A B single l e =
    rw (e, bits_of_mask kinds (λ K. eqb K A) (λ K h. omega (arith, eqb-true K A h)))
    (same (eqb B A) (eqb A B) (λ h. eq-eqb A B (sym (eqb-true B A h))) (λ h. eq-eqb B A (sym (eqb-true A B h))))

pub diagonal_row : (set A row single : ℕ) → A < kinds → single ≡ mask kinds (λ K. eqb K A) → row ≡ bit_and single set → bit row ≡ diagonal (bit set) A
unfolding diagonal
diagonal_row set A row single l e h =
    fun_ext λ B. rw (h, bit_and_lem B single set, single_bits A B single l e) (and_where (eqb A B) (λ q. ap (bit set) (sym (eqb-true A B q))))

pub diagonal_from : (set : ℕ) → ((A : ℕ) → bit set A ≡ true → A < kinds) → FromKinds (diagonal (bit set))
unfolding diagonal
diagonal_from set small = record { from = λ A B h. small A (and_right (eqb A B) _ h) }

-- whether a mask has some kind
every_kind : (x : ℕ) → bit_and x 0x1FFFF ≡ mask kinds (bit x)
unfolding mask
every_kind x =
    let bits : (B : ℕ) → bit (bit_and x 0x1FFFF) B ≡ bit x B && bit (mask kinds (λ K. true)) B = λ B. bit_and_lem B x 0x1FFFF in
    sym (mask_bits kinds _ (below_bits kinds _ (λ B h. mask_below_lem kinds (λ K. true) B (and_right (bit x B) _ (sym (bits B) ∙ h)))))
    ∙ mask_cong kinds _ _ (λ B l. bits B ∙ and_implied (bit x B) _ (λ h. bit_mask kinds (λ K. true) B l))

no_kind : (x : ℕ) → bit_and x 0x1FFFF ≡ 0 → any kinds (bit x) ≡ false
no_kind x e =
    let none : mask kinds (bit x) ≡ 0 = sym (every_kind x) ∙ e in
    fails _ (any_out kinds (bit x) (λ K l h. never (sym (bit_none K) ∙ ap (λ (m : ℕ). bit m K) (sym none) ∙ bit_mask kinds (bit x) K l ∙ h)))

some_kind : (x : ℕ) → (bit_and x 0x1FFFF ≡ 0 → ⊥) → any kinds (bit x) ≡ true
some_kind x n =
    true_from_ne_false _
    (λ e. n (every_kind x ∙ mask_cong kinds (bit x) (λ K. false) (λ K l. fails _ (λ h. never (sym e ∙ any_in kinds (bit x) K l h))) ∙ mask_none kinds))

module _ (a : Announced) (A row : ℕ) where
  pub has_none : bit_and (get_or a.pairs A 0) 0x1FFFF ≡ 0 → row ≡ 0 → bit row ≡ has kinds (rel_of a) A
  unfolding has rel_of
  has_none e h = fun_ext λ B. rw (h, bit_none B, no_kind _ e) (sym (and-false (eqb A B)))

  pub has_some : (bit_and (get_or a.pairs A 0) 0x1FFFF ≡ 0 → ⊥) → A < kinds → row ≡ mask kinds (λ K. eqb K A) → bit row ≡ has kinds (rel_of a) A
  unfolding has rel_of
  has_some n l e = fun_ext λ B. rw (some_kind _ n) (single_bits A B row l e ∙ sym (and-true (eqb A B)))

pub has_from : (a : Announced) → length a.pairs ≡ kinds → FromKinds (has kinds (rel_of a))
unfolding has
has_from a k = record { from = λ A B h. any_out kinds _ (λ K _ e. (pairs_from a k).from A K e) (and_right (eqb A B) _ h) }

module _ (a : Announced) where
  -- one to k pairs of a lead from kind to kind
  pub leads : ℕ → Relation
  leads k = within k kinds (rel_of a)

  pub closure_none : (r : Announced) → rel_of r ≡ nothing → rel_of r ≡ leads 0
  unfolding leads within
  closure_none r e = e

  pub closure_more : (r j u : Announced) (i : ℕ) → rel_of r ≡ leads i → rel_of j ≡ join kinds (rel_of r) (rel_of a) → rel_of u ≡ unite (rel_of a) (rel_of j) → rel_of u ≡ leads (i + 1)
  unfolding leads within unite join
  closure_more r j u i h e q =
      q ∙ rw (e, h, add-one i) (fun_ext λ A. fun_ext λ B. ap (λ t. rel_of a A B || t) (any_cong kinds _ _ (λ K k. and_comm (leads i A K) (rel_of a K B))))

  pub closure_all : (r : Announced) (i : ℕ) → i ≡ kinds → rel_of r ≡ leads i → rel_of r ≡ closure kinds (rel_of a)
  unfolding leads closure
  closure_all r i l h = h ∙ rw l

pub ruleset algebra = (nothing_made, image_none, image_more, image_shown, closure_none, closure_more, closure_all)
