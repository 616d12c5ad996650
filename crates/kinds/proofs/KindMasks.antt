-- Sets of kinds as masks: the laws of each return, and of each turn of the two loops.
use Prim.Native.Nat.{ℕ, ◌+◌, ◌*◌, ◌%◌, ◌^◌, ◌<◌, ◌≤◌}
use mathlib.Core.Path.{◌≡◌, refl, sym, ap, ◌∙◌, fun_ext}
use mathlib.Core.Bool.{Bool, true, false, ◌&&◌, ◌||◌, cond, or_assoc, or_comm}
use native.Mathlib.Nat.{mod-eq_of_lt, lt_of_not-le}
use native.Mathlib.Numerals.{add-one}
use native.Mathlib.Omega.{arith}
use lib.Bits.{bit_or}
use lib.Dec.{eqb}
use lib.ListN.{length, get_or}
use lib.Pow.{pow-lt}
use mir.Syntax.{w16}
use mir.Val.{Fits}
use borrow.Author.Tests.{eq-eqb, ne_eqb, eqb-true}
use Rattle.meaning.specs.declared.Graph.{Graph}
use Rattle.meaning.specs.Limits.{types, document, kinds}
use Rattle.meaning.specs.Sets.{any, bit, mask}
use Rattle.meaning.specs.Relations.{Relation, OneOrMore, one, more, within, closure}
use Rattle.meaning.specs.Graphs.{child_kind, reachable, live}
use Rattle.meaning.specs.Translation.{image}
use Rattle.meaning.proofs.Tests.{never, fails, same, and_in, and_left, and_right, or_left, or_right, or_out}
use Rattle.meaning.proofs.Sets.{any_in, any_out, any_cong, bit_mask, bit_none, mask_below_lem}
use Rattle.meaning.proofs.Closure.{closure_sound}
use Rattle.meaning.proofs.KindSets.{image_in, image_out}
use Rattle.kinds.proofs.Edges.{edge_of_document, edge_of_type, no_such_type}
use Rattle.meaning.proofs.Bits.{bit_or_lem, below_bits, mask_cong, mask_none, mask_bits, mask_single, mask_or}

pub single_none : (kind : ℕ) → kinds ≤ kind → 0 ≡ mask kinds (λ A. eqb A kind)
single_none kind l = sym (mask_cong kinds _ (λ A. false) (λ A a. ne_eqb A kind (λ e. omega arith)) ∙ mask_none kinds)

pub single_one : (kind : ℕ) → kind < kinds → 1 * 2 ^ kind % 2 ^ 32 ≡ mask kinds (λ A. eqb A kind)
single_one kind l =
    let small : 2 ^ kind < 2 ^ 32 = pow-lt {j = 32} (omega arith) in
    mod-eq_of_lt (omega arith) ∙ omega (arith, mask_single kinds kind l)

module _ (g : Graph) (kind : ℕ) where
  pub document_children : {p r : ℕ} → kind ≡ document → p ≡ g.root → r ≡ mask kinds (λ A. eqb A p) → r ≡ mask kinds (child_kind g kind)
  document_children e i q = q ∙ simp i (mask_cong kinds _ _ (λ B b. edge_of_document g kind B e))

  pub type_children : {m : ℕ} → (kind ≡ document → ⊥) → Fits w16 (get_or g.children kind 0) → m ≡ get_or g.children kind 0 → m ≡ mask kinds (child_kind g kind)
  type_children n f e =
      e ∙ sym (mask_bits kinds _ (omega (arith, f.fits))) ∙ mask_cong kinds _ _ (λ B b. edge_of_type g kind B n refl refl)

pub chosen_bits : (t : Bool) (row B : ℕ) → bit (cond t row 0) B ≡ t && bit row B
chosen_bits true row B = refl
chosen_bits false row B = bit_none B

module _ (n : ℕ) (f g : ℕ → Bool) where
  both_in : (u : ℕ) → u < n → f u ≡ true → g u ≡ true → any n (λ u. f u && g u) ≡ true
  both_in u l p q = any_in n (λ u. f u && g u) u l (and_in p q)

  both_out : {P : Type 0} → ((u : ℕ) → u < n → f u ≡ true → g u ≡ true → P) → any n (λ u. f u && g u) ≡ true → P
  both_out k = any_out n (λ u. f u && g u) (λ u l h. k u l (and_left (f u) (g u) h) (and_right (f u) (g u) h))

module _ (rows : ℕ → ℕ) (set : ℕ) where
  -- what the rows of the kinds below n have that are in the set
  unfoldable pub image_upto : ℕ → ℕ → Bool
  image_upto n B = any n (λ A. bit set A && bit (rows A) B)

  pub image_none : bit 0 ≡ image_upto 0
  unfolding image_upto any
  image_none = fun_ext bit_none

  pub image_more : (n found row next : ℕ) → bit found ≡ image_upto n → row ≡ rows n → next ≡ cond (bit set n) row 0
      → bit (bit_or found next) ≡ image_upto (n + 1)
  unfolding image_upto any
  image_more n found row next h q e =
      fun_ext λ B. bit_or_lem B found next ∙ or_comm (bit found B) (bit next B) ∙ simp (e, q, ap (λ f. f B) h, add-one, chosen_bits (bit set n) (rows n) B)

pub image_all : (r : Relation) (c n found : ℕ) → n ≡ kinds → bit found ≡ image_upto (λ A. mask kinds (r A)) c n → found ≡ image r c
unfolding image_upto image
image_all r c n found l h =
    let done : (B : ℕ) → bit found B ≡ any kinds (λ A. bit c A && bit (mask kinds (r A)) B) = λ B. ap (λ f. f B) h ∙ rw l in
    sym (mask_bits kinds found (below_bits kinds found (λ B h. any_out kinds _ (λ A a e. mask_below_lem kinds (r A) B (and_right (bit c A) _ e)) (sym (done B) ∙ h))))
    ∙ mask_cong kinds _ _ (λ B b. done B ∙ any_cong kinds _ _ (λ A a. ap (λ t. bit c A && t) (bit_mask kinds (r A) B b)))

module _ (r : Relation) (c : ℕ) where
  -- the kinds that one to k steps lead to
  pub rounds : ℕ → ℕ
  rounds k = image (within k kinds r) c

  pub rounds_none : 0 ≡ rounds 0
  unfolding rounds image within
  rounds_none =
      sym (mask_cong kinds _ (λ B. false) (λ B b. fails _ (any_out kinds _ (λ A a h. never (and_right (bit c A) false h)))) ∙ mask_none kinds)

  module _ (k B : ℕ) where
    -- the kinds of c, and those that one to k steps lead to
    abbrev reached : ℕ
    reached = bit_or c (rounds k)

    -- one step, or one more than k at most, lead from A to B
    abbrev more_rounds : ℕ → Bool
    more_rounds A = r A B || any kinds (λ u. r u B && within k kinds r A u)

    one_more : any kinds (λ A. bit reached A && r A B) ≡ any kinds (λ A. bit c A && more_rounds A)
    unfolding rounds
    one_more =
        same _ _
        (both_out kinds (bit reached) (λ A. r A B) (λ A a p e. or_out (bit c A) (bit (rounds k) A)
        (λ q. both_in kinds (bit c) more_rounds A a q (or_left (r A B) _ e))
        (image_out (within k kinds r) c A (λ v l q w.
        both_in kinds (bit c) more_rounds v l q (or_right (r v B) _ (both_in kinds (λ u. r u B) (within k kinds r v) A a e w))))
        (sym (bit_or_lem A c (rounds k)) ∙ p)))
        (both_out kinds (bit c) more_rounds (λ A a p. or_out (r A B) _ (last A a (or_left (bit c A) _ p))
        (both_out kinds (λ u. r u B) (within k kinds r A) (λ u l e w. last u l (or_right (bit c u) _ (image_in (within k kinds r) c A u a l p w)) e))))
      where
        last : (u : ℕ) → u < kinds → bit c u || bit (rounds k) u ≡ true → r u B ≡ true → any kinds (λ A. bit reached A && r A B) ≡ true
        last u l h = both_in kinds (bit reached) (λ A. r A B) u l (bit_or_lem u c (rounds k) ∙ h)

  pub rounds_more : (k reached next : ℕ) → reached ≡ rounds k → next ≡ image r (bit_or c reached) → next ≡ rounds (k + 1)
  unfolding rounds image within
  rounds_more k reached next h e = e ∙ simp (h, add-one) (mask_cong kinds _ _ (λ B b. one_more k B))

pub rounds_all : (g : Graph) (c : ℕ) {reached : ℕ} → reached ≡ rounds (child_kind g) c kinds → reached ≡ image (reachable g) c
unfolding rounds reachable closure
rounds_all g c h = h

-- steps begin with one step
begins : {P : Type 0} {r : Relation} {v w : ℕ} → ((u : ℕ) → r v u ≡ true → P) → OneOrMore r v w → P
begins f (one {w} e) = f w e
begins f (more p e) = begins f p

module _ (g : Graph) (long : length g.children ≡ types) where
  from_kind : (A B : ℕ) → reachable g A B ≡ true → A < kinds
  unfolding reachable
  from_kind A B h =
      lt_of_not-le (λ l. begins (λ u e. never (no_such_type g A u (λ d. omega arith) (omega arith) long ∙ e)) (closure_sound kinds (child_kind g) h))

  -- what is reachable from one kind
  image_single : (v : ℕ) → image (reachable g) (mask kinds (λ A. eqb A v)) ≡ mask kinds (reachable g v)
  unfolding image
  image_single v =
      let only : ℕ → Bool = λ A. eqb A v in
      mask_cong kinds _ (reachable g v) λ B b.
      same _ _
      (both_out kinds (bit (mask kinds only)) (λ A. reachable g A B) (λ A a p e. rw (eqb-true A v (sym (bit_mask kinds only A a) ∙ p)) at e))
      (λ e.
      let l = from_kind v B e in
      both_in kinds (bit (mask kinds only)) (λ A. reachable g A B) v l (bit_mask kinds only v l ∙ eq-eqb v v refl) e)

  pub live_all : {p root reached top : ℕ} → p ≡ g.root → root ≡ mask kinds (λ A. eqb A p) → reached ≡ image (reachable g) root → top ≡ mask kinds (λ A. eqb A document)
      → bit_or (bit_or top root) reached ≡ mask kinds (live g)
  unfolding live
  live_all i p q e = rw (e, q, p, i, image_single g.root, mask_or kinds, mask_or kinds) (mask_cong kinds _ _ (λ A a. or_assoc (eqb A document) _ _))

pub ruleset laws = (single_one, document_children, type_children, image_none, image_more, rounds_none, rounds_more, rounds_all)
