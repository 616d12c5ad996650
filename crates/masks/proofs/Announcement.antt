-- Announcements as sets: which struct shows a relation, and what one operation more adds.
use Prim.Native.Nat.{ℕ, zero, suc, ◌-◌, ◌<◌}
use mathlib.Core.Path.{◌≡◌, refl, sym, ap, ◌∙◌, fun_ext}
use mathlib.Core.List.{List, [], ◌∷◌, ◌++◌, map, map-append}
use native.Mathlib.Nat.{zero-add}
use native.Mathlib.Omega.{arith}
use lib.ListN.{length, get_or, take, set, replicate, length-append, length-map, get_or-map}
use lib.Seq.{ext_get_or, get_or_at, set_at, take_at, append_snoc}
use Rattle.meaning.specs.declared.Graph.{Graph}
use Rattle.meaning.specs.declared.Operation.{Operation}
use Rattle.meaning.specs.Limits.{kinds, step_limit}
use Rattle.meaning.specs.Sets.{bit, mask}
use Rattle.meaning.specs.Relations.{Relation, nothing, at}
use Rattle.meaning.specs.Graphs.{LegalGraph}
use Rattle.meaning.specs.Operations.{results}
use Rattle.meaning.specs.Announcements.{pairs, announced}
use Rattle.meaning.proofs.Tests.{never}
use Rattle.meaning.proofs.Closure.{On}
use Rattle.meaning.proofs.KindSets.{live_small}
use Rattle.meaning.proofs.Results.{results_append, results_length}
use Rattle.meaning.proofs.Sound.{announced_live}
use Rattle.meaning.proofs.Bits.{same_bits, bits_of_mask}
use Rattle.meaning.proofs.Sets.{bit_none}
use Rattle.meaning.proofs.Lists.{table_length, table_at}
use Rattle.masks.specs.declared.Announced.{Announced}
use Rattle.masks.specs.Announcement.{announced_sets, announcement, rel_of}
use Rattle.masks.proofs.Rows.{pairs_from, from_same}

module _ (r : Relation) (on : On kinds r) where
  row_shown : (A : ℕ) → A < kinds → bit (get_or (announced_sets r).pairs A 0) ≡ r A
  unfolding announced_sets
  row_shown A l = rw (table_at (λ A. mask kinds (λ B. r A B)) 0 kinds A 0 l, zero-add A) (bits_of_mask kinds (r A) (λ B h. (on A B h).1))

  sets_long : length (announced_sets r).pairs ≡ kinds
  unfolding announced_sets
  sets_long = table_length _ 0 kinds

  pub sets_show : rel_of (announced_sets r) ≡ r
  unfolding rel_of
  sets_show = from_same (pairs_from (announced_sets r) sets_long) (record { from = λ A B h. (on A B h).0 }) (λ A B l. ap (λ f. f B) (row_shown A l))

  -- an announcement of these pairs, of 17 masks, is that one
  pub sets_made : (a : Announced) → length a.pairs ≡ kinds → rel_of a ≡ r → a ≡ announced_sets r
  unfolding rel_of
  sets_made a l e =
      ap (λ (xs : List ℕ). record { pairs = xs })
      (ext_get_or 0 a.pairs (announced_sets r).pairs (l ∙ sym sets_long) (λ A h. same_bits _ _ (ap (λ (s : Relation). s A) e ∙ sym (row_shown A (omega arith)))))

pub nothing_on : On kinds nothing
nothing_on A B h = never h

module _ (g : Graph) (legal : LegalGraph g) where
  announced_on : (os : List Operation) (s : ℕ) → On kinds (at (announced g os) s)
  announced_on os s A B h = let (a, b) = announced_live g legal os s A B h in (live_small g legal A a, live_small g legal B b)

-- what stands where there is no step
abbrev pub blank : Announced
blank = record { pairs = [] }

blank_shown : rel_of blank ≡ nothing
unfolding rel_of
blank_shown = fun_ext λ A. fun_ext bit_none

-- an announcement as it is read shows that relation of those that all show
pub read_shown : (made : List Announced) (s : ℕ) → at (map rel_of made) s ≡ rel_of (get_or made s blank)
read_shown made s = ap (get_or (map rel_of made) s) (sym blank_shown) ∙ get_or-map rel_of made s blank

-- the steps as sets show the steps as relations, past their end too
pub none_shown : (n s : ℕ) → rel_of (get_or (replicate n (announced_sets nothing)) s blank) ≡ nothing
none_shown zero s = blank_shown
none_shown (suc n) zero = sets_show nothing nothing_on
none_shown (suc n) (suc s) = none_shown n s

all_shown : (ps : List Relation) → ((s : ℕ) → On kinds (at ps s)) → (n s : ℕ) → rel_of (get_or (map announced_sets ps ++ replicate n (announced_sets nothing)) s blank) ≡ at ps s
all_shown [] on n s = none_shown n s
all_shown (p ∷ ps) on n zero = sets_show p (on 0)
all_shown (p ∷ ps) on n (suc s) = all_shown ps (λ s. on (suc s)) n s

-- the sets of relations show them
sets_all : (ps : List Relation) → ((s : ℕ) → On kinds (at ps s)) → map rel_of (map announced_sets ps) ≡ ps
sets_all [] on = refl
sets_all (p ∷ ps) on = rw (sets_show p (on 0), sets_all ps (λ s. on (suc s)))

pub announcement_shown : (g : Graph) → LegalGraph g → (os : List Operation) (s : ℕ) → rel_of (get_or (announcement g os) s blank) ≡ at (announced g os) s
unfolding announcement
announcement_shown g legal os = all_shown (announced g os) (announced_on g legal os) (step_limit - length os)

module _ (g : Graph) (legal : LegalGraph g) (os : List Operation) where
  announced_length : length (announced g os) ≡ length os
  unfolding announced
  announced_length = omega (arith, results_length (pairs g) [] os)

  -- the announcements of the steps so far show what is announced for them
  pub announced_shown : map rel_of (take (length os) (announcement g os)) ≡ announced g os
  unfolding announcement
  announced_shown =
      rw (take_at (map announced_sets (announced g os)) _ (length os) (length-map (announced g os) announced_sets ∙ announced_length))
      (sets_all (announced g os) (announced_on g legal os))

  module _ (o : Operation) where
    announced_more : announced g (os ++ (o ∷ [])) ≡ announced g os ++ (pairs g (announced g os) o ∷ [])
    unfolding announced results
    announced_more = results_append (pairs g) [] os (o ∷ [])

    announced_last : at (announced g (os ++ (o ∷ []))) (length os) ≡ pairs g (announced g os) o
    announced_last = rw announced_more (get_or_at (announced g os) _ [] nothing (length os) announced_length)

    more_on : On kinds (pairs g (announced g os) o)
    more_on = rw announced_last at (announced_on g legal (os ++ (o ∷ [])) (length os))

    -- the announcement of one operation more, put in its place
    pub announcement_more : (a : Announced) → length os < step_limit → length a.pairs ≡ kinds → rel_of a ≡ pairs g (announced g os) o
        → set (announcement g os) (length os) a ≡ announcement g (os ++ (o ∷ []))
    unfolding announcement
    announcement_more a l k e =
        let ps : List Relation = announced g os in
        let n : ℕ = step_limit - length (os ++ (o ∷ [])) in
        let room : step_limit - length os ≡ suc n = omega (arith, length-append os (o ∷ [])) in
        let made : a ≡ announced_sets (pairs g ps o) = sets_made _ more_on a k e in
        rw (room, announced_more, map-append announced_sets ps)
        (set_at (map announced_sets ps) _ _ a (length os) (length-map ps announced_sets ∙ announced_length)
        ∙ rw made (sym (append_snoc (map announced_sets ps) _ _)))
