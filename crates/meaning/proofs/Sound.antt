-- Announcements are sound: every row of every step of every program joins a pair announced for that step.
use Prim.Native.Nat.{ℕ}
use mathlib.Core.Path.{◌≡◌, sym, ap, ◌∙◌}
use mathlib.Core.Bool.{Bool, true, false, not, ◌&&◌}
use mathlib.Core.List.{List, []}
use native.Mathlib.Omega.{arith}
use lib.Dec.{eqb}
use borrow.Author.Tests.{eqb-true, eq-eqb}
use Rattle.meaning.specs.declared.Graph.{Graph}
use Rattle.meaning.specs.declared.Operation.{Operation}
use Rattle.meaning.specs.declared.Operation.TheVariants.{Table, Itself, Text, Join, Union, Closure, Has, Diff, Both}
use Rattle.meaning.specs.Limits.{document, kinds}
use Rattle.meaning.specs.Sets.{any, bit}
use Rattle.meaning.specs.Relations.{Relation, join, unite, has, difference, intersection, closure, at}
use Rattle.meaning.specs.Graphs.{LegalGraph, child_kind, live}
use Rattle.meaning.specs.Documents.{View, is_element, is_parent, is_text, text_test}
use Rattle.meaning.specs.Operations.{last, rows, run, answer}
use Rattle.meaning.specs.Announcements.{pairs, announced}
use Rattle.meaning.proofs.Tests.{never, and_in, and_left, and_right, or_left, or_right, or_out, not_in}
use Rattle.meaning.proofs.Sets.{any_in, any_out, listed_none}
use Rattle.meaning.proofs.Closure.{closure_sound, closure_complete, steps_map}
use Rattle.meaning.proofs.Ends.{Ends, diagonal_ends, join_ends, unite_ends, has_ends, intersection_ends, closure_ends}
use Rattle.meaning.proofs.Results.{results_agree}
use Rattle.meaning.proofs.Views.{Lawful, element_there, parent_element, parent_is, test_element, test_text}
use Rattle.meaning.proofs.KindSets.{edge_types, live_child, live_small}
use Rattle.meaning.proofs.NodeKinds.{edge_below, kind_small, kinds_live}
use Rattle.meaning.proofs.Runs.{OnNodes, rows_nodes}

module _ (g : Graph) (legal : LegalGraph g) where
  -- both kinds of every row are live
  abbrev OnLive : Relation → Type 0
  OnLive p = Ends (λ A. live g A ≡ true) p

  table_live : (f : ℕ → Bool) → OnLive (λ A B. live g A && (child_kind g A B && f B))
  table_live f A B h =
      let l : live g A ≡ true = and_left (live g A) _ h in
      (l, live_child g legal A B l (and_left (child_kind g A B) (f B) (and_right (live g A) _ h)))

  pairs_live : (ps : List Relation) (o : Operation) → ((s : ℕ) → OnLive (at ps s)) → OnLive (pairs g ps o)
  unfolding pairs
  pairs_live ps (Table m) on = table_live (bit m)
  pairs_live ps Itself on = diagonal_ends _ (live g) (λ A l. l)
  pairs_live ps (Text c) on = diagonal_ends _ _ (λ A h. and_left (live g A) _ (and_right (is_text c) _ h))
  pairs_live ps (Join a b) on = join_ends _ kinds (at ps a) (at ps b) (on a) (on b)
  pairs_live ps (Union a b) on = unite_ends _ (at ps a) (at ps b) (on a) (on b)
  pairs_live ps (Closure a) on = closure_ends _ kinds (at ps a) (on a)
  pairs_live ps (Has a) on = has_ends _ kinds (at ps a) (on a)
  pairs_live ps (Diff a b) on = on a
  pairs_live ps (Both a b) on = intersection_ends _ (at ps a) (at ps b) (on a)

  -- every pair announced for every step of every program joins live kinds
  pub announced_live : (os : List Operation) (s : ℕ) → OnLive (at (announced g os) s)
  unfolding announced
  announced_live os s = results_agree (λ p q. OnLive p) (λ A B h. never h) (pairs g) (pairs g) (λ ps qs o on. pairs_live ps o on) os s

  module _ (d : View) (keeps : Lawful g d) where
    -- each row of r joins a pair of p
    abbrev Covers : Relation → Relation → Type 0
    Covers r p = (v w : ℕ) → r v w ≡ true → p (d.kind v) (d.kind w) ≡ true

    -- what is kept at each step: rows join nodes, pairs join live kinds, and the pairs cover the rows
    record Announces (r p : Relation) : Type 0 where
      nodes : OnNodes d r
      live : OnLive p
      covers : Covers r p

    covers_table : (m : ℕ) → Covers (λ v w. is_parent d v w && bit m (d.kind w)) (λ A B. live g A && (child_kind g A B && bit m B))
    covers_table m v w h =
        let p : is_parent d v w ≡ true = and_left (is_parent d v w) (bit m (d.kind w)) h in
        and_in (rw (parent_is d v w p) at (kinds_live g legal d keeps (d.parent w) (keeps.parent_there w (parent_element d v w p))))
        (and_in (edge_below g legal d keeps v w p) (and_right (is_parent d v w) (bit m (d.kind w)) h))

    covers_diagonal : (f h : ℕ → Bool) → ((v : ℕ) → f v ≡ true → h (d.kind v) ≡ true) → Covers (λ v w. eqb v w && f v) (λ A B. eqb A B && h A)
    covers_diagonal f h k v w e =
        and_in (eq-eqb (d.kind v) (d.kind w) (ap d.kind (eqb-true v w (and_left (eqb v w) (f v) e)))) (k v (and_right (eqb v w) (f v) e))

    text_kinds : (c v : ℕ) → text_test d c v ≡ true → is_text c && (live g (d.kind v) && not (eqb (d.kind v) document)) ≡ true
    text_kinds c v h =
        let e : is_element d v ≡ true = test_element d c v h in
        and_in (test_text d c v h)
        (and_in (kinds_live g legal d keeps v (element_there d v e))
        (not_in (eqb (d.kind v) document) (λ q. omega (arith, eqb-true (d.kind v) document q, edge_types g legal _ (d.kind v) (keeps.edge v e), legal.most_types))))

    covers_join : (r s p q : Relation) → OnNodes d r → Covers r p → Covers s q → Covers (join d.size r s) (join kinds p q)
    unfolding join
    covers_join r s p q nodes a b v w h =
        any_out d.size (λ u. r v u && s u w)
        (λ u l e. any_in kinds (λ K. p (d.kind v) K && q K (d.kind w)) (d.kind u)
        (kind_small g legal d keeps u (nodes v u (and_left (r v u) (s u w) e)).1)
        (and_in (a v u (and_left (r v u) (s u w) e)) (b u w (and_right (r v u) (s u w) e)))) h

    covers_has : (r p : Relation) → OnNodes d r → Covers r p → Covers (has d.size r) (has kinds p)
    unfolding has
    covers_has r p nodes a =
        covers_diagonal (λ v. any d.size (λ u. r v u)) (λ A. any kinds (λ K. p A K)) λ v h.
        any_out d.size (λ u. r v u)
        (λ u l e. any_in kinds (λ K. p (d.kind v) K) (d.kind u) (kind_small g legal d keeps u (nodes v u e).1) (a v u e)) h

    covers_closure : (r p : Relation) → OnLive p → Covers r p → Covers (closure d.size r) (closure kinds p)
    covers_closure r p on a v w h = closure_complete kinds p (λ A B e. (live_small g legal A (on A B e).0, live_small g legal B (on A B e).1)) (steps_map r p d.kind a (closure_sound d.size r h))

    covers_unite : (r s p q : Relation) → Covers r p → Covers s q → Covers (unite r s) (unite p q)
    unfolding unite
    covers_unite r s p q a b v w h =
        or_out (r v w) (s v w) (λ e. or_left _ _ (a v w e)) (λ e. or_right (p (d.kind v) (d.kind w)) _ (b v w e)) h

    covers_difference : (r s p : Relation) → Covers r p → Covers (difference r s) p
    unfolding difference
    covers_difference r s p a v w h = a v w (and_left (r v w) _ h)

    covers_intersection : (r s p q : Relation) → Covers r p → Covers s q → Covers (intersection r s) (intersection p q)
    unfolding intersection
    covers_intersection r s p q a b v w h = and_in (a v w (and_left (r v w) (s v w) h)) (b v w (and_right (r v w) (s v w) h))

    covers_step : (rs ps : List Relation) (o : Operation) → ((s : ℕ) → Announces (at rs s) (at ps s)) → Covers (rows d rs o) (pairs g ps o)
    unfolding rows pairs
    covers_step rs ps (Table m) a = covers_table m
    covers_step rs ps Itself a = covers_diagonal d.there (live g) (kinds_live g legal d keeps)
    covers_step rs ps (Text c) a = covers_diagonal (text_test d c) (λ A. is_text c && (live g A && not (eqb A document))) (text_kinds c)
    covers_step rs ps (Join x y) a = covers_join (at rs x) (at rs y) (at ps x) (at ps y) (a x).nodes (a x).covers (a y).covers
    covers_step rs ps (Union x y) a = covers_unite (at rs x) (at rs y) (at ps x) (at ps y) (a x).covers (a y).covers
    covers_step rs ps (Closure x) a = covers_closure (at rs x) (at ps x) (a x).live (a x).covers
    covers_step rs ps (Has x) a = covers_has (at rs x) (at ps x) (a x).nodes (a x).covers
    covers_step rs ps (Diff x y) a = covers_difference (at rs x) (at rs y) (at ps x) (a x).covers
    covers_step rs ps (Both x y) a = covers_intersection (at rs x) (at rs y) (at ps x) (at ps y) (a x).covers (a y).covers

    steps_announced : (os : List Operation) (s : ℕ) → Announces (at (run d os) s) (at (announced g os) s)
    unfolding run announced
    steps_announced os s =
        results_agree Announces (record { nodes = λ v w h. never h; live = λ v w h. never h; covers = λ v w h. never h }) (rows d) (pairs g)
        (λ rs ps o a. record {
          nodes = rows_nodes d keeps.parent_there rs o (λ s. (a s).nodes);
          live = pairs_live ps o (λ s. (a s).live);
          covers = covers_step rs ps o a;
        }) os s

    pub run_announced : (os : List Operation) (s v w : ℕ) → at (run d os) s v w ≡ true → at (announced g os) s (d.kind v) (d.kind w) ≡ true
    run_announced os s v w h = (steps_announced os s).covers v w h

    -- with nothing announced from 16 for the last step, nothing is selected
    pub none_selected : (os : List Operation) → ((B : ℕ) → at (announced g os) (last os) document B ≡ false) → answer d os ≡ []
    unfolding answer
    none_selected os none =
        listed_none d.size _ λ w h.
        let a : at (announced g os) (last os) document (d.kind w) ≡ true = rw keeps.root_kind at (run_announced os (last os) 0 w h) in
        never (sym (none (d.kind w)) ∙ a)
