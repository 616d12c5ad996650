-- The theorems about the definitions: each can be read by itself, with specs/ beside it.
use Prim.Native.Nat.{ℕ, ◌+◌, ◌*◌, ◌≤◌}
use mathlib.Core.Path.{◌≡◌, refl}
use mathlib.Core.Bool.{true, false, and-false}
use mathlib.Core.List.{List, []}
use mathlib.Core.Logic.{◌↔◌}
use borrow.Author.Tests.{le-leb}
use lib.Dec.{eqb}
use lib.ListN.{length}
use Rattle.meaning.specs.declared.Graph.{Graph}
use Rattle.meaning.specs.declared.Element.{Element}
use Rattle.meaning.specs.declared.Operation.{Operation}
use Rattle.meaning.specs.declared.Operation.TheVariants.{Text}
use Rattle.meaning.specs.Limits.{document, kinds}
use Rattle.meaning.specs.Sets.{bit}
use Rattle.meaning.specs.Relations.{Relation, OneOrMore, closure, at}
use Rattle.meaning.specs.Graphs.{LegalGraph, live}
use Rattle.meaning.specs.Documents.{View, is_parent, below, is_text, text_test, view, node, Accepted}
use Rattle.meaning.specs.Queries.{XPath, text_is, is_not, LegalPath, query_nodes, reaches, holds, selected}
use Rattle.meaning.specs.Operations.{LegalProgram, last, rows, run, answer}
use Rattle.meaning.specs.Announcements.{pairs, announced}
use Rattle.meaning.specs.Translation.{path, translated, step_count}
use Rattle.meaning.proofs.Closure.{On, closure_sound, closure_complete}
use Rattle.meaning.proofs.Views.{accepted_keeps, below_steps, steps_below}
use Rattle.meaning.proofs.KindSets.{live_small}
use Rattle.meaning.proofs.NodeKinds.{kinds_live}
use Rattle.meaning.proofs.Runs.{run_nodes}
use Rattle.meaning.proofs.Counts.{slashes_of, nots_of, count_split, translated_length, translated_legal}
use Rattle.meaning.proofs.Right.{path_right, translated_right}
use Rattle.meaning.proofs.Sound.{announced_live, run_announced, none_selected}

-- The closure that is computed is the inductive one, for any relation on the numbers below n, cycles included.
pub closure_is_one_or_more : (n : ℕ) (r : Relation) → On n r → (v w : ℕ) → closure n r v w ≡ true ↔ OneOrMore r v w
closure_is_one_or_more n r on v w = (closure_sound n r, closure_complete n r on)

-- A query has a step for each of its nodes, five more per // and one more per not; and so many steps are written.
pub step_count_lem : (p : XPath) → step_count p ≡ query_nodes p + 5 * slashes_of p + nots_of p
unfolding step_count query_nodes
step_count_lem p = count_split p

pub step_count_written : (g : Graph) (p : XPath) → length (translated g p) ≡ step_count p
step_count_written g p = translated_length g p

-- The text test with number 0 holds of no node, and under not of every one.
pub text_0_holds_nowhere : (d : View) (v : ℕ) → holds (text_is 0) d v ≡ false
unfolding holds text_test is_text
text_0_holds_nowhere d v = refl

pub not_text_0_holds_everywhere : (d : View) (v : ℕ) → holds (is_not (text_is 0)) d v ≡ true
unfolding holds text_test is_text
not_text_0_holds_everywhere d v = refl

-- TEXT 0 has no rows, whatever the document, and announces no pairs, whatever the graph.
pub text_0_has_no_rows : (d : View) (rs : List Relation) (v w : ℕ) → rows d rs (Text 0) v w ≡ false
unfolding rows text_test is_text
text_0_has_no_rows d rs v w = and-false (eqb v w)

pub text_0_announces_no_pairs : (g : Graph) (ps : List Relation) (A B : ℕ) → pairs g ps (Text 0) A B ≡ false
unfolding pairs is_text
text_0_announces_no_pairs g ps A B = and-false (eqb A B)

module _ (g : Graph) (legal : LegalGraph g) where
  -- A translated program of at most so many steps is a legal program: each operand is below its own step, each mask inside k.
  pub translation_is_legal : (limit : ℕ) (p : XPath) → LegalPath g.k p → step_count p ≤ limit → LegalProgram limit g.k (translated g p)
  translation_is_legal limit p = translated_legal limit g legal p

  -- LFP over announced pairs is the inductive closure, for any step of any program.
  pub announced_closure_is_one_or_more : (os : List Operation) (s A B : ℕ) → closure kinds (at (announced g os) s) A B ≡ true ↔ OneOrMore (at (announced g os) s) A B
  announced_closure_is_one_or_more os s =
      closure_is_one_or_more kinds (at (announced g os) s) λ A B h. let (a, b) = announced_live g legal os s A B h in (live_small g legal A a, live_small g legal B b)

  -- Only live kinds are announced, for any step of any program.
  pub announced_kinds_are_live : (os : List Operation) (s A B : ℕ) → at (announced g os) s A B ≡ true → (live g A ≡ true) × (live g B ≡ true)
  announced_kinds_are_live os s A B h = announced_live g legal os s A B h

  module _ (limit : ℕ) (es : List Element) (accepted : Accepted limit g es) where
    -- The kind of every node of an accepted document is live.
    pub kinds_are_live : (v : ℕ) → v ≤ length es → live g (node es v).kind ≡ true
    unfolding view
    kinds_are_live v l = kinds_live g legal (view es) (accepted_keeps limit g es accepted) v (le-leb v (length es) l)

    -- LFP over the rows of a run is the inductive closure, for any step of any program.
    pub run_closure_is_one_or_more : (os : List Operation) (s v w : ℕ) → closure (view es).size (at (run (view es) os) s) v w ≡ true ↔ OneOrMore (at (run (view es) os) s) v w
    run_closure_is_one_or_more os s =
        let keeps = accepted_keeps limit g es accepted in
        closure_is_one_or_more (view es).size (at (run (view es) os) s) λ v w h. let (a, b) = run_nodes (view es) keeps.parent_there os s v w h in (keeps.bounded v a, keeps.bounded w b)

    -- Below, which goes by the parents, is one or more steps from parent to child.
    pub below_is_one_or_more : (v w : ℕ) → below (view es) v w ≡ true ↔ OneOrMore (is_parent (view es)) v w
    below_is_one_or_more v w =
        (below_steps g (view es) (accepted_keeps limit g es accepted), steps_below g (view es) (accepted_keeps limit g es accepted))

    -- Translation is right: the program's answer is exactly what the path selects from the document node.
    pub translation_is_right : (p : XPath) → answer (view es) (translated g p) ≡ selected (view es) p
    translation_is_right p = translated_right g legal (view es) (accepted_keeps limit g es accepted) p

    -- It follows from this: wherever a path's steps stand, under any context kinds C, the last of them relates
    -- each node whose kind is in C to the nodes that the path reaches from it.
    pub translated_steps_are_right : (p : XPath) (C : ℕ) (os : List Operation) (v w : ℕ) → v ≤ length es → w ≤ length es → bit C (node es v).kind ≡ true
        → at (run (view es) (path g C p os)) (last (path g C p os)) v w ≡ reaches p (view es) v w
    unfolding view
    translated_steps_are_right p C os v w lv lw c =
        path_right g legal (view es) (accepted_keeps limit g es accepted) p C os v w (le-leb v (length es) lv) (le-leb w (length es) lw) c

    -- Announcements are sound, for every program, ours or not: each row of each step joins a pair announced for it.
    pub announcements_are_sound : (os : List Operation) (s v w : ℕ) → at (run (view es) os) s v w ≡ true
        → at (announced g os) s (node es v).kind (node es w).kind ≡ true
    unfolding view
    announcements_are_sound os s v w h = run_announced g legal (view es) (accepted_keeps limit g es accepted) os s v w h

    -- Nothing announced from the document node for the last step, nothing selected.
    pub nothing_announced_nothing_selected : (os : List Operation) → ((B : ℕ) → at (announced g os) (last os) document B ≡ false) → answer (view es) os ≡ []
    nothing_announced_nothing_selected os none = none_selected g legal (view es) (accepted_keeps limit g es accepted) os none
