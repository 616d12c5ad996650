-- Programs that grow: what steps add, and what their results are in a run.
use Prim.Native.Nat.{ℕ, ◌-◌, ◌<◌, ◌≤◌}
use mathlib.Core.Path.{◌≡◌, refl, ap, ◌∙◌}
use mathlib.Core.Bool.{Bool, true, ◌&&◌}
use mathlib.Core.List.{List, [], ◌∷◌, ◌++◌, append_assoc}
use native.Mathlib.Omega.{arith}
use lib.ListN.{length, length-append}
use Rattle.meaning.specs.declared.Operation.{Operation}
use Rattle.meaning.specs.declared.Operation.TheVariants.{Table, Itself, Text, Join, Union, Closure, Has, Diff, Both}
use Rattle.meaning.specs.Sets.{bit}
use Rattle.meaning.specs.Relations.{Relation, at}
use Rattle.meaning.specs.Documents.{View, is_element, is_parent, text_test}
use Rattle.meaning.specs.Operations.{last, rows, run}
use Rattle.meaning.specs.Translation.{step}
use Rattle.meaning.proofs.Tests.{never, and_left}
use Rattle.meaning.proofs.Ends.{Ends, diagonal_ends, join_ends, unite_ends, has_ends, difference_ends, intersection_ends, closure_ends}
use Rattle.meaning.proofs.Results.{results_append, results_length, results_keep, results_last, results_agree}
use Rattle.meaning.proofs.Views.{element_there, parent_element, parent_is, test_element}

-- ps is os with one or more steps added
pub record Longer (os ps : List Operation) : Type 0 where
  pub added : List Operation
  pub whole : ps ≡ os ++ added
  pub some_added : 1 ≤ length added

pub longer_step : (o : Operation) (os : List Operation) → Longer os (step o os)
unfolding step
longer_step o os = record { added = o ∷ []; whole = refl; some_added = omega arith }

pub longer_trans : {os ps qs : List Operation} → Longer os ps → Longer ps qs → Longer os qs
longer_trans {os} {ps} {qs} a b = record {
  added = a.added ++ b.added;
  whole = b.whole ∙ ap (λ l. l ++ b.added) a.whole ∙ append_assoc os a.added b.added;
  some_added = omega (arith, length-append a.added b.added, a.some_added);
}

pub longer_length : {os ps : List Operation} → Longer os ps → length os < length ps
longer_length {os} {ps} a = omega (arith, ap length a.whole, length-append os a.added, a.some_added)

-- the last step of what has grown is there, and is none of the old ones
pub last_new : {os ps : List Operation} → Longer os ps → (length os ≤ last ps) × (last ps < length ps)
unfolding last
last_new a = (omega (arith, longer_length a), omega (arith, longer_length a))

-- the rows of r join nodes
abbrev pub OnNodes : View → Relation → Type 0
OnNodes d r = Ends (λ v. d.there v ≡ true) r

module _ (d : View) where
  pub run_length : (os : List Operation) → length (run d os) ≡ length os
  unfolding run
  run_length os = results_length (rows d) [] os ∙ omega arith

  -- a step's result stays when the program grows
  pub run_keep : {os ps : List Operation} → Longer os ps → (s : ℕ) → s < length os → at (run d ps) s ≡ at (run d os) s
  unfolding run
  run_keep {os} {ps} a s l =
      ap (λ l. at (run d l) s) a.whole
      ∙ ap (λ l. at l s) (results_append (rows d) [] os a.added)
      ∙ results_keep (rows d) (run d os) a.added s (omega (arith, run_length os))

  abbrev pub last_result : List Operation → Relation
  last_result os = at (run d os) (last os)

  pub step_result : (o : Operation) (os : List Operation) → last_result (step o os) ≡ rows d (run d os) o
  unfolding run step last
  step_result o os =
      ap (λ l. at l (length (os ++ (o ∷ [])) - 1)) (results_append (rows d) [] os (o ∷ []))
      ∙ results_last (rows d) (run d os) o _ (run_length os ∙ omega (arith, length-append os (o ∷ [])))

  -- The parent of an element is a node.
  module _ (parents : (w : ℕ) → is_element d w ≡ true → d.there (d.parent w) ≡ true) where
    table_nodes : (f : ℕ → Bool) → OnNodes d (λ v w. is_parent d v w && f w)
    table_nodes f v w h =
        let p : is_parent d v w ≡ true = and_left (is_parent d v w) (f w) h in
        let e : is_element d w ≡ true = parent_element d v w p in
        (rw (parent_is d v w p) at (parents w e), element_there d w e)

    pub rows_nodes : (rs : List Relation) (o : Operation) → ((s : ℕ) → OnNodes d (at rs s)) → OnNodes d (rows d rs o)
    unfolding rows
    rows_nodes rs (Table m) on = table_nodes (λ w. bit m (d.kind w))
    rows_nodes rs Itself on = diagonal_ends _ d.there (λ v t. t)
    rows_nodes rs (Text c) on = diagonal_ends _ (text_test d c) (λ v h. element_there d v (test_element d c v h))
    rows_nodes rs (Join a b) on = join_ends _ d.size (at rs a) (at rs b) (on a) (on b)
    rows_nodes rs (Union a b) on = unite_ends _ (at rs a) (at rs b) (on a) (on b)
    rows_nodes rs (Closure a) on = closure_ends _ d.size (at rs a) (on a)
    rows_nodes rs (Has a) on = has_ends _ d.size (at rs a) (on a)
    rows_nodes rs (Diff a b) on = difference_ends _ (at rs a) (at rs b) (on a)
    rows_nodes rs (Both a b) on = intersection_ends _ (at rs a) (at rs b) (on a)

    -- every row of every step of every program joins two nodes
    pub run_nodes : (os : List Operation) (s : ℕ) → OnNodes d (at (run d os) s)
    unfolding run
    run_nodes os s = results_agree (λ r p. OnNodes d r) (λ v w h. never h) (rows d) (rows d) (λ rs ps o on. rows_nodes rs o on) os s
