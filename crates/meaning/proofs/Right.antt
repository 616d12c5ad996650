-- Translation is right: the last step of a translated path relates each node of the context kinds to what the path reaches from it.
use Prim.Native.Nat.{ℕ}
use mathlib.Core.Path.{◌≡◌, refl, sym, ap, ◌∙◌}
use mathlib.Core.Bool.{Bool, true, false, not, ◌&&◌, ◌||◌}
use mathlib.Core.List.{List, []}
use lib.Dec.{eqb}
use borrow.Author.Tests.{eqb-true, eq-eqb}
use Rattle.meaning.specs.declared.Graph.{Graph}
use Rattle.meaning.specs.declared.Operation.{Operation}
use Rattle.meaning.specs.declared.Operation.TheVariants.{Table, Itself, Text, Join, Union, Closure, Has, Diff, Both}
use Rattle.meaning.specs.Limits.{document, kinds}
use Rattle.meaning.specs.Sets.{any, bit, mask}
use Rattle.meaning.specs.Relations.{Relation, OneOrMore, one, more, join, unite, has, difference, intersection, closure, at}
use Rattle.meaning.specs.Graphs.{LegalGraph, child_kind, reachable}
use Rattle.meaning.specs.Documents.{View, some, is_parent, below}
use Rattle.meaning.specs.Queries.{XPath, Qualifier, self, child, any_child, slash, slashes, union, filter, reached, text_is, is_not, both, either, or_below, reaches, holds, selected}
use Rattle.meaning.specs.Operations.{last, rows, run, answer}
use Rattle.meaning.specs.Translation.{Adds, step, then, then_both, image, only, or_reachable, out, descend, path, qualifier, translated}
use Rattle.meaning.proofs.Tests.{same, and_in, and_left, and_right, and_where, and_cong, and_implied}
use Rattle.meaning.proofs.Sets.{any_in, any_out, listed_cong}
use Rattle.meaning.proofs.Closure.{closure_sound, closure_complete, steps_map}
use Rattle.meaning.proofs.Views.{Lawful, parent_element, element_there, below_steps, steps_below}
use Rattle.meaning.proofs.KindSets.{only_bit}
use Rattle.meaning.proofs.NodeKinds.{some_in, some_out, kind_small, child_kinds, below_kinds, deep_kinds, out_kinds}
use Rattle.meaning.proofs.Runs.{Longer, longer_step, last_new, OnNodes, run_keep, last_result, step_result, run_nodes}
use Rattle.meaning.proofs.Counts.{both_longer, then_longer}

-- r and s have the same rows to nodes, from wherever S holds
abbrev Same : View → (ℕ → Type 0) → Relation → Relation → Type 0
Same d S r s = (v w : ℕ) → S v → d.there w ≡ true → r v w ≡ s v w

-- whatever program a adds to, it adds steps, and the last one's rows from S are those of r
record Makes (d : View) (S : ℕ → Type 0) (a : Adds) (r : Relation) : Type 0 where
  longer : (os : List Operation) → Longer os (a os)
  made : (os : List Operation) → Same d S (last_result d (a os)) r

module _ (g : Graph) (d : View) (keeps : Lawful g d) where
  -- a search over all numbers finds what one over the nodes does, where only nodes can pass
  any_some : (f h : ℕ → Bool) → ((u : ℕ) → f u ≡ true → d.there u ≡ true) → ((u : ℕ) → d.there u ≡ true → f u ≡ h u) → any d.size f ≡ some d h
  any_some f h nodes agree =
      same (any d.size f) (some d h)
      (any_out d.size f (λ u l e. some_in d h u l (nodes u e) (sym (agree u (nodes u e)) ∙ e)))
      (some_out d h (λ u t e. any_in d.size f u (keeps.bounded u t) (agree u t ∙ e)))

  makes_step : {S : ℕ → Type 0} {r : Relation} (o : Operation) → ((rs : List Relation) → Same d S (rows d rs o) r) → Makes d S (step o) r
  makes_step o h = record {
    longer = longer_step o;
    made = λ os v w s t. ap (λ (q : Relation). q v w) (step_result d o os) ∙ h (run d os) v w s t;
  }

  makes_then : {S T : ℕ → Type 0} {r s : Relation} {a : Adds} (f : ℕ → Operation)
      → ((rs : List Relation) (x : ℕ) → OnNodes d (at rs x) → Same d T (at rs x) r → Same d S (rows d rs (f x)) s)
      → Makes d T a r → Makes d S (then f a) s
  unfolding then
  makes_then {a = a} f h m = record {
    longer = then_longer f m.longer;
    made = λ os v w s t.
        ap (λ (q : Relation). q v w) (step_result d (f (last (a os))) (a os))
        ∙ h (run d (a os)) (last (a os)) (run_nodes d keeps.parent_there (a os) (last (a os))) (m.made os) v w s t;
  }

  makes_both : {S T : ℕ → Type 0} {r s t : Relation} {a b : Adds} (f : ℕ → ℕ → Operation)
      → ((rs : List Relation) (x y : ℕ) → OnNodes d (at rs x) → Same d S (at rs x) r → Same d T (at rs y) s → Same d S (rows d rs (f x y)) t)
      → Makes d S a r → Makes d T b s → Makes d S (then_both f a b) t
  unfolding then_both then
  makes_both {a = a} {b = b} f h ma mb = record {
    longer = both_longer f ma.longer mb.longer;
    made = λ os v w sv tw.
        let p : List Operation = a os in
        let q : List Operation = b p in
        ap (λ (r : Relation). r v w) (step_result d (f (last p) (last q)) q)
        ∙ h (run d q) (last p) (last q) (run_nodes d keeps.parent_there q (last p))
        (λ v u sv tu. ap (λ (r : Relation). r v u) (run_keep d (mb.longer p) (last p) (last_new (ma.longer os)).1) ∙ ma.made os v u sv tu)
        (mb.made p) v w sv tw;
  }

  makes_same : {S : ℕ → Type 0} {r s : Relation} {a : Adds} → Same d S r s → Makes d S a r → Makes d S a s
  makes_same h m = record { longer = m.longer; made = λ os v w i t. m.made os v w i t ∙ h v w i t }

  makes_join : {S T : ℕ → Type 0} {r s : Relation} {a b : Adds} → ((v u : ℕ) → S v → d.there u ≡ true → r v u ≡ true → T u)
      → Makes d S a r → Makes d T b s → Makes d S (then_both Join a b) (λ v w. some d (λ u. r v u && s u w))
  unfolding rows join
  makes_join {r = r} {s = s} leads =
      makes_both Join λ rs x y nodes p q v w i t.
      any_some (λ u. at rs x v u && at rs y u w) (λ u. r v u && s u w)
      (λ u e. (nodes v u (and_left (at rs x v u) _ e)).1)
      (λ u k. and_cong (r v u) (p v u i k) (λ e. q u w (leads v u i k e) t))

  makes_union : {S : ℕ → Type 0} {r s : Relation} {a b : Adds} → Makes d S a r → Makes d S b s → Makes d S (then_both Union a b) (λ v w. r v w || s v w)
  unfolding rows unite
  makes_union = makes_both Union λ rs x y nodes p q v w i t. rw (p v w i t, q v w i t)

  makes_intersection : {S : ℕ → Type 0} {r s : Relation} {a b : Adds} → Makes d S a r → Makes d S b s → Makes d S (then_both Both a b) (λ v w. r v w && s v w)
  unfolding rows intersection
  makes_intersection = makes_both Both λ rs x y nodes p q v w i t. rw (p v w i t, q v w i t)

  makes_difference : {S : ℕ → Type 0} {r s : Relation} {a b : Adds} → Makes d S a r → Makes d S b s → Makes d S (then_both (λ x y. Diff y x) a b) (λ v w. s v w && not (r v w))
  unfolding rows difference
  makes_difference = makes_both (λ x y. Diff y x) λ rs x y nodes p q v w i t. rw (p v w i t, q v w i t)

  makes_has : {S : ℕ → Type 0} {r : Relation} {a : Adds} → Makes d S a r → Makes d S (then Has a) (λ v w. eqb v w && some d (λ u. r v u))
  unfolding rows has
  makes_has {r = r} =
      makes_then Has λ rs x nodes p v w i t.
      and_where (eqb v w) λ e. any_some (λ u. at rs x v u) (λ u. r v u) (λ u h. (nodes v u h).1) (λ u k. p v u i k)

  -- from a node v, where D has the kinds of all below it, the closure of the table of D is what is below
  closes : (D : ℕ) (r : Relation) (v w : ℕ) → OnNodes d r → ((u x : ℕ) → d.there x ≡ true → r u x ≡ (is_parent d u x && bit D (d.kind x)))
      → ((x : ℕ) → below d v x ≡ true → bit D (d.kind x) ≡ true) → closure d.size r v w ≡ below d v w
  closes D r v w nodes table within =
      same (closure d.size r v w) (below d v w)
      (λ c. steps_below g d keeps (steps_map r (is_parent d) (λ x. x) child_row (closure_sound d.size r c)))
      (λ b. closure_complete d.size r (λ u x h. (keeps.bounded u (nodes u x h).0, keeps.bounded x (nodes u x h).1)) (rows_of (below_steps g d keeps b)))
    where
      child_row : (u x : ℕ) → r u x ≡ true → is_parent d u x ≡ true
      child_row u x h = and_left (is_parent d u x) _ (sym (table u x (nodes u x h).1) ∙ h)

      row_at : (u x : ℕ) → is_parent d u x ≡ true → below d v x ≡ true → r u x ≡ true
      row_at u x h b = table u x (element_there d x (parent_element d u x h)) ∙ and_in h (within x b)

      rows_of : {x : ℕ} → OneOrMore (is_parent d) v x → OneOrMore r v x
      rows_of {x} (one h) = one (row_at v x h (steps_below g d keeps (one h)))
      rows_of {x} (more {u} s h) = more (rows_of s) (row_at u x h (steps_below g d keeps (more s h)))

or_swap : (a b : Bool) → a || b ≡ b || a
or_swap true true = refl
or_swap true false = refl
or_swap false true = refl
or_swap false false = refl

-- tests of one node, put together
and_over_and : (a b c : Bool) → (a && b) && (a && c) ≡ a && (b && c)
and_over_and true b c = refl
and_over_and false b c = refl

and_over_or : (a b c : Bool) → (a && b) || (a && c) ≡ a && (b || c)
and_over_or true b c = refl
and_over_or false b c = refl

and_over_not : (a b : Bool) → a && not (a && b) ≡ a && not b
and_over_not true b = refl
and_over_not false b = refl

root_context : bit (mask kinds (λ A. eqb A document)) document ≡ true
unfolding bit mask
root_context = refl

module _ (g : Graph) (legal : LegalGraph g) (d : View) (keeps : Lawful g d) where
  -- a node of one of the kinds C
  record Inside (C v : ℕ) : Type 0 where
    there : d.there v ≡ true
    kind : bit C (d.kind v) ≡ true

  makes_self : (C : ℕ) → Makes d (Inside C) (step Itself) (λ v w. eqb v w)
  unfolding rows
  makes_self C = makes_step g d keeps Itself λ rs v w i t. and_implied (eqb v w) (d.there v) (λ e. i.there)

  -- a table of kinds E that hold of a child exactly where r does
  makes_table : (C E : ℕ) (r : Relation) → ((v w : ℕ) → Inside C v → is_parent d v w ≡ true → bit E (d.kind w) ≡ r v w)
      → Makes d (Inside C) (step (Table E)) (λ v w. is_parent d v w && r v w)
  unfolding rows
  makes_table C E r h = makes_step g d keeps (Table E) λ rs v w i t. and_where (is_parent d v w) (h v w i)

  makes_descend : (C : ℕ) → Makes d (Inside C) (descend (image (reachable g) C)) (or_below d)
  unfolding descend or_below rows
  makes_descend C =
      makes_same g d keeps (λ v w i t. or_swap (below d v w) (eqb v w))
      (makes_union g d keeps
      (makes_then g d keeps {T = λ v. Unit {0}} Closure
      (λ rs x nodes table v w i t. closes g d keeps (image (reachable g) C) (at rs x) v w nodes (λ u y. table u y tt)
      (λ y b. below_kinds g legal d keeps C v y i.there i.kind b))
      (makes_step g d keeps (Table (image (reachable g) C)) λ rs v w i t. refl))
      (makes_self C))

  -- p, then (what is at or below, then q) is (p, then what is at or below), then q
  regroup : (f : ℕ → Bool) (r : Relation) (h : ℕ → Bool) → some d (λ x. some d (λ u. f u && r u x) && h x) ≡ some d (λ u. f u && some d (λ x. r u x && h x))
  regroup f r h =
      same _ _
      (some_out d (λ x. some d (λ u. f u && r u x) && h x) λ x tx e.
      some_out d (λ u. f u && r u x) (λ u tu k. some_in d _ u (keeps.bounded u tu) tu
      (and_in (and_left (f u) (r u x) k) (some_in d _ x (keeps.bounded x tx) tx (and_in (and_right (f u) (r u x) k) (and_right (some d (λ u. f u && r u x)) (h x) e)))))
      (and_left (some d (λ u. f u && r u x)) (h x) e))
      (some_out d (λ u. f u && some d (λ x. r u x && h x)) λ u tu e.
      some_out d (λ x. r u x && h x) (λ x tx k. some_in d _ x (keeps.bounded x tx) tx
      (and_in (some_in d _ u (keeps.bounded u tu) tu (and_in (and_left (f u) _ e) (and_left (r u x) (h x) k))) (and_right (r u x) (h x) k)))
      (and_right (f u) _ e))

  -- a search that only the node w can pass
  only_at : (f h : ℕ → Bool) (w : ℕ) → d.there w ≡ true → some d (λ u. f u && (eqb u w && h u)) ≡ f w && h w
  only_at f h w t =
      same _ _
      (some_out d (λ u. f u && (eqb u w && h u)) λ u s e.
      rw (← eqb-true u w (and_left (eqb u w) (h u) (and_right (f u) _ e)))
      (and_in (and_left (f u) _ e) (and_right (eqb u w) (h u) (and_right (f u) _ e))))
      (λ e. some_in d (λ u. f u && (eqb u w && h u)) w (keeps.bounded w t) t
      (and_in (and_left (f w) (h w) e) (and_in (eq-eqb w w refl) (and_right (f w) (h w) e))))

  inside_out : (p : XPath) (C v u : ℕ) → Inside C v → d.there u ≡ true → reaches p d v u ≡ true → Inside (out g C p) u
  inside_out p C v u i t h = record { there = t; kind = out_kinds g legal d keeps p C v u i.there t i.kind h }

  inside_deep : (C v u : ℕ) → Inside C v → d.there u ≡ true → or_below d v u ≡ true → Inside (or_reachable g C) u
  inside_deep C v u i t h = record { there = t; kind = deep_kinds g legal d keeps C v u i.there t i.kind h }

  child_inside : (C v w : ℕ) → Inside C v → is_parent d v w ≡ true → bit (image (child_kind g) C) (d.kind w) ≡ true
  child_inside C v w i h = child_kinds g legal d keeps C v w i.there i.kind h

  mutual
    unfolding path qualifier reaches holds out rows

    path_makes : (p : XPath) (C : ℕ) → Makes d (Inside C) (path g C p) (reaches p d)
    path_makes self C = makes_self C
    path_makes (child t) C =
        makes_table C (only t (image (child_kind g) C)) (λ v w. eqb (d.kind w) t) λ v w i h.
        only_bit t (image (child_kind g) C) (d.kind w) (kind_small g legal d keeps w (element_there d w (parent_element d v w h)))
        ∙ and_implied (eqb (d.kind w) t) _ (λ e. child_inside C v w i h)
    path_makes any_child C =
        makes_same g d keeps (λ v w i t. and_implied (is_parent d v w) true (λ h. refl))
        (makes_table C (image (child_kind g) C) (λ v w. true) (child_inside C))
    path_makes (slash p q) C = makes_join g d keeps (inside_out p C) (path_makes p C) (path_makes q (out g C p))
    path_makes (slashes p q) C =
        makes_same g d keeps (λ v w i t. regroup (reaches p d v) (or_below d) (λ x. reaches q d x w))
        (makes_join g d keeps
        (λ v x i t h. some_out d (λ u. reaches p d v u && or_below d u x)
        (λ u s e. inside_deep (out g C p) u x (inside_out p C v u i s (and_left (reaches p d v u) _ e)) t (and_right (reaches p d v u) _ e)) h)
        (makes_join g d keeps (inside_out p C) (path_makes p C) (makes_descend (out g C p)))
        (path_makes q (or_reachable g (out g C p))))
    path_makes (union p q) C = makes_union g d keeps (path_makes p C) (path_makes q C)
    path_makes (filter p q) C =
        makes_same g d keeps (λ v w i t. only_at (reaches p d v) (holds q d) w t)
        (makes_join g d keeps (inside_out p C) (path_makes p C) (qualifier_makes q (out g C p)))

    qualifier_makes : (q : Qualifier) (C : ℕ) → Makes d (Inside C) (qualifier g C q) (λ v w. eqb v w && holds q d v)
    qualifier_makes (reached p) C = makes_has g d keeps (path_makes p C)
    qualifier_makes (text_is c) C = makes_step g d keeps (Text c) λ rs v w i t. refl
    qualifier_makes (is_not q) C =
        makes_same g d keeps (λ v w i t. and_over_not (eqb v w) (holds q d v)) (makes_difference g d keeps (qualifier_makes q C) (makes_self C))
    qualifier_makes (both q r) C =
        makes_same g d keeps (λ v w i t. and_over_and (eqb v w) (holds q d v) (holds r d v)) (makes_intersection g d keeps (qualifier_makes q C) (qualifier_makes r C))
    qualifier_makes (either q r) C =
        makes_same g d keeps (λ v w i t. and_over_or (eqb v w) (holds q d v) (holds r d v)) (makes_union g d keeps (qualifier_makes q C) (qualifier_makes r C))

  -- the stronger statement: from every node whose kind is among the context kinds, whatever the steps were added to
  pub path_right : (p : XPath) (C : ℕ) (os : List Operation) (v w : ℕ) → d.there v ≡ true → d.there w ≡ true → bit C (d.kind v) ≡ true
      → at (run d (path g C p os)) (last (path g C p os)) v w ≡ reaches p d v w
  path_right p C os v w tv tw c = (path_makes p C).made os v w (record { there = tv; kind = c }) tw

  pub translated_right : (p : XPath) → answer d (translated g p) ≡ selected d p
  unfolding answer selected translated
  translated_right p =
      listed_cong d.size _ _ λ w l.
      same _ _
      (λ h. let t : d.there w ≡ true = (run_nodes d keeps.parent_there (translated g p) _ 0 w h).1 in and_in t (sym (from_root w t) ∙ h))
      (λ h. from_root w (and_left (d.there w) _ h) ∙ and_right (d.there w) _ h)
    where
      from_root : (w : ℕ) → d.there w ≡ true → at (run d (translated g p)) (last (translated g p)) 0 w ≡ reaches p d 0 w
      from_root w t = path_right p (mask kinds (λ A. eqb A document)) [] 0 w keeps.root_there t (ap (bit _) keeps.root_kind ∙ root_context)
