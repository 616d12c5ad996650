-- Translated programs: how many steps they have, and that they are legal.
use Prim.Native.Nat.{ℕ, ◌+◌, ◌*◌, ◌<◌, ◌≤◌}
use mathlib.Core.Path.{◌≡◌, ◌∙◌}
use mathlib.Core.List.{List, [], ◌∷◌}
use native.Mathlib.Nat.{not-suc-le-zero}
use native.Mathlib.Omega.{arith}
use lib.ListN.{get_or, length, length-append, get_or-append}
use lib.Seq.{get_or-append_seam}
use Rattle.meaning.specs.declared.Graph.{Graph}
use Rattle.meaning.specs.declared.Operation.{Operation}
use Rattle.meaning.specs.declared.Operation.TheVariants.{Table, Itself, Text, Join, Union, Closure, Has, Diff, Both}
use Rattle.meaning.specs.Graphs.{LegalGraph, reachable}
use Rattle.meaning.specs.Queries.{XPath, Qualifier, self, child, any_child, slash, slashes, union, filter, reached, text_is, is_not, both, either, path_count, qualifier_count, LegalPath, LegalQualifier}
use Rattle.meaning.specs.Operations.{last, LegalOperation, LegalProgram}
use Rattle.meaning.specs.Translation.{image, or_reachable, out, Adds, step, then, then_both, descend, path, qualifier, translated, step_count}
use Rattle.meaning.proofs.Sets.{below_suc}
use Rattle.meaning.proofs.KindSets.{only_out, child_types, reachable_types}
use Rattle.meaning.proofs.Runs.{Longer, longer_step, longer_trans, longer_length, last_new}

-- every step is a legal operation at its place
abbrev Legal : ℕ → List Operation → Type 0
Legal k os = (s : ℕ) → s < length os → LegalOperation k s (get_or os s Itself)

step_length : (o : Operation) (os : List Operation) → length (step o os) ≡ length os + 1
unfolding step
step_length o os = length-append os (o ∷ [])

step_legal : (k : ℕ) (o : Operation) (os : List Operation) → LegalOperation k (length os) o → Legal k os → Legal k (step o os)
unfolding step
step_legal k o os here before s l =
    below_suc (λ s. LegalOperation k s (get_or (step o os) s Itself)) s
    (rw (get_or-append_seam os o [] Itself) here)
    (λ m. rw (get_or-append os (o ∷ []) Itself s m) (before s m))
    (omega (arith, step_length o os))

-- a adds one or more steps to every program
abbrev pub Lengthens : Adds → Type 0
Lengthens a = (os : List Operation) → Longer os (a os)

pub then_longer : (f : ℕ → Operation) {a : Adds} → Lengthens a → Lengthens (then f a)
unfolding then
then_longer f {a} la os = longer_trans (la os) (longer_step (f (last (a os))) (a os))

pub both_longer : (f : ℕ → ℕ → Operation) {a b : Adds} → Lengthens a → Lengthens b → Lengthens (then_both f a b)
unfolding then_both
both_longer f {a} la lb os = longer_trans (la os) (then_longer (f (last (a os))) lb (a os))

module _ (g : Graph) where
  -- a adds n steps, one at least, and they are legal where the graph is and H holds
  record Grows (n : ℕ) (H : Type 0) (a : Adds) : Type 0 where
    count : (os : List Operation) → length (a os) ≡ length os + n
    longer : Lengthens a
    legal : LegalGraph g → H → (os : List Operation) → Legal g.k os → Legal g.k (a os)

  step_grows : {H : Type 0} (o : Operation) → (LegalGraph g → H → (s : ℕ) → LegalOperation g.k s o) → Grows 1 H (step o)
  step_grows o ok = record {
    count = step_length o;
    longer = longer_step o;
    legal = λ lg h os. step_legal g.k o os (ok lg h (length os));
  }

  then_grows : {n : ℕ} {H : Type 0} {a : Adds} (f : ℕ → Operation)
      → ((s x : ℕ) → x < s → LegalOperation g.k s (f x)) → Grows n H a → Grows (1 + n) H (then f a)
  unfolding then
  then_grows {a} f ok ga = record {
    count = λ os. omega (arith, step_length (f (last (a os))) (a os), ga.count os);
    longer = then_longer f ga.longer;
    legal = λ lg h os before. step_legal g.k (f (last (a os))) (a os) (ok _ _ (last_new (ga.longer os)).1) (ga.legal lg h os before);
  }

  both_grows : {m n : ℕ} {H I : Type 0} {a b : Adds} (f : ℕ → ℕ → Operation)
      → ((s x y : ℕ) → x < s → y < s → LegalOperation g.k s (f x y)) → Grows m H a → Grows n I b → Grows (1 + m + n) (H × I) (then_both f a b)
  unfolding then then_both
  both_grows {a} {b} f ok ga gb = record {
    count = λ os. let p = a os in omega (arith, step_length (f (last p) (last (b p))) (b p), ga.count os, gb.count p);
    longer = both_longer f ga.longer gb.longer;
    legal = λ lg h os before. let p = a os in
        step_legal g.k (f (last p) (last (b p))) (b p)
        (ok _ _ _ (omega (arith, last_new (ga.longer os), longer_length (gb.longer p))) (last_new (gb.longer p)).1)
        (gb.legal lg h.1 p (ga.legal lg h.0 os before));
  }

  -- the same, with the number and the condition put otherwise
  grows_as : {m n : ℕ} {H I : Type 0} {a : Adds} → m ≡ n → (I → H) → Grows m H a → Grows n I a
  grows_as e f ga = record {
    count = λ os. omega (arith, ga.count os);
    longer = ga.longer;
    legal = λ lg h. ga.legal lg (f h);
  }

  itself_grows : Grows 1 Unit (step Itself)
  unfolding LegalOperation
  itself_grows = step_grows Itself (λ lg h s. tt)

  descend_grows : (C : ℕ) → Grows 4 Unit (descend (image (reachable g) C))
  unfolding descend LegalOperation
  descend_grows C =
      grows_as (omega arith) (λ h. (h, h))
      (both_grows Union (omega arith)
      (then_grows Closure (omega arith) (step_grows (Table _) (λ lg h s. reachable_types g lg C)))
      itself_grows)

  mutual
    unfolding path qualifier path_count qualifier_count LegalPath LegalQualifier LegalOperation out

    path_grows : (C : ℕ) (p : XPath) → Grows (path_count 5 1 p) (LegalPath g.k p) (path g C p)
    path_grows C self = itself_grows
    path_grows C (child t) = step_grows (Table _) (λ lg h s B e. child_types g lg C B (only_out t _ B e))
    path_grows C any_child = step_grows (Table _) (λ lg h s. child_types g lg C)
    path_grows C (slash p q) = both_grows Join (omega arith) (path_grows C p) (path_grows (out g C p) q)
    path_grows C (slashes p q) =
        grows_as (omega arith) (λ h. ((h.0, tt), h.1))
        (both_grows Join (omega arith)
        (both_grows Join (omega arith) (path_grows C p) (descend_grows (out g C p)))
        (path_grows (or_reachable g (out g C p)) q))
    path_grows C (union p q) = both_grows Union (omega arith) (path_grows C p) (path_grows C q)
    path_grows C (filter p q) = both_grows Join (omega arith) (path_grows C p) (qualifier_grows (out g C p) q)

    qualifier_grows : (C : ℕ) (q : Qualifier) → Grows (qualifier_count 5 1 q) (LegalQualifier g.k q) (qualifier g C q)
    qualifier_grows C (reached p) = then_grows Has (omega arith) (path_grows C p)
    qualifier_grows C (text_is c) = step_grows (Text c) (λ lg h s. h)
    qualifier_grows C (is_not q) =
        grows_as (omega arith) (λ h. (h, tt))
        (both_grows (λ a b. Diff b a) (omega arith) (qualifier_grows C q) itself_grows)
    qualifier_grows C (both q r) = both_grows Both (omega arith) (qualifier_grows C q) (qualifier_grows C r)
    qualifier_grows C (either q r) = both_grows Union (omega arith) (qualifier_grows C q) (qualifier_grows C r)

pub path_length : (g : Graph) (C : ℕ) (p : XPath) (os : List Operation) → length (path g C p os) ≡ length os + path_count 5 1 p
path_length g C p = (path_grows g C p).count

pub path_longer : (g : Graph) (C : ℕ) (p : XPath) → Lengthens (path g C p)
path_longer g C p = (path_grows g C p).longer

pub qualifier_length : (g : Graph) (C : ℕ) (q : Qualifier) (os : List Operation) → length (qualifier g C q os) ≡ length os + qualifier_count 5 1 q
qualifier_length g C q = (qualifier_grows g C q).count

pub qualifier_longer : (g : Graph) (C : ℕ) (q : Qualifier) → Lengthens (qualifier g C q)
qualifier_longer g C q = (qualifier_grows g C q).longer

pub translated_length : (g : Graph) (p : XPath) → length (translated g p) ≡ step_count p
unfolding translated step_count
translated_length g p = path_length g _ p [] ∙ omega arith

-- every translated program that is not too long is legal
pub translated_legal : (limit : ℕ) (g : Graph) → LegalGraph g → (p : XPath) → LegalPath g.k p → step_count p ≤ limit → LegalProgram limit g.k (translated g p)
unfolding translated
translated_legal limit g lg p h few = record {
  some_step = longer_length (path_longer g _ p []);
  most_steps = omega (arith, translated_length g p);
  operations = (path_grows g _ p).legal lg h [] (λ s l. absurd (not-suc-le-zero l));
}

unfoldable mutual
  -- how many // a query has
  pub slashes_of : XPath → ℕ
  slashes_of self = 0
  slashes_of (child t) = 0
  slashes_of any_child = 0
  slashes_of (slash p q) = slashes_of p + slashes_of q
  slashes_of (slashes p q) = 1 + slashes_of p + slashes_of q
  slashes_of (union p q) = slashes_of p + slashes_of q
  slashes_of (filter p q) = slashes_of p + slashes_in q

  pub slashes_in : Qualifier → ℕ
  slashes_in (reached p) = slashes_of p
  slashes_in (text_is c) = 0
  slashes_in (is_not q) = slashes_in q
  slashes_in (both q r) = slashes_in q + slashes_in r
  slashes_in (either q r) = slashes_in q + slashes_in r

unfoldable mutual
  -- how many nots a query has
  pub nots_of : XPath → ℕ
  nots_of self = 0
  nots_of (child t) = 0
  nots_of any_child = 0
  nots_of (slash p q) = nots_of p + nots_of q
  nots_of (slashes p q) = nots_of p + nots_of q
  nots_of (union p q) = nots_of p + nots_of q
  nots_of (filter p q) = nots_of p + nots_in q

  pub nots_in : Qualifier → ℕ
  nots_in (reached p) = nots_of p
  nots_in (text_is c) = 0
  nots_in (is_not q) = 1 + nots_in q
  nots_in (both q r) = nots_in q + nots_in r
  nots_in (either q r) = nots_in q + nots_in r

mutual
  unfolding path_count qualifier_count slashes_of slashes_in nots_of nots_in

  -- a step for each node of the query, five more per // and one more per not
  pub count_split : (p : XPath) → path_count 5 1 p ≡ path_count 0 0 p + 5 * slashes_of p + nots_of p
  count_split self = omega arith
  count_split (child t) = omega arith
  count_split any_child = omega arith
  count_split (slash p q) = omega (arith, count_split p, count_split q)
  count_split (slashes p q) = omega (arith, count_split p, count_split q)
  count_split (union p q) = omega (arith, count_split p, count_split q)
  count_split (filter p q) = omega (arith, count_split p, count_split_in q)

  count_split_in : (q : Qualifier) → qualifier_count 5 1 q ≡ qualifier_count 0 0 q + 5 * slashes_in q + nots_in q
  count_split_in (reached p) = omega (arith, count_split p)
  count_split_in (text_is c) = omega arith
  count_split_in (is_not q) = omega (arith, count_split_in q)
  count_split_in (both q r) = omega (arith, count_split_in q, count_split_in r)
  count_split_in (either q r) = omega (arith, count_split_in q, count_split_in r)
