-- The translation of queries to programs, fixed to the step.
use Rattle.std.specs.Prelude.{ℕ, ◌&&◌, ◌||◌, List, [], ◌∷◌, ◌++◌, eqb}
use Rattle.meaning.specs.declared.Graph.{Graph}
use Rattle.meaning.specs.declared.Operation.{Operation}
use Rattle.meaning.specs.declared.Operation.TheVariants.{Table, Itself, Text, Join, Union, Closure, Has, Diff, Both}
use Rattle.meaning.specs.Limits.{kinds, document}
use Rattle.meaning.specs.Sets.{any, bit, mask}
use Rattle.meaning.specs.Relations.{Relation}
use Rattle.meaning.specs.Graphs.{child_kind, reachable}
use Rattle.meaning.specs.Queries.{XPath, Qualifier, self, child, any_child, slash, slashes, union, filter, reached, text_is, is_not, both, either, path_count}
use Rattle.meaning.specs.Operations.{last}

-- A set of kinds is a mask. The kinds that r relates some kind of C to:
unfoldable pub image : Relation → ℕ → ℕ
image r C = mask kinds (λ B. any kinds (λ A. bit C A && r A B))

-- t, if it is in C
unfoldable pub only : ℕ → ℕ → ℕ
only t C = mask kinds (λ A. eqb A t && bit C A)

unfoldable pub together : ℕ → ℕ → ℕ
together C D = mask kinds (λ A. bit C A || bit D A)

-- the kinds named for p//q, under which q stands: those of p and all reachable from them
unfoldable pub or_reachable : Graph → ℕ → ℕ
or_reachable g C = together C (image (reachable g) C)

-- the kinds out of a path under the context kinds C
unfoldable pub out : Graph → ℕ → XPath → ℕ
out g C self = C
out g C (child t) = only t (image (child_kind g) C)
out g C any_child = image (child_kind g) C
out g C (slash p q) = out g (out g C p) q
out g C (slashes p q) = out g (or_reachable g (out g C p)) q
out g C (union p q) = together (out g C p) (out g C q)
out g C (filter p q) = out g C p

-- what adds steps to the end of a program
abbrev pub Adds : Type 0
Adds = List Operation → List Operation

unfoldable pub step : Operation → Adds
step o os = os ++ (o ∷ [])

-- the steps of a, then an operation on the last of them
unfoldable pub then : (ℕ → Operation) → Adds → Adds
then f a os = let p = a os in step (f (last p)) p

-- the steps of a, those of b, then an operation on the last of each
unfoldable pub then_both : (ℕ → ℕ → Operation) → Adds → Adds → Adds
then_both f a b os = let p = a os in then (f (last p)) b p

-- TABLE with the mask; LFP; SELF; UNION of LFP and SELF
unfoldable pub descend : ℕ → Adds
descend D = then_both Union (then Closure (step (Table D))) (step Itself)

unfoldable mutual
  pub path : Graph → ℕ → XPath → Adds
  path g C self = step Itself
  path g C (child t) = step (Table (out g C (child t)))
  path g C any_child = step (Table (out g C any_child))
  path g C (slash p q) = then_both Join (path g C p) (path g (out g C p) q)
  path g C (slashes p q) =
      then_both Join (then_both Join (path g C p) (descend (image (reachable g) (out g C p)))) (path g (or_reachable g (out g C p)) q)
  path g C (union p q) = then_both Union (path g C p) (path g C q)
  path g C (filter p q) = then_both Join (path g C p) (qualifier g (out g C p) q)

  pub qualifier : Graph → ℕ → Qualifier → Adds
  qualifier g C (reached p) = then Has (path g C p)
  qualifier g C (text_is c) = step (Text c)
  qualifier g C (is_not q) = then_both (λ a b. Diff b a) (qualifier g C q) (step Itself)
  qualifier g C (both q r) = then_both Both (qualifier g C q) (qualifier g C r)
  qualifier g C (either q r) = then_both Union (qualifier g C q) (qualifier g C r)

-- the program of a query, from the document node
unfoldable pub translated : Graph → XPath → List Operation
translated g p = path g (mask kinds (λ A. eqb A document)) p []

-- a step for each node of the query, five more per // and one more per not
unfoldable pub step_count : XPath → ℕ
step_count p = path_count 5 1 p
