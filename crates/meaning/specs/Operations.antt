-- Programs: the rows of the nine operations, a run, and the answer.
use Rattle.std.specs.Prelude.{ℕ, ◌-◌, ◌<◌, ◌≤◌, ◌≡◌, true, ◌&&◌, List, [], ◌∷◌, ◌++◌, eqb, get_or, length}
use Rattle.meaning.specs.declared.Operation.{Operation}
use Rattle.meaning.specs.declared.Operation.TheVariants.{Table, Itself, Text, Join, Union, Closure, Has, Diff, Both}
use Rattle.meaning.specs.Limits.{words}
use Rattle.meaning.specs.Sets.{listed, bit}
use Rattle.meaning.specs.Relations.{Relation, join, unite, has, difference, intersection, closure, at}
use Rattle.meaning.specs.Documents.{View, is_parent, text_test}

-- A program is the list of its operations; a step is counted from 0, and the last one is:
unfoldable pub last : List Operation → ℕ
last os = length os - 1

-- an operand is an earlier step, a mask names types below k, a number has 16 bits
unfoldable pub LegalOperation : ℕ → ℕ → Operation → Type 0
LegalOperation k s (Table m) = (t : ℕ) → bit m t ≡ true → t < k
LegalOperation k s Itself = Unit
LegalOperation k s (Text c) = c < words
LegalOperation k s (Join a b) = (a < s) × (b < s)
LegalOperation k s (Union a b) = (a < s) × (b < s)
LegalOperation k s (Closure a) = a < s
LegalOperation k s (Has a) = a < s
LegalOperation k s (Diff a b) = (a < s) × (b < s)
LegalOperation k s (Both a b) = (a < s) × (b < s)

pub record LegalProgram (limit k : ℕ) (os : List Operation) : Type 0 where
  pub some_step : 1 ≤ length os
  pub most_steps : length os ≤ limit
  pub operations : (s : ℕ) → s < length os → LegalOperation k s (get_or os s Itself)

-- the rows of an operation, from the results so far
unfoldable pub rows : View → List Relation → Operation → Relation
rows d rs (Table m) v w = is_parent d v w && bit m (d.kind w)
rows d rs Itself v w = eqb v w && d.there v
rows d rs (Text c) v w = eqb v w && text_test d c v
rows d rs (Join a b) v w = join d.size (at rs a) (at rs b) v w
rows d rs (Union a b) v w = unite (at rs a) (at rs b) v w
rows d rs (Closure a) v w = closure d.size (at rs a) v w
rows d rs (Has a) v w = has d.size (at rs a) v w
rows d rs (Diff a b) v w = difference (at rs a) (at rs b) v w
rows d rs (Both a b) v w = intersection (at rs a) (at rs b) v w

-- the results of the operations in turn, each by f from those before it, which are rs at first
unfoldable pub results : (List Relation → Operation → Relation) → List Relation → List Operation → List Relation
results f rs [] = rs
results f rs (o ∷ os) = results f (rs ++ (f rs o ∷ [])) os

-- the result of each step of a program
unfoldable pub run : View → List Operation → List Relation
run d os = results (rows d) [] os

-- the nodes that the last step relates node 0 to, ascending, none twice
unfoldable pub answer : View → List Operation → List ℕ
answer d os = listed d.size (λ w. at (run d os) (last os) 0 w)
