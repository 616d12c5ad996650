-- What a writer of steps asks for, and which steps it adds to the program in a buffer.
use Rattle.std.specs.Prelude.{ℕ, ◌+◌, ◌*◌, ◌<◌, ◌≤◌, ◌≡◌, List, length}
use Rattle.meaning.specs.declared.Operation.{Operation}
use Rattle.meaning.specs.Limits.{words, step_limit}
use Rattle.meaning.specs.Operations.{last}
use Rattle.meaning.specs.Translation.{Adds, then}
use Rattle.rel.specs.Rel.{steps_bytes}
use Rattle.writing.specs.Lent.{over}
use Rattle.steps.specs.declared.Place.{Place}
use Rattle.steps.specs.declared.Operator.{Operator}

-- an operation with its operands
abbrev pub applied : Operator → ℕ → ℕ → Operation
applied Operator.Join a b = Operation.Join a b
applied Operator.Union a b = Operation.Union a b
applied Operator.Both a b = Operation.Both a b
applied Operator.Diff a b = Operation.Diff b a
applied Operator.Has a b = Operation.Has b
applied Operator.Closure a b = Operation.Closure b

-- the steps of b, then an operation on what was last before them and what is last of them
unfoldable pub onto : (ℕ → ℕ → Operation) → Adds → Adds
onto f b os = then (f (last os)) b os

-- a buffer holds n steps, behind the header and their number; all else is as it was in base
pub record Holds (base : List ℕ) (os : List Operation) (n : ℕ) (out : List ℕ) : Type 0 where
  pub header : 6 ≤ length base
  pub there : out ≡ over 6 (steps_bytes os) base
  pub count : n ≡ length os

-- whichever n steps the buffer held, it holds m now, which a made of them
pub record WritesSteps (a : Adds) (n m : ℕ) (old new : List ℕ) : Type 0 where
  pub writes : (base : List ℕ) (os : List Operation) → Holds base os n old → Holds base (a os) m new

-- behind n steps those of a are written, so many; the query goes on at next, under the kinds C
pub record Goes (a : Adds) (more C next : ℕ) (old new : List ℕ) (n : ℕ) (to : Place) : Type 0 where
  pub writes : WritesSteps a n to.steps old new
  pub steps : to.steps ≡ n + more
  pub kinds : to.kinds ≡ C
  pub at : to.at ≡ next
  pub same : length new ≡ length old

-- so many steps behind n are not too many, and the buffer has room for them
pub record StepsFit (more room n : ℕ) : Type 0 where
  pub few : n + more ≤ step_limit
  pub fits : 6 + 3 * (n + more) ≤ room

-- so many, of which the first has a mask of types
pub record Masked (more room types n : ℕ) : Type 0 where
  pub mask : types < words
  pub enough : StepsFit more room n

-- so many behind the right place, with the last step of each place as operands
pub record Behind (more room : ℕ) (left right : Place) : Type 0 where
  pub some : 1 ≤ left.steps
  pub later : left.steps ≤ right.steps
  pub enough : StepsFit more room right.steps

-- the five behind a left part of //, the first with these types as mask
pub record Descending (types room : ℕ) (left : Place) : Type 0 where
  pub mask : types < words
  pub behind : Behind 5 room left left
