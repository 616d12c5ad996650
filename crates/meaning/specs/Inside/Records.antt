-- How the code's record holds a list of operations: in the first places, the others blank.
use Rattle.std.specs.Prelude.{ℕ, suc, ◌-◌, ◌<◌, ◌≡◌, List, [], ◌∷◌, ◌++◌, map, length, get_or, take, replicate}
use Rattle.meaning.specs.declared.Operation.{Operation}
use Rattle.meaning.specs.declared.Operation.TheVariants.{Itself}
use Rattle.meaning.specs.declared.Step.{Step}
use Rattle.meaning.specs.declared.Program.{Program}
use Rattle.meaning.specs.Limits.{step_limit}

abbrev pub blank_step : Step
blank_step = record { number = 0; operation = Itself }

-- the operations as steps, numbered from s on
unfoldable pub steps_from : ℕ → List Operation → List Step
steps_from s [] = []
steps_from s (o ∷ os) = record { number = s; operation = o } ∷ steps_from (suc s) os

unfoldable pub program_of : List Operation → Program
program_of os = record { count = length os; steps = steps_from 0 os ++ replicate (step_limit - length os) blank_step }

unfoldable pub operations_in : Program → List Operation
operations_in p = map (λ s. s.operation) (take p.count p.steps)

-- the number beside each operation is its step's place
pub record Numbered (p : Program) : Type 0 where
  pub places : (s : ℕ) → s < p.count → (get_or p.steps s blank_step).number ≡ s
