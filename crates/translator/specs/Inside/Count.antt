-- Counting the steps of a query over its bytes, node by node.
use Rattle.std.specs.Prelude.{ℕ, zero, suc, ◌+◌, ◌*◌, ◌<◌, ◌≤◌, ◌≡◌, List, [], ◌∷◌, eqb, length, drop, Option, Some, None}
use Rattle.meaning.specs.Limits.{step_limit}
use Rattle.fields.specs.Read.{pick}

-- the bytes that a node has behind its code
abbrev pub fields_of : ℕ → ℕ
fields_of c = pick (eqb c 0x02) 1 (pick (eqb c 0x12) 2 0)

-- the steps of a node besides those of its parts: five more for //, one more for not
abbrev pub own_steps : ℕ → ℕ
own_steps c = pick (eqb c 0x05) 6 (pick (eqb c 0x13) 2 1)

-- the steps of all nodes, after so many bytes that begin none
unfoldable pub steps_in : ℕ → List ℕ → ℕ
steps_in n [] = 0
steps_in zero (c ∷ s) = own_steps c + steps_in (fields_of c) s
steps_in (suc n) (c ∷ s) = steps_in n s

-- the steps behind the header are n, which are not too many; each node has three bytes at most
pub record CountedSteps (s : List ℕ) (n : ℕ) : Type 0 where
  pub all : n ≡ steps_in 0 (drop 5 s)
  pub few : n ≤ step_limit
  pub short : length s ≤ 5 + 3 * n

-- the steps are counted, or they are too many
abbrev pub StepsCounted : List ℕ → Option ℕ → Type 0
StepsCounted s (Some n) = CountedSteps s n
StepsCounted s None = step_limit < steps_in 0 (drop 5 s)
