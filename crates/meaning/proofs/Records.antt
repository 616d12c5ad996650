-- What a record was made of is what it holds.
use Prim.Native.Nat.{ℕ, zero, suc, ◌+◌, ◌≤◌, ◌<◌}
use mathlib.Core.Path.{◌≡◌, refl, ap, ◌∙◌}
use mathlib.Core.List.{List, [], ◌∷◌, map}
use native.Mathlib.Omega.{arith}
use lib.ListN.{length, get_or, take, get_or-append, get_or-map}
use lib.Seq.{take_at, get_or-take, drop-cons}
use Rattle.meaning.specs.declared.Operation.{Operation}
use Rattle.meaning.specs.declared.Operation.TheVariants.{Itself}
use Rattle.meaning.specs.declared.Program.{Program}
use Rattle.meaning.specs.declared.Step.{Step}
use Rattle.meaning.specs.Inside.Records.{blank_step, steps_from, program_of, operations_in, Numbered}

-- what stands at a place of a list does not depend on what would stand past its end
pub at_any : {A : Type 0} (xs : List A) (i : ℕ) (d e : A) → i < length xs → get_or xs i d ≡ get_or xs i e
at_any xs i d e l = cc (drop-cons xs i d l, drop-cons xs i e l)

pub steps_length : (s : ℕ) (os : List Operation) → length (steps_from s os) ≡ length os
unfolding steps_from
steps_length s [] = refl
steps_length s (o ∷ os) = ap suc (steps_length (suc s) os)

steps_hold : (s : ℕ) (os : List Operation) → map (λ x. x.operation) (steps_from s os) ≡ os
unfolding steps_from
steps_hold s [] = refl
steps_hold s (o ∷ os) = ap (λ l. o ∷ l) (steps_hold (suc s) os)

pub program_holds : (os : List Operation) → operations_in (program_of os) ≡ os
unfolding operations_in program_of
program_holds os = ap (map (λ x. x.operation)) (take_at (steps_from 0 os) _ (length os) (steps_length 0 os)) ∙ steps_hold 0 os

steps_numbered : (s : ℕ) (os : List Operation) (i : ℕ) → i < length os → (get_or (steps_from s os) i blank_step).number ≡ s + i
unfolding steps_from
steps_numbered s [] i l = absurd (omega arith)
steps_numbered s (o ∷ os) zero l = omega arith
steps_numbered s (o ∷ os) (suc i) l = omega (arith, steps_numbered (suc s) os i (omega arith))

pub program_numbered : (os : List Operation) → Numbered (program_of os)
unfolding program_of
program_numbered os = record {
  places = λ s l.
      ap (λ x. x.number) (get_or-append (steps_from 0 os) _ blank_step s (omega (arith, steps_length 0 os)))
      ∙ omega (arith, steps_numbered 0 os s l);
}

-- the number of a step, as it is read
pub number_at : (p : Program) (i : ℕ) (d : Step) → Numbered p → i < p.count → p.count ≤ length p.steps → (get_or p.steps i d).number ≡ i
number_at p i d numbered l w = ap (λ x. x.number) (at_any p.steps i d blank_step (omega arith)) ∙ numbered.places i l

-- an operation of a program, as it is read of its steps
pub operation_at : (p : Program) (i : ℕ) (d : Step) → i < p.count → p.count ≤ length p.steps → get_or (operations_in p) i Itself ≡ (get_or p.steps i d).operation
unfolding operations_in
operation_at p i d l w =
    get_or-map (λ s. s.operation) (take p.count p.steps) i blank_step
    ∙ rw (get_or-take p.count p.steps i blank_step, at_any p.steps i blank_step d (omega arith))
