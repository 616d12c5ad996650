-- The steps of a program, announced one after the other: the start, the turn and the end.
use Prim.Native.Nat.{ℕ, ◌+◌, ◌<◌, ◌≤◌}
use mathlib.Core.Path.{◌≡◌, sym, ap, ◌∙◌}
use mathlib.Core.List.{List, [], ◌∷◌, ◌++◌, map, map-append}
use native.Mathlib.Numerals.{add-one}
use native.Mathlib.Omega.{arith}
use lib.ListN.{length, get_or, take, set, replicate, length-map}
use lib.Seq.{length-take-le, take-suc, get_or-take}
use Rattle.std.proofs.lemmas.List.{length-take}
use borrow.Author.Rules.{rules}
use Rattle.meaning.specs.declared.Graph.{Graph}
use Rattle.meaning.specs.declared.Operation.{Operation}
use Rattle.meaning.specs.declared.Step.{Step}
use Rattle.meaning.specs.declared.Program.{Program}
use Rattle.meaning.specs.Limits.{kinds, step_limit}
use Rattle.meaning.specs.Relations.{nothing}
use Rattle.meaning.specs.Operations.{LegalOperation, results}
use Rattle.meaning.specs.Announcements.{pairs, announced}
use Rattle.meaning.specs.Inside.Records.{operations_in}
use Rattle.meaning.proofs.Records.{number_at, operation_at}
use Rattle.masks.specs.declared.Announced.{Announced}
use Rattle.masks.specs.Inside.Pairs.{LegalUnder}
use Rattle.masks.specs.Announcement.{announcement, rel_of}
use Rattle.masks.proofs.Announcement.{nothing_on, sets_made, announced_shown, announcement_more}

-- the operations of the first i steps
abbrev pub first : Program → ℕ → List Operation
first p i = map (λ s. s.operation) (take i p.steps)

first_length : (p : Program) (i : ℕ) → i ≤ length p.steps → length (first p i) ≡ i
first_length p i l = length-map (take i p.steps) _ ∙ length-take-le i p.steps l

pub made_none : (g : Graph) (e : Announced) → length e.pairs ≡ kinds → rel_of e ≡ nothing → replicate step_limit e ≡ announcement g []
unfolding announcement announced results
made_none g e l h = ap (replicate step_limit) (sets_made nothing nothing_on e l h)

pub made_all : (g : Graph) (p : Program) (steps : List Announced) (i : ℕ) → i ≡ p.count → steps ≡ announcement g (first p i) → steps ≡ announcement g (operations_in p)
unfolding operations_in
made_all g p steps i e h = rw e at h

-- turn i, with the step as the loop reads it
module _ (g : Graph) (p : Program) (legal : LegalUnder g p) (whole : length (take p.count p.steps) ≡ p.count) (i : ℕ) (inside : i < p.count) (d : Step) where
  abbrev step : Step
  step = get_or (take p.count p.steps) i d

  step_is : step ≡ get_or p.steps i d
  step_is = get_or-take p.count p.steps i d inside

  enough : p.count ≤ length p.steps
  enough = omega (arith, whole, length-take p.count p.steps)

  -- its number is its place
  number_is : step.number ≡ i
  number_is = ap (λ (s : Step). s.number) step_is ∙ number_at p i d legal.numbered inside enough

  pub operands_there : (n : ℕ) (steps : List Announced) → n ≡ step.number → length steps ≡ step_limit → LegalOperation g.k (length (take n steps)) step.operation
  unfolding operations_in
  operands_there n steps e k =
      let many : length (take n steps) ≡ i = length-take-le n steps (omega (arith, number_is, legal.count)) ∙ e ∙ number_is in
      rw (many, step_is) (rw (operation_at p i d inside enough) at (legal.program.operations i (omega (arith, first_length p p.count enough))))

  pub made_more : (steps : List Announced) (n : ℕ) (a : Announced) → steps ≡ announcement g (first p i) → n ≡ step.number → length a.pairs ≡ kinds
      → rel_of a ≡ pairs g (map rel_of (take n steps)) step.operation → set steps n a ≡ announcement g (first p (i + 1))
  made_more steps n a h e k made =
      let os : List Operation = first p i in
      let many : length os ≡ i = first_length p i (omega (arith, enough)) in
      let place : n ≡ length os = e ∙ number_is ∙ sym many in
      let shown : rel_of a ≡ pairs g (announced g os) step.operation = rw (place, h, announced_shown g legal.graph os) at made in
      let next : first p (i + 1) ≡ os ++ (step.operation ∷ []) = rw (add-one i, take-suc p.steps i d (omega (arith, enough)), step_is) (map-append _ (take i p.steps) _) in
      rw (next, place, h) (announcement_more g legal.graph os step.operation a (omega (arith, legal.count)) k shown)

pub ruleset turns = (made_none, made_more, made_all, operands_there, rules)
