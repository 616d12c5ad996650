-- Behind the only part HAS is of the last step, and there is no other.
use Prim.Native.Nat.{ℕ, ◌-◌}
use mathlib.Core.Path.{◌≡◌}
use mathlib.Core.List.{List}
use Rattle.meaning.specs.declared.Operation.TheVariants.{Has}
use Rattle.meaning.specs.Translation.{step}
use Rattle.steps.specs.declared.Place.{Place}
use Rattle.steps.specs.declared.Operator.{Operator}
use Rattle.steps.specs.Inside.Writes.{applied, Goes}
use Rattle.steps.proofs.Laws.{stays, onto_goes}
use Rattle.descent.specs.declared.rows.Ending.{Ending}
use Rattle.descent.specs.Inside.Rows.{Finishes}

module _ {ending : Ending} {K : ℕ} {old new : List ℕ} (inner : Place) {to : Place} where
  pub has_ends : ending ≡ Ending.Has → Goes (step (Has (inner.steps - 1))) 1 K inner.at old new inner.steps to → Finishes ending K old new inner to
  has_ends e p = rw e (onto_goes (stays inner K old) (applied Operator.Has) p)
