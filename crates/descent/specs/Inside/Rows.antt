-- The table of codes, and the steps that each row stands for.
use Rattle.std.specs.Prelude.{ℕ, ◌+◌, ◌*◌, ◌-◌, ◌^◌, ◌<◌, ◌≤◌, List, eqb, length, get_or, drop}
use Rattle.meaning.specs.declared.Graph.{Graph}
use Rattle.meaning.specs.declared.Operation.{Operation}
use Rattle.meaning.specs.Limits.{kinds}
use Rattle.meaning.specs.Graphs.{LegalGraph, child_kind, reachable}
use Rattle.meaning.specs.Translation.{Adds, image, only, together, or_reachable, step, descend}
use Rattle.fields.specs.Read.{pick}
use Rattle.steps.specs.declared.Place.{Place}
use Rattle.steps.specs.declared.Operator.{Operator}
use Rattle.steps.specs.Inside.Writes.{applied, onto, Goes, StepsFit, Behind}
use Rattle.descent.specs.declared.rows.Leaf.{Leaf}
use Rattle.descent.specs.declared.rows.Ending.{Ending}
use Rattle.descent.specs.declared.rows.Second.{Second}
use Rattle.descent.specs.declared.rows.Row.{Row}

unfoldable pub row_of : ℕ → Row
row_of c =
    pick (eqb c 0x01) (Row.Leaf Leaf.Itself)
    (pick (eqb c 0x02) (Row.Leaf Leaf.Child)
    (pick (eqb c 0x03) (Row.Leaf Leaf.Children)
    (pick (eqb c 0x04) (Row.Two Second.After Operator.Join)
    (pick (eqb c 0x05) (Row.Two Second.Deeper Operator.Join)
    (pick (eqb c 0x06) (Row.Two Second.Beside Operator.Union)
    (pick (eqb c 0x07) (Row.Two Second.After Operator.Join)
    (pick (eqb c 0x11) (Row.One Ending.Has)
    (pick (eqb c 0x12) (Row.Leaf Leaf.Text)
    (pick (eqb c 0x13) (Row.One Ending.Not)
    (pick (eqb c 0x14) (Row.Two Second.After Operator.Both)
    (Row.Two Second.After Operator.Union)))))))))))

-- A leaf whose fields stand at a place, the bytes from there on being xs: the byte behind them, the kinds there, and its step.
abbrev pub leaf_end : Leaf → ℕ → ℕ
leaf_end Leaf.Itself at = at
leaf_end Leaf.Child at = at + 1
leaf_end Leaf.Children at = at
leaf_end Leaf.Text at = at + 2

abbrev pub leaf_kinds : Leaf → Graph → List ℕ → ℕ → ℕ
leaf_kinds Leaf.Itself g xs C = C
leaf_kinds Leaf.Child g xs C = only (get_or xs 0 0) (image (child_kind g) C)
leaf_kinds Leaf.Children g xs C = image (child_kind g) C
leaf_kinds Leaf.Text g xs C = C

abbrev pub leaf_step : Leaf → Graph → List ℕ → ℕ → Operation
leaf_step Leaf.Itself g xs C = Operation.Itself
leaf_step Leaf.Child g xs C = Operation.Table (leaf_kinds Leaf.Child g xs C)
leaf_step Leaf.Children g xs C = Operation.Table (leaf_kinds Leaf.Children g xs C)
leaf_step Leaf.Text g xs C = Operation.Text (get_or xs 0 0 * 256 + get_or xs 1 0)

-- a type is below k
abbrev pub Typed : Leaf → ℕ → List ℕ → Type 0
Typed Leaf.Itself k xs = Unit
Typed Leaf.Child k xs = get_or xs 0 0 < k
Typed Leaf.Children k xs = Unit
Typed Leaf.Text k xs = Unit

-- the fields are there, and there is room for the step
pub record LeafDue (leaf : Leaf) (g : Graph) (s : List ℕ) (room : ℕ) (from : Place) : Type 0 where
  pub graph : LegalGraph g
  pub short : length s < 128
  pub here : from.at ≤ length s
  pub inside : leaf_end leaf from.at ≤ length s
  pub type : Typed leaf g.k (drop from.at s)
  pub enough : StepsFit 1 room from.steps

-- the step is written
abbrev pub Leads : Leaf → Graph → List ℕ → List ℕ → List ℕ → Place → Place → Type 0
Leads leaf g s old new from to = let xs = drop from.at s in let C = from.kinds in
    Goes (step (leaf_step leaf g xs C)) 1 (leaf_kinds leaf g xs C) (leaf_end leaf from.at) old new from.steps to

-- Behind one part.
abbrev pub ending_steps : Ending → Adds
ending_steps Ending.Has = onto (applied Operator.Has) (λ os. os)
ending_steps Ending.Not = onto (applied Operator.Diff) (step Operation.Itself)

abbrev pub ending_count : Ending → ℕ
ending_count Ending.Has = 1
ending_count Ending.Not = 2

-- these are written, and the kinds are those of the whole
abbrev pub Finishes : Ending → ℕ → List ℕ → List ℕ → Place → Place → Type 0
Finishes ending C old new inner to = Goes (ending_steps ending) (ending_count ending) C inner.at old new inner.steps to

-- Between two parts, of which the first leads to the kinds K: steps, and the kinds of the second, where the whole stands under C.
abbrev pub between_steps : Second → Graph → ℕ → Adds
between_steps Second.After g K os = os
between_steps Second.Beside g K os = os
between_steps Second.Deeper g K os = onto (applied Operator.Join) (descend (image (reachable g) K)) os

abbrev pub between_count : Second → ℕ
between_count Second.After = 0
between_count Second.Beside = 0
between_count Second.Deeper = 5

abbrev pub second_kinds : Second → Graph → ℕ → ℕ → ℕ
second_kinds Second.After g C K = K
second_kinds Second.Beside g C K = C
second_kinds Second.Deeper g C K = or_reachable g K

-- behind the first part there is room for the steps between
pub record Between (second : Second) (g : Graph) (room : ℕ) (left : Place) : Type 0 where
  pub graph : LegalGraph g
  pub kinds : left.kinds < 2 ^ kinds
  pub behind : Behind (between_count second) room left left

-- these are written, and the second part begins
abbrev pub Begins : Second → Graph → ℕ → List ℕ → List ℕ → Place → Place → Type 0
Begins second g C old new left to = let K = left.kinds in Goes (between_steps second g K) (between_count second) (second_kinds second g C K) left.at old new left.steps to

-- Behind both, of which the second leads to the kinds L.
abbrev pub led : Second → ℕ → ℕ → ℕ
led Second.After K L = L
led Second.Beside K L = together K L
led Second.Deeper K L = L

-- there is room for the operation
pub record Ended (K room : ℕ) (begun right : Place) : Type 0 where
  pub first : K < 2 ^ kinds
  pub second : right.kinds < 2 ^ kinds
  pub behind : Behind 1 room begun right

-- it is written
abbrev pub Combines : Second → Operator → ℕ → List ℕ → List ℕ → Place → Place → Place → Type 0
Combines second operator K old new begun right to =
    Goes (step (applied operator (begun.steps - 1) (right.steps - 1))) 1 (led second K right.kinds) right.at old new right.steps to
