-- Relations on kinds, and what the readers hand on.
use Rattle.std.specs.Prelude.{ℕ, ◌≤◌, Bool, ◌&&◌}
use Rattle.meaning.specs.declared.Graph.{Graph}
use Rattle.meaning.specs.declared.Program.{Program}
use Rattle.meaning.specs.Limits.{kinds, step_limit}
use Rattle.meaning.specs.Sets.{any}
use Rattle.meaning.specs.Relations.{Relation}
use Rattle.meaning.specs.Graphs.{LegalGraph}
use Rattle.meaning.specs.Operations.{LegalProgram}
use Rattle.meaning.specs.Inside.Records.{operations_in, Numbered}

-- what r joins the kinds that pass to
unfoldable pub image_of : Relation → (ℕ → Bool) → ℕ → Bool
image_of r f B = any kinds (λ K. f K && r K B)

-- a graph and a program as the readers hand them on
pub record LegalUnder (g : Graph) (p : Program) : Type 0 where
  pub graph : LegalGraph g
  pub program : LegalProgram step_limit g.k (operations_in p)
  pub count : p.count ≤ step_limit
  pub numbered : Numbered p
