-- A relation of numbers to themselves.
use Rattle.std.specs.Prelude.{ℕ, Bool, ◌&&◌, eqb}
use Rattle.meaning.specs.Relations.{Relation}

-- each number that passes, to itself
unfoldable pub diagonal : (ℕ → Bool) → Relation
diagonal f v w = eqb v w && f v
