-- What is known of a row that was read.
use Rattle.std.specs.Prelude.{ℕ, ◌≤◌, ◌<◌}
use Rattle.edg.specs.declared.Row.{Row}

-- a row that may stand in a table, as far as the row alone shows
pub record GoodRow (limit : ℕ) (r : Row) : Type 0 where
  pub positive : 1 ≤ r.number
  pub most : r.number ≤ limit
  pub falling : r.element.parent < r.number
