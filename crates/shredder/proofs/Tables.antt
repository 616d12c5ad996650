-- A table, and the tables of all types: one law for each need of the functions that write them.
use Prim.Native.Nat.{ℕ, suc, ◌+◌, ◌-◌, ◌≤◌, ◌<◌}
use mathlib.Core.List.{List, [], ◌∷◌, ◌++◌}
use mathlib.Core.Path.{◌≡◌, refl}
use native.Mathlib.Numerals.{add-one}
use native.Mathlib.Omega.{arith}
use lib.Dec.{eqb}
use lib.ListN.{length}
use Rattle.std.specs.List.{filter}
use Rattle.std.proofs.lemmas.Bool.Decides.{nat_tests}
use Rattle.meaning.specs.declared.Element.{Element}
use Rattle.edg.specs.Edg.{rows_of, table_bytes, tables_of}
use Rattle.writing.specs.declared.Writer.{Writer}
use Rattle.writing.proofs.Toward.{Toward, toward_none, toward_room, toward_more, toward_all}
use Rattle.shredder.specs.Inside.RowsFit.{RowsFit}

-- A table has as many rows as there are elements of its type.
pub rows_count : (t i : ℕ) (es : List Element) → length (filter (λ e. eqb e.kind t) es) ≡ length (rows_of t i es)
unfolding rows_of
rows_count t i [] = refl
rows_count t i (e ∷ es) = let more = rows_count t (suc i) es in grind (arith, nat_tests)

-- The tables from type t on.
module _ (es : List Element) (k t : ℕ) where
  pub tables_next : t < k → tables_of es t (k - t) ≡ table_bytes (rows_of t 1 es) ++ tables_of es (t + 1) (k - (t + 1))
  unfolding tables_of
  tables_next l = let left : k - t ≡ suc (k - suc t) = omega arith in rw (left, add-one t)

  pub tables_last : k ≤ t → tables_of es t (k - t) ≡ []
  unfolding tables_of
  tables_last l = let left : k - t ≡ 0 = omega arith in rw left

  pub table_fits : {old w : Writer} → RowsFit es (tables_of es 0 k) old → Toward (tables_of es 0 k) old (tables_of es t (k - t)) w → t < k → RowsFit es (table_bytes (rows_of t 1 es)) w
  table_fits start so_far l = record { most = start.most; room = toward_room (table_bytes (rows_of t 1 es)) (tables_of es (t + 1) (k - (t + 1))) so_far (tables_next l) }

pub ruleset laws = (toward_none, toward_more, toward_all, tables_next, tables_last, table_fits)
