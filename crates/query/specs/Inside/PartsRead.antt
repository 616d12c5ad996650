-- What the code keeps of a reading: no part of the query, only how many nodes are left.
use Rattle.std.specs.Prelude.{ℕ}
use Rattle.fields.specs.Read.{Read, Reader, got, refused}
use Rattle.query.specs.Qry.{Sort, part}

abbrev pub left_of : {A : Type 0} → Read (A × ℕ) → Read ℕ
left_of (got p at) = got p.1 at
left_of (refused r) = refused r

-- how many nodes a part leaves of n that are allowed; parts n deep are deep enough
unfoldable pub part_left : ℕ → Sort → ℕ → Reader ℕ
part_left k σ n s at = left_of (part k n σ n s at)
