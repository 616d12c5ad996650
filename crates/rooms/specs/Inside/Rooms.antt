-- Rooms of rows: what the functions over rooms find in the work area and leave there. A row is width bytes, and a room has
-- as many rows as a row has bits.
use Rattle.std.specs.Prelude.{ℕ, ◌+◌, ◌≤◌, ◌<◌, ◌≡◌, Bool, true, false, ◌&&◌, ◌||◌, cond, List, eqb, ltb, length}
use Rattle.meaning.specs.declared.Element.{Element}
use Rattle.meaning.specs.Limits.{small, row_bits, room_bytes}
use Rattle.meaning.specs.Sets.{any}
use Rattle.meaning.specs.Relations.{Relation}
use Rattle.meaning.specs.Documents.{View, is_element}
use Rattle.rows.specs.declared.Mix.TheVariants.{First}
use Rattle.rows.specs.Inside.Rows.{in_row, gathered, mixes, rows_at, OthersStay}
use Rattle.rooms.specs.declared.room.Room.{Room}
use Rattle.rooms.specs.declared.relations.Test.{Test}
use Rattle.rooms.specs.declared.relations.Test.TheVariants.{Always, Text, Related}
use Rattle.rooms.specs.declared.relations.Way.{Way}
use Rattle.rooms.specs.declared.relations.Way.TheVariants.{Mixed, Joined}

-- a row has so many bytes: there is one size today
abbrev pub RowWidth : ℕ → Type 0
RowWidth width = width ≡ small.row

-- the rows of r that start below size
unfoldable pub up_to : ℕ → Relation → Relation
up_to size r v w = ltb v size && r v w

-- the rows of r that end below size
unfoldable pub columns : ℕ → Relation → Relation
columns size r v w = ltb w size && r v w

-- r, where the row of v is f
unfoldable pub changed : ℕ → (ℕ → Bool) → Relation → Relation
changed v f r u w = cond (eqb u v) (f w) (r u w)

-- r, with (v, w) where it is to be there
unfoldable pub added : ℕ → ℕ → Bool → Relation → Relation
added v w there r u x = r u x || (there && (eqb v u && eqb w x))

-- the numbers below n from which r has a row that ends below limit
unfoldable pub starting : ℕ → ℕ → Relation → ℕ → Bool
starting limit n r u = ltb u n && any limit (r u)

-- a number passes a test, of what a document shows or of a room
unfoldable pub passing : ℕ → View → List ℕ → Test → ℕ → Bool
passing width d bytes Always v = d.there v
passing width d bytes (Text number) v = is_element d v && eqb (d.text v) number
passing width d bytes (Related a) v = any d.size (rows_at width bytes a.base v)

-- Two relations, mixed; or joined, through numbers below limit that are there.
unfoldable pub combined : ℕ → Way → Relation → Relation → Relation
combined limit (Mixed how) r s v w = mixes how (r v w) (s v w)
combined limit (Joined there) r s v w = any limit (λ u. (r v u && in_row there.words u) && s u w)

-- The room at base is inside the work area, which has so many bytes; those at a and b, of which it is made, stand before
-- it; and it relates numbers below size.
pub record Places (width bytes base a b size : ℕ) : Type 0 where
  pub sized : RowWidth width
  pub room : base + room_bytes width ≤ bytes
  pub left : a + room_bytes width ≤ base
  pub right : b + room_bytes width ≤ base
  pub few : size ≤ row_bits width

-- a room that the test reads ends before a place, and a row has a bit for each node
pub record Testable (width end : ℕ) (es : List Element) (test : Test) : Type 0 where
  pub sized : RowWidth width
  pub before : (a : Room) → test ≡ Related a → a.base + room_bytes width ≤ end
  pub few : length es < row_bits width

-- the room at base holds r, and all else stays
pub record RoomMade (width : ℕ) (old new : List ℕ) (base : ℕ) (r : Relation) : Type 0 where
  pub rows : (v w : ℕ) → rows_at width new base v w ≡ r v w
  pub others : OthersStay old new base (room_bytes width)

-- The row of v in the room at base has taken in the rows of those that the room at a relates v to; grew says whether it
-- has more for it.
pub record TakenIn (width : ℕ) (old new : List ℕ) (base a v : ℕ) (grew : Bool) : Type 0 where
  pub row : RoomMade width old new base (changed v (gathered (row_bits width) (rows_at width old base) (rows_at width old a v) (rows_at width old base v)) (rows_at width old base))
  pub more : grew ≡ any (row_bits width) (λ w. mixes First (rows_at width new base v w) (rows_at width old base v w))

-- From `from` on each row of `before` below size has taken in those that r relates its number to, as they were; of higher
-- numbers as they are now; and nothing else than such steps lead to.
pub record Grown (size : ℕ) (r before after : Relation) (from : ℕ) : Type 0 where
  pub keeps : (v w : ℕ) → before v w ≡ true → after v w ≡ true
  pub takes : (v u w : ℕ) → from ≤ v → v < size → r v u ≡ true → before u w ≡ true → after v w ≡ true
  pub settles : (v u w : ℕ) → from ≤ v → v < size → v < u → r v u ≡ true → after u w ≡ true → after v w ≡ true
  pub sound : (p : Relation) → ((v u w : ℕ) → r v u ≡ true → p u w ≡ true → p v w ≡ true)
      → ((v w : ℕ) → before v w ≡ true → p v w ≡ true) → (v w : ℕ) → after v w ≡ true → p v w ≡ true

-- So the room at base has grown by the room at a, and all else stays; where no sweep is wanted again, it is closed under
-- the steps of the room at a.
pub record Swept (width size : ℕ) (old new : List ℕ) (base a : ℕ) (again : Bool) : Type 0 where
  pub rows : Grown size (rows_at width old a) (rows_at width old base) (rows_at width new base) 0
  pub closed : again ≡ false → (v u w : ℕ) → v < size → rows_at width old a v u ≡ true → rows_at width new base u w ≡ true → rows_at width new base v w ≡ true
  pub others : OthersStay old new base (room_bytes width)

-- what closing asks: the room at a relates numbers below size, of which there are some
pub record Closable (width : ℕ) (bytes : List ℕ) (base a size : ℕ) : Type 0 where
  pub places : Places width (length bytes) base a a size
  pub some : 1 ≤ size
  pub on : (v w : ℕ) → rows_at width bytes a v w ≡ true → (v < size) × (w < size)
