-- Rows of bits: in the work area they stand in bytes, in hand in words, the lowest first in both.
use Rattle.std.specs.Prelude.{ℕ, ◌+◌, ◌*◌, ◌/◌, ◌%◌, ◌≤◌, ◌<◌, ◌≡◌, Bool, true, false, not, ◌&&◌, ◌||◌, List, eqb, ltb, length, get_or, take, drop, Option, Some, None}
use Rattle.meaning.specs.Limits.{row_bits, room_bytes}
use Rattle.meaning.specs.Sets.{any, bit, mask}
use Rattle.meaning.specs.Relations.{Relation}
use Rattle.rows.specs.declared.Mix.{Mix}
use Rattle.rows.specs.declared.Mix.TheVariants.{Either, Both, First}

-- bit w of parts that have size bits each
unfoldable pub bit_in : ℕ → List ℕ → ℕ → Bool
bit_in size parts w = bit (get_or parts (w / size) 0) (w % size)

-- bit w of a row in hand, and of bytes
abbrev pub in_row : List ℕ → ℕ → Bool
in_row row w = bit_in 64 row w

abbrev pub in_bytes : List ℕ → ℕ → Bool
in_bytes bytes w = bit_in 8 bytes w

-- a row's bits are those that pass
pub record Bits (row : List ℕ) (f : ℕ → Bool) : Type 0 where
  pub bits : (w : ℕ) → in_row row w ≡ f w

-- what passes f, and w where it is to
unfoldable pub including : (ℕ → Bool) → ℕ → Bool → ℕ → Bool
including f w there x = f x || (there && eqb w x)

-- what passes f, and what r relates to a number below size that passes which
unfoldable pub gathered : ℕ → Relation → (ℕ → Bool) → (ℕ → Bool) → ℕ → Bool
gathered size r which f w = f w || any size (λ u. which u && r u w)

-- how two rows are mixed, bit by bit
unfoldable pub mixes : Mix → Bool → Bool → Bool
mixes Either a b = a || b
mixes Both a b = a && b
mixes First a b = a && not b

-- two relations, mixed
unfoldable pub mixed_rows : Mix → Relation → Relation → Relation
mixed_rows how r s v w = mixes how (r v w) (s v w)

-- two words, mixed
unfoldable pub mixed_word : Mix → ℕ → ℕ → ℕ
mixed_word how x y = mask 64 (λ i. mixes how (bit x i) (bit y i))

-- so many bytes from a place on; a row of the work area is such a stretch
unfoldable pub stretch : ℕ → List ℕ → ℕ → List ℕ
stretch size bytes at = take size (drop at bytes)

-- the rows that follow each other from a place on
unfoldable pub rows_from : ℕ → List ℕ → ℕ → Relation
rows_from width bytes at v w = in_bytes (stretch width bytes (at + width * v)) w

-- the relation whose room starts at base: as many rows as a row has bits
unfoldable pub rows_at : ℕ → List ℕ → ℕ → Relation
rows_at width bytes base v w = ltb v (row_bits width) && in_bytes (stretch width bytes (base + width * v)) w

-- where the row of v stands, in the room at base: it ends inside the room
pub record Placed (width base v at : ℕ) : Type 0 where
  pub is : at ≡ base + width * v
  pub below : v < row_bits width
  pub inside : at + width ≤ base + room_bytes width

-- all stays but size bytes from a place on
pub record OthersStay (old new : List ℕ) (from size : ℕ) : Type 0 where
  pub same : length new ≡ length old
  pub before : (i : ℕ) → i < from → get_or new i 0 ≡ get_or old i 0
  pub after : (i : ℕ) → from + size ≤ i → get_or new i 0 ≡ get_or old i 0

-- the bits at a place, width bytes of them, are those that pass, and all else stays
pub record RowMade (width : ℕ) (old new : List ℕ) (at : ℕ) (f : ℕ → Bool) : Type 0 where
  pub bits : (w : ℕ) → in_bytes (stretch width new at) w ≡ f w
  pub others : OthersStay old new at width

-- w is put into the row at a place, where it is to be there, however wide the row is
pub record BitPut (old new : List ℕ) (at w : ℕ) (there : Bool) : Type 0 where
  pub row : (width : ℕ) → w < row_bits width → at + width ≤ length old → RowMade width old new at (including (in_bytes (stretch width old at)) w there)

-- t is the lowest bit of a number of so many bits that is set
pub record Lowest (limit number t : ℕ) : Type 0 where
  pub below : t < limit
  pub isset : bit number t ≡ true
  pub zeros : (i : ℕ) → i < t → bit number i ≡ false

-- r is the first number from some number on that passes, or the limit where none below it does
pub record Next (limit : ℕ) (f : ℕ → Bool) (from r : ℕ) : Type 0 where
  pub ahead : from ≤ r
  pub most : r ≤ limit
  pub none : (x : ℕ) → from ≤ x → x < r → f x ≡ false
  pub found : r < limit → f r ≡ true

-- the first number from some number on that passes, if one below the limit does
abbrev pub NextIs : (limit : ℕ) → (ℕ → Bool) → ℕ → Option ℕ → Type 0
NextIs limit f from (Some r) = (r < limit) × Next limit f from r
NextIs limit f from None = Next limit f from limit
