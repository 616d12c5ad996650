-- The work area: the steps' rooms, one behind the other, and in a room a row of bits for each node; bits are counted from
-- the lowest of a byte up, and bit w of the row of v is set where the step has (v, w), and no other.
use Rattle.std.specs.Prelude.{ℕ, ◌+◌, ◌*◌, ◌/◌, ◌%◌, List, get_or}
use Rattle.meaning.specs.declared.Operation.{Operation}
use Rattle.meaning.specs.Limits.{room_bytes}
use Rattle.meaning.specs.Sets.{bit, mask}
use Rattle.meaning.specs.Lists.{table}
use Rattle.meaning.specs.Relations.{Relation, at}
use Rattle.meaning.specs.Documents.{View}
use Rattle.meaning.specs.Operations.{run}
use Rattle.writing.specs.Lent.{over}

-- byte i of the room of a step whose rows are r, each width bytes
unfoldable pub room_byte : ℕ → Relation → ℕ → ℕ
room_byte width r i = mask 8 (λ b. r (i / width) (i % width * 8 + b))

-- byte i of the work area after the steps os
unfoldable pub work_byte : ℕ → View → List Operation → ℕ → ℕ
work_byte width d os i = room_byte width (at (run d os) (i / room_bytes width)) (i % room_bytes width)

-- (v, w) is in step s, as the work area holds it
abbrev pub joined : ℕ → List ℕ → ℕ → Relation
joined width work s v w = bit (get_or work (room_bytes width * s + width * v + w / 8) 0) (w % 8)

-- the first n bytes are f's, the others stay
unfoldable pub overwritten : (ℕ → ℕ) → ℕ → List ℕ → List ℕ
overwritten f n old = over 0 (table f 0 n) old
