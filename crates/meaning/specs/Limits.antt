-- The numbers of docs/RULES.md, in one place. Where one may change, definitions and laws take it as a parameter.
use Rattle.std.specs.Prelude.{ℕ, ◌*◌}
use Rattle.meaning.specs.declared.Sizes.{Sizes}

-- types are numbered below this
abbrev pub types : ℕ
types = 16

-- the kind of the document node
abbrev pub document : ℕ
document = 16

-- a kind is a type, or the document node's
abbrev pub kinds : ℕ
kinds = 17

-- text numbers and masks have 16 bits
abbrev pub words : ℕ
words = 65536

-- what depends on how many elements a document may have: that number, and the bytes of a row of bits and of a node's number
abbrev pub small : Sizes
small = record { elements = 127; row = 16; number = 1 }

-- elements of a document
abbrev pub element_limit : ℕ
element_limit = small.elements

-- the bits of a row of so many bytes, one for each node; a room has as many rows
abbrev pub row_bits : ℕ → ℕ
row_bits width = 8 * width

abbrev pub room_bytes : ℕ → ℕ
room_bytes width = width * row_bits width

-- nodes of a query
abbrev pub query_limit : ℕ
query_limit = 24

-- steps of a program
abbrev pub step_limit : ℕ
step_limit = 24
