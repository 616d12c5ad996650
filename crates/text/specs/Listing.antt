-- The text of a listing. Its first line is `selected` with how many nodes follow, and each of them has a line: its number,
-- its type, its text number. A refusal is one line, `refused` with its number. Numbers are decimal and parted by a space, and
-- byte 10 closes a line.
use Rattle.std.specs.Prelude.{ℕ, zero, suc, ◌+◌, ◌*◌, ◌/◌, ◌%◌, List, [], ◌∷◌, ◌++◌, ltb, length}
use Rattle.meaning.specs.Documents.{View}
use Rattle.fields.specs.Read.{pick}
use Rattle.fields.specs.Write.{byte_of}

-- the digits of n, the highest first; the first number is at least how many there are
unfoldable pub digits : ℕ → ℕ → List ℕ
digits zero n = []
digits (suc f) n = pick (ltb n 10) [] (digits f (n / 10)) ++ byte_of (48 + n % 10)

unfoldable pub decimal : ℕ → List ℕ
decimal n = digits (suc n) n

abbrev pub space : List ℕ
space = byte_of 32

abbrev pub end_of_line : List ℕ
end_of_line = byte_of 10

-- `selected`
abbrev pub selected_word : List ℕ
selected_word = 115 ∷ 101 ∷ 108 ∷ 101 ∷ 99 ∷ 116 ∷ 101 ∷ 100 ∷ []

-- `selected` and the count
unfoldable pub first_line : ℕ → List ℕ
first_line count = selected_word ++ space ++ decimal count ++ end_of_line

-- the document node's line is 0 16 0
unfoldable pub line : View → ℕ → List ℕ
line d v = decimal v ++ space ++ decimal (d.kind v) ++ space ++ decimal (d.text v) ++ end_of_line

unfoldable pub lines : View → List ℕ → List ℕ
lines d [] = []
lines d (v ∷ vs) = line d v ++ lines d vs

unfoldable pub listing : View → List ℕ → List ℕ
listing d nodes = first_line (length nodes) ++ lines d nodes

-- the room for a listing where there are so many nodes: 13 bytes for each line that there can be, numbers of three digits
abbrev pub listing_room : ℕ → ℕ
listing_room nodes = 13 * (nodes + 1)

-- `refused`
abbrev pub refused_word : List ℕ
refused_word = 114 ∷ 101 ∷ 102 ∷ 117 ∷ 115 ∷ 101 ∷ 100 ∷ []

-- a refusal: `refused` and its number alone
unfoldable pub refusal : ℕ → List ℕ
refusal number = refused_word ++ space ++ decimal number ++ end_of_line
