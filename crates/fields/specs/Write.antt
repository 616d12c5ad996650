-- Writing a file: the bytes of each field, in file order.
use Rattle.std.specs.Prelude.{ℕ, ◌/◌, ◌%◌, ◌<◌, List, [], ◌∷◌, get_or}

-- every number is a byte, as it is with any bytes that a caller lends
abbrev pub Bytes : List ℕ → Type 0
Bytes s = (i : ℕ) → get_or s i 0 < 256

-- a number of one byte
abbrev pub byte_of : ℕ → List ℕ
byte_of n = n ∷ []

-- a number of 16 bits, big-endian
abbrev pub word_of : ℕ → List ℕ
word_of n = n / 256 ∷ n % 256 ∷ []

-- a file begins with its mark and its version
abbrev pub header_of : ℕ → ℕ → ℕ → ℕ → List ℕ
header_of a b c version = a ∷ b ∷ c ∷ word_of version
