-- What is written of numbers that fit are bytes.
use Prim.Native.Nat.{ℕ, zero, suc, ◌/◌, ◌%◌, ◌<◌}
use mathlib.Core.List.{List, [], ◌∷◌, ◌++◌}
use native.Mathlib.Omega.{arith}
use Rattle.meaning.specs.Limits.{words}
use Rattle.fields.specs.Write.{Bytes, byte_of, word_of, header_of}

pub bytes_more : (x : ℕ) (xs : List ℕ) → x < 256 → Bytes xs → Bytes (x ∷ xs)
bytes_more x xs l p zero = l
bytes_more x xs l p (suc i) = p i

pub bytes_append : (xs ys : List ℕ) → Bytes xs → Bytes ys → Bytes (xs ++ ys)
bytes_append [] ys p q = q
bytes_append (x ∷ xs) ys p q = bytes_more x (xs ++ ys) (p zero) (bytes_append xs ys (λ i. p (suc i)) q)

pub bytes_none : Bytes []
bytes_none i = omega arith

pub bytes_byte : (x : ℕ) → x < 256 → Bytes (byte_of x)
bytes_byte x l = bytes_more x [] l bytes_none

pub bytes_word : (x : ℕ) → x < words → Bytes (word_of x)
bytes_word x l = bytes_more (x / 256) (byte_of (x % 256)) (omega arith) (bytes_byte (x % 256) (omega arith))

pub bytes_header : (a b c v : ℕ) → a < 256 → b < 256 → c < 256 → v < words → Bytes (header_of a b c v)
bytes_header a b c v l m n h = bytes_more a (b ∷ c ∷ word_of v) l (bytes_more b (c ∷ word_of v) m (bytes_more c (word_of v) n (bytes_word v h)))
