-- Reading a file: fields are judged in file order, and the first refusal met ends the reading.
use Rattle.std.specs.Prelude.{ℕ, ◌+◌, ◌*◌, ◌-◌, ◌^◌, Bool, true, false, ◌&&◌, List, eqb, ltb, leb, length, get_or}
use Rattle.meaning.specs.declared.Reason.{Reason}
use Rattle.meaning.specs.declared.Reason.TheVariants.{Ended, Mark, Version, Kind, Extra}
use Rattle.meaning.specs.declared.Refusal.{Refusal}

-- a value and where reading goes on, or why it does not
pub data Read (A : Type 0) : Type 0 where
  got : A → ℕ → Read A
  refused : Refusal → Read A

-- what is read of the bytes of a file, from a place on
abbrev pub Reader : Type 0 → Type 0
Reader A = List ℕ → ℕ → Read A

abbrev pub bind : {A B : Type 0} → Read A → (A → ℕ → Read B) → Read B
bind (got a at) f = f a at
bind (refused r) f = refused r

-- what is made of what was read
unfoldable pub mapped : {A B : Type 0} → (A → B) → Read A → Read B
mapped f e = bind e λ a at. got (f a) at

infixl 10 ◌>>=◌
infixl 10 ◌>>◌
abbrev pub ◌>>=◌ : {A B : Type 0} → Reader A → (A → Reader B) → Reader B
◌>>=◌ m f s at = bind (m s at) (λ a at'. f a s at')

abbrev pub ◌>>◌ : {A B : Type 0} → Reader A → Reader B → Reader B
◌>>◌ m n = m >>= λ _. n

abbrev pub give : {A : Type 0} → A → Reader A
give a s at = got a at

-- why the field at a place is turned away
abbrev pub refusal_of : Reason → ℕ → Refusal
refusal_of r place = record { reason = r }

abbrev pub refuse : {A : Type 0} → Reason → Reader A
refuse r s at = refused (refusal_of r at)

abbrev pub pick : {A : Type 0} → Bool → A → A → A
pick true a b = a
pick false a b = b

-- what began at a place and has been read is judged
abbrev pub judge : ℕ → Bool → Reason → Reader (Unit {0})
judge place b r s at = pick b (got tt at) (refuse r s place)

-- what m reads, if it passes a test
unfoldable pub judged : {A : Type 0} → Reader A → (A → Bool) → Reason → Reader A
judged m test r s at = bind (m s at) λ a next. bind (judge at (test a) r s next) λ _ next'. got a next'

-- a number of one byte
unfoldable pub byte : Reader ℕ
byte s at = pick (ltb at (length s)) (got (get_or s at 0) (at + 1)) (refuse Ended s at)

-- a number of 16 bits, big-endian
unfoldable pub word : Reader ℕ
word s at = pick (leb 2 (length s - at)) (got (get_or s at 0 * 256 + get_or s (at + 1) 0) (at + 2)) (refuse Ended s at)

-- a byte below a limit, and one from 1 to a limit
abbrev pub byte_below : ℕ → Reason → Reader ℕ
byte_below limit r = judged byte (λ n. ltb n limit) r

abbrev pub byte_up_to : ℕ → Reason → Reader ℕ
byte_up_to limit r = judged byte (λ n. leb 1 n && leb n limit) r

-- a mask of types below k
abbrev pub mask_below : ℕ → Reader ℕ
mask_below k = judged word (λ m. ltb m (2 ^ k)) Kind

-- three letters
unfoldable pub mark : ℕ → ℕ → ℕ → Reader (Unit {0})
mark a b c s at =
    pick (leb 3 (length s - at))
    (pick (eqb (get_or s at 0) a && (eqb (get_or s (at + 1) 0) b && eqb (get_or s (at + 2) 0) c)) (got tt (at + 3)) (refuse Mark s at))
    (refuse Ended s at)

-- a file begins with its mark and its version, which is the answer; a reader says up to which it reads
unfoldable pub header : ℕ → ℕ → ℕ → ℕ → Reader ℕ
header a b c latest = do
  mark a b c
  judged word (λ v. leb 1 v && leb v latest) Version

-- no bytes follow
unfoldable pub end : Reader (Unit {0})
end s at = judge at (leb (length s) at) Extra s at

-- what m reads, and then the end of the file
abbrev pub ended : {A : Type 0} → Reader A → Reader A
ended m = do
  x ← m
  end
  give x
