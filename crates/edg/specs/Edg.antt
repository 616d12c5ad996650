-- The tables file: k, and behind it a table for every type. A table is the number of its rows and the rows, by rising
-- number: the parent's number, the element's own, its text number.
use Rattle.std.specs.Prelude.{ℕ, zero, suc, ◌+◌, ◌-◌, Bool, true, ◌&&◌, List, [], ◌∷◌, ◌++◌, eqb, ltb, leb, length, take, set, replicate}
use Rattle.meaning.specs.declared.Graph.{Graph}
use Rattle.meaning.specs.declared.Element.{Element}
use Rattle.meaning.specs.declared.Reason.{Reason}
use Rattle.meaning.specs.declared.Reason.TheVariants.{Bound, Number, Edge}
use Rattle.meaning.specs.Documents.{view, document_node, parent_rule, edge_rule}
use Rattle.fields.specs.Read.{Reader, ◌>>=◌, ◌>>◌, give, judge, judged, pick, byte, word, header, end}
use Rattle.fields.specs.Write.{byte_of, word_of, header_of}
use Rattle.edg.specs.declared.Row.{Row}

-- a row's number is 1 to the limit, above the one before it in its table, and above its parent's
unfoldable pub row_rule : ℕ → ℕ → Row → Bool
row_rule limit before r = leb 1 r.number && (leb r.number limit && (ltb before r.number && ltb r.element.parent r.number))

-- a row of type t
unfoldable pub row_fields : ℕ → Reader Row
row_fields t = do
  from ← byte
  to ← byte
  x ← word
  give (record { number = to; element = record { parent = from; kind = t; text = x } })

-- a row behind the row numbered before: judged as one field
unfoldable pub row_read : ℕ → ℕ → ℕ → Reader Row
row_read limit t before = judged (row_fields t) (row_rule limit before) Number

-- n rows of one type
unfoldable pub rows_read : ℕ → ℕ → ℕ → ℕ → Reader (List Row)
rows_read limit t before zero = give []
rows_read limit t before (suc n) = do
  r ← row_read limit t before
  rs ← rows_read limit t r.number n
  give (r ∷ rs)

-- how many rows a table has, behind so many rows
abbrev pub count_read : ℕ → ℕ → Reader ℕ
count_read limit total = judged byte (λ c. leb (total + c) limit) Bound

-- the tables of n types, from type t on, behind so many rows
unfoldable pub tables_read : ℕ → ℕ → ℕ → ℕ → Reader (List Row)
tables_read limit t total zero = give []
tables_read limit t total (suc n) = do
  c ← count_read limit total
  rs ← rows_read limit t 0 c
  more ← tables_read limit (suc t) (total + c) n
  give (rs ++ more)

-- how many rows pass a test
unfoldable pub count : (Row → Bool) → List Row → ℕ
count f [] = 0
count f (r ∷ rs) = pick (f r) 1 0 + count f rs

-- how many rows have the number i
abbrev pub times : ℕ → List Row → ℕ
times i = count (λ r. eqb r.number i)

-- f is 1 at each number below n
unfoldable pub ones : ℕ → (ℕ → ℕ) → Bool
ones zero f = true
ones (suc n) f = ones n f && eqb (f n) 1

-- each row's element is put in its number's place
unfoldable pub placed : List Element → List Row → List Element
placed es [] = es
placed es (r ∷ rs) = placed (set es (r.number - 1) r.element) rs

unfoldable pub elements_of : ℕ → List Row → List Element
elements_of limit rs = take (length rs) (placed (replicate limit document_node) rs)

-- what has been read is judged where reading stands
abbrev pub judge_here : Bool → Reason → Reader (Unit {0})
judge_here b r s at = judge at b r s at

-- header, and k, which is the graph's
unfoldable pub head : ℕ → Reader ℕ
head k = do
  header 0x45 0x44 0x47 1
  judged byte (λ n. eqb n k) Bound

-- header, k and the tables
unfoldable pub rows_file : ℕ → ℕ → Reader (List Row)
rows_file limit k = do
  head k
  rs ← tables_read limit 0 0 k
  judge_here (leb 1 (length rs)) Bound
  give rs

-- parent rule, then root type or edge
unfoldable pub element_judged : Graph → List Element → ℕ → Reader (Unit {0})
element_judged g es i = do
  judge_here (parent_rule (view es) i) Number
  judge_here (edge_rule g (view es) i) Edge

-- n elements from element i on
unfoldable pub elements_judged : Graph → List Element → ℕ → ℕ → Reader (Unit {0})
elements_judged g es i zero = give tt
elements_judged g es i (suc n) = do
  element_judged g es i
  elements_judged g es (suc i) n

-- the rows together: none of the numbers from 1 to n is missing or comes again; then element by element
unfoldable pub whole : ℕ → Graph → List Row → Reader (List Element)
whole limit g rs = do
  judge_here (ones (length rs) (λ i. times (suc i) rs)) Number
  elements_judged g (elements_of limit rs) 1 (length rs)
  give (elements_of limit rs)

unfoldable pub tables_file : ℕ → Graph → Reader (List Element)
tables_file limit g = do
  rs ← rows_file limit g.k
  end
  whole limit g rs

-- the rows of type t among elements that are numbered from i on
unfoldable pub rows_of : ℕ → ℕ → List Element → List Row
rows_of t i [] = []
rows_of t i (e ∷ es) = pick (eqb e.kind t) (record { number = i; element = e } ∷ []) [] ++ rows_of t (suc i) es

abbrev pub row_bytes : Row → List ℕ
row_bytes r = byte_of r.element.parent ++ byte_of r.number ++ word_of r.element.text

unfoldable pub rows_bytes : List Row → List ℕ
rows_bytes [] = []
rows_bytes (r ∷ rs) = row_bytes r ++ rows_bytes rs

unfoldable pub table_bytes : List Row → List ℕ
table_bytes rs = byte_of (length rs) ++ rows_bytes rs

-- the tables of n types, from type t on
unfoldable pub tables_of : List Element → ℕ → ℕ → List ℕ
tables_of es t zero = []
tables_of es t (suc n) = table_bytes (rows_of t 1 es) ++ tables_of es (suc t) n

-- the tables file of a document
unfoldable pub tables_bytes : Graph → List Element → List ℕ
tables_bytes g es = header_of 0x45 0x44 0x47 1 ++ byte_of g.k ++ tables_of es 0 g.k
