-- What the reader keeps of the rows so far, and how its functions' answers say what was read.
use Rattle.std.specs.Prelude.{ℕ, ◌+◌, ◌*◌, ◌-◌, ◌≤◌, ◌≡◌, List, [], ◌∷◌, length, get_or, set, replicate, Result, Ok, Err, IfOk}
use Rattle.meaning.specs.declared.Element.{Element}
use Rattle.meaning.specs.declared.Refusal.{Refusal}
use Rattle.meaning.specs.Limits.{small, element_limit}
use Rattle.meaning.specs.Documents.{document_node}
use Rattle.fields.specs.declared.Cursor.{Cursor}
use Rattle.fields.specs.Read.{Read, got, refused}
use Rattle.edg.specs.declared.Row.{Row}
use Rattle.tables.specs.declared.Numbers.{Numbers}

-- the bytes of a row: two numbers of nodes and a text number
abbrev pub row_length : ℕ
row_length = 2 * small.number + 2

-- what the rows so far come to: each element in its number's place, how often each number came, and how many rows there were
pub record Gathered : Type 0 where
  pub elements : List Element
  pub times : List ℕ
  pub total : ℕ

-- what is kept of the rows in the places that are lent for it
abbrev pub gathered_in : List Element → Numbers → Gathered
gathered_in kept n = record { elements = kept; times = n.times; total = n.total }

unfoldable pub none : Gathered
none = record { elements = replicate element_limit document_node; times = replicate element_limit 0; total = 0 }

unfoldable pub put : Gathered → Row → Gathered
put c r = record {
  elements = set c.elements (r.number - 1) r.element;
  times = set c.times (r.number - 1) (get_or c.times (r.number - 1) 0 + 1);
  total = c.total + 1;
}

unfoldable pub put_all : Gathered → List Row → Gathered
put_all c [] = c
put_all c (r ∷ rs) = put_all (put c r) rs

-- there is a place for each number, none came more often than there were rows, and parents have smaller numbers
pub record Sound (c : Gathered) : Type 0 where
  pub elements_long : length c.elements ≡ element_limit
  pub times_long : length c.times ≡ element_limit
  pub times_most : (i : ℕ) → get_or c.times i 0 ≤ c.total
  pub total_most : c.total ≤ element_limit
  pub falling : (i : ℕ) → (get_or c.elements i document_node).parent ≤ i

-- what an answer says of what is kept: it is what was read, beside where reading goes on, or the refusal
abbrev pub gathered_of : Gathered → Result (Unit {0} × Cursor) Refusal → Read Gathered
gathered_of c (Ok (u, next)) = got c next.at
gathered_of c (Err r) = refused r

-- e was read: it is kept and sound, or the refusal was met
pub record GatheredRead (r : Result (Unit {0} × Cursor) Refusal) (c : Gathered) (e : Read Gathered) : Type 0 where
  pub right : e ≡ gathered_of c r
  pub sound : IfOk r (λ _. Sound c)
