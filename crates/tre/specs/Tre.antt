-- The document file: tokens that open an element, 0x01 with its type and text number, or close one, 0x02; the token that
-- closes element 1 is the last.
use Rattle.std.specs.Prelude.{ℕ, zero, suc, List, [], ◌∷◌, ◌++◌, ◌||◌, eqb, ltb, length}
use Rattle.meaning.specs.declared.Graph.{Graph}
use Rattle.meaning.specs.declared.Element.{Element}
use Rattle.meaning.specs.declared.Reason.TheVariants.{Ended, Bound, Code, Kind, Edge}
use Rattle.meaning.specs.Graphs.{child_kind}
use Rattle.meaning.specs.Documents.{node}
use Rattle.fields.specs.Read.{Reader, ◌>>=◌, ◌>>◌, give, refuse, judged, pick, byte, byte_below, word, header, ended}
use Rattle.fields.specs.Write.{byte_of, word_of, header_of}

-- the elements opened so far, and the innermost that is open: 0 before the first, and again when element 1 is closed
pub record Open : Type 0 where
  pub elements : List Element
  pub inner : ℕ

abbrev pub nothing_open : Open
nothing_open = record { elements = []; inner = 0 }

-- an element behind the last, which is then the innermost
unfoldable pub pushed : Open → ℕ → ℕ → Open
pushed o t x = record { elements = o.elements ++ (record { parent = o.inner; kind = t; text = x } ∷ []); inner = suc (length o.elements) }

-- a token's code: 0x01 opens an element, where fewer than the limit are there; 0x02 closes one, and no file begins with it
unfoldable pub code : ℕ → ℕ → Reader ℕ
code limit count =
    judged
    (judged
    (judged byte (λ c. eqb c 0x01 || eqb c 0x02) Code)
    (λ c. eqb c 0x02 || ltb count limit) Bound)
    (λ c. eqb c 0x01 || ltb 0 count) Edge

-- the type of a new element: below k, and a child type of the innermost's; for element 1 that is the root type
abbrev pub new_type : Graph → Open → Reader ℕ
new_type g o = judged (byte_below g.k Kind) (λ t. child_kind g (node o.elements o.inner).kind t) Edge

-- after 0x01: the type, then the text
unfoldable pub opened : Graph → Open → Reader Open
opened g o = do
  t ← new_type g o
  x ← word
  give (pushed o t x)

-- after 0x02: the parent of the innermost is the innermost again
unfoldable pub popped : Open → Open
popped o = record { elements = o.elements; inner = (node o.elements o.inner).parent }

unfoldable pub token : ℕ → Graph → Open → Reader Open
token limit g o = do
  c ← code limit (length o.elements)
  pick (eqb c 0x01) (opened g o) (give (popped o))

-- tokens up to the close of element 1: at most so many as the first number says, which is never less than the bytes left
unfoldable pub tokens : ℕ → ℕ → Graph → Open → Reader (List Element)
tokens zero limit g o = refuse Ended
tokens (suc f) limit g o = do
  p ← token limit g o
  pick (eqb p.inner 0) (give p.elements) (tokens f limit g p)

unfoldable pub document_read : ℕ → Graph → Reader (List Element)
document_read limit g = do
  header 0x54 0x52 0x45 1
  λ s at. tokens (length s) limit g nothing_open s at

unfoldable pub document_file : ℕ → Graph → Reader (List Element)
document_file limit g = ended (document_read limit g)

-- the closes from element a up to its ancestor b, which stays open
unfoldable pub closes : ℕ → List Element → ℕ → ℕ → List ℕ
closes zero es a b = []
closes (suc f) es a b = pick (eqb a b) [] (byte_of 0x02 ++ closes f es (node es a).parent b)

-- the token that opens an element
abbrev pub open_of : Element → List ℕ
open_of e = byte_of 0x01 ++ byte_of e.kind ++ word_of e.text

-- the tokens of the n elements that follow element a, and the closes at the end
unfoldable pub tokens_of : List Element → ℕ → ℕ → List ℕ
tokens_of es a zero = closes (length es) es a 0
tokens_of es a (suc n) = closes (length es) es a (node es (suc a)).parent ++ (open_of (node es (suc a)) ++ tokens_of es (suc a) n)

-- the file of a document
unfoldable pub document_bytes : List Element → List ℕ
document_bytes es = header_of 0x54 0x52 0x45 1 ++ tokens_of es 0 (length es)
