-- The three demands, over what the public calls may answer and leave by the contracts that their code carries. A call is
-- written as what it is handed and how it ends: `TbRun gra edg rel out work r` says that tb_run, handed these files and lent
-- these buffers, may end as r, its answer beside the bytes of both buffers afterwards. That no call asks anything of what it is
-- handed stands beside that (`AsksNothing`).
--
-- Words from below, each a short definition there, are the rules of docs/RULES.md: what is legal (`LegalGraph`, `Accepted`,
-- `LegalPath`, `LegalProgram`), how it is written as bytes (`graph_bytes` and its like), what a query reaches (`reaches`), which
-- rows a program's steps have (`run`) and which pairs of kinds are announced for them (`announced`), what it is translated to
-- (`translated`, of `step_count` steps), what a listing says (`listing`), and where a row stands in the work area (`joined`).
--
-- Their numbers: a document has up to 127 elements (`element_limit`), a query 24 nodes (`query_limit`), a program 24 steps
-- (`step_limit`); node 0 has kind 16 (`document`); in the work area a row has 16 bytes (`small.row`), which is 128 bits (`row_bits`),
-- and a step 2,048 bytes (`room_bytes`). `Lent` is an answer beside the bytes of one buffer afterwards, `Ran` beside those of two.
-- `Bytes` says that each number of a list is a byte, as it is of anything that a caller can lend.
use Rattle.std.specs.Prelude.{ℕ, ◌+◌, ◌*◌, ◌≤◌, ◌<◌, ◌≡◌, true, false, List, [], length, get_or, take}
use Rattle.meaning.specs.declared.Answer.{Answer}
use Rattle.meaning.specs.declared.Element.{Element}
use Rattle.meaning.specs.declared.Graph.{Graph}
use Rattle.meaning.specs.declared.Operation.{Operation}
use Rattle.meaning.specs.Limits.{small, document, element_limit, query_limit, step_limit, row_bits, room_bytes}
use Rattle.meaning.specs.Relations.{Relation, at}
use Rattle.meaning.specs.Graphs.{LegalGraph}
use Rattle.meaning.specs.Documents.{View, view, node, Accepted}
use Rattle.meaning.specs.Queries.{XPath, LegalPath, query_nodes, reaches, selected}
use Rattle.meaning.specs.Operations.{LegalProgram, last, run, answer}
use Rattle.meaning.specs.Announcements.{announced}
use Rattle.meaning.specs.Translation.{translated, step_count}
use Rattle.fields.specs.Write.{Bytes}
use Rattle.graph.specs.Gra.{graph_bytes}
use Rattle.tre.specs.Tre.{document_bytes}
use Rattle.edg.specs.Edg.{tables_bytes}
use Rattle.query.specs.Qry.{query_bytes}
use Rattle.rel.specs.Rel.{program_bytes}
use Rattle.writing.specs.Lent.{Lent}
use Rattle.announce.specs.declared.Checked.{Checked}
use Rattle.masks.specs.Announcement.{rel_of}
use Rattle.rooms.specs.Layout.{joined}
use Rattle.rooms.specs.Run.{Ran}
use Rattle.text.specs.Listing.{listing}
use Rattle.trammelbud.proofs.Outcomes.{TbReadGraph, TbReadDocument, TbReadTables, TbReadQuery, TbReadProgram, TbShred, TbRebuild, TbTranslate, TbCheck, TbRun, TbSelect, TbList}

-- Each call has exactly one end, whatever it is handed: its answer, and every byte of every lent buffer.
pub record ExactlyOne {A : Type 0} (Ends : A → Type 0) : Type 0 where
  pub end : A
  pub there : Ends end
  pub only : (a : A) → Ends a → a ≡ end

pub record Determined : Type 0 where
  pub read_graph : (gra : List ℕ) → ExactlyOne (TbReadGraph gra)
  pub read_document : (gra tre : List ℕ) → ExactlyOne (TbReadDocument gra tre)
  pub read_tables : (gra edg : List ℕ) → ExactlyOne (TbReadTables gra edg)
  pub read_query : (gra qry : List ℕ) → ExactlyOne (TbReadQuery gra qry)
  pub read_program : (gra rel : List ℕ) → ExactlyOne (TbReadProgram gra rel)
  pub shred : (gra tre out : List ℕ) → ExactlyOne (TbShred gra tre out)
  pub rebuild : (gra edg out : List ℕ) → ExactlyOne (TbRebuild gra edg out)
  pub translate : (gra qry out : List ℕ) → ExactlyOne (TbTranslate gra qry out)
  pub check : (gra rel : List ℕ) → ExactlyOne (TbCheck gra rel)
  pub run : (gra edg rel out work : List ℕ) → ExactlyOne (TbRun gra edg rel out work)
  pub select : (gra edg qry out work : List ℕ) → ExactlyOne (TbSelect gra edg qry out work)
  pub list : (gra edg qry text work : List ℕ) → ExactlyOne (TbList gra edg qry text work)

-- Files: a file is the encoding of something legal, a graph,
pub record GraphFile (g : Graph) (gra : List ℕ) : Type 0 where
  pub legal : LegalGraph g
  pub is : gra ≡ graph_bytes g

-- or under a graph a document, as tokens and as tables, a query or a program
pub record DocumentFile (g : Graph) (es : List Element) (tre : List ℕ) : Type 0 where
  pub legal : Accepted element_limit g es
  pub is : tre ≡ document_bytes es

pub record TablesFile (g : Graph) (es : List Element) (edg : List ℕ) : Type 0 where
  pub legal : Accepted element_limit g es
  pub is : edg ≡ tables_bytes g es

pub record QueryFile (g : Graph) (p : XPath) (qry : List ℕ) : Type 0 where
  pub legal : LegalPath g.k p
  pub few_nodes : query_nodes p ≤ query_limit
  pub is : qry ≡ query_bytes p

pub record ProgramFile (g : Graph) (os : List Operation) (rel : List ℕ) : Type 0 where
  pub legal : LegalProgram step_limit g.k os
  pub is : rel ≡ program_bytes os

-- a graph's file, and what is taken under that graph
abbrev pub Under : {X : Type 0} → List ℕ → (Graph → X → Type 0) → Graph × X → Type 0
Under gra Takes (g, x) = GraphFile g gra × Takes g x

-- n+1 bytes for the nodes that are named, 2,048 bytes of work area for each step
pub record RunRoom (es : List Element) (steps : ℕ) (out work : List ℕ) : Type 0 where
  pub for_nodes : length es + 1 ≤ length out
  pub for_steps : room_bytes small.row * steps ≤ length work

-- 13(n+2) bytes for the text, and as much work area
pub record TextRoom (es : List Element) (steps : ℕ) (text work : List ℕ) : Type 0 where
  pub for_text : 13 * (length es + 2) ≤ length text
  pub for_steps : room_bytes small.row * steps ≤ length work

-- 1. Every call comes back: with 0 and a count exactly where it takes what it is given, files that encode something legal and
-- room; otherwise with one number of the table and nothing else.
pub record Answers {X : Type 0} (most : ℕ) (Takes : X → Type 0) (count : X → ℕ) (a : Answer) : Type 0 where
  pub accepts : (x : X) → Takes x → a ≡ record { number = 0; count = count x }
  pub only : a.number ≡ 0 → (x : X) × Takes x
  pub number : a.number ≤ most
  pub alone : 0 < a.number → a.count ≡ 0

-- past what a call wrote, a buffer is as it came
pub record Rest (old : List ℕ) (a : Answer) (new : List ℕ) : Type 0 where
  pub as_long : length new ≡ length old
  pub stays : (i : ℕ) → a.count ≤ i → get_or new i 0 ≡ get_or old i 0

-- A call that writes a file of what it read asks for the file's length and answers it. 11 says that the query takes too many steps
-- (Long, which is ⊥ where no query is translated) and 12 that room is wanting, neither anything else. Refused, a call leaves what it
-- was lent as it came.
pub record Writes {X : Type 0} (Long : Type 0) (Files : X → Type 0) (file : X → List ℕ) (out : List ℕ) (l : Lent) : Type 0 where
  pub answers : Answers 12 (λ x. Files x × (length (file x) ≤ length out)) (λ x. length (file x)) l.answer
  pub long : l.answer.number ≡ 11 → Long
  pub short : l.answer.number ≡ 12 → (x : X) × Files x × (length out < length (file x))
  pub kept : 0 < l.answer.number → l.bytes ≡ out
  pub rest : Rest out l.answer l.bytes

-- the same of a call that is lent two buffers
pub record Runs {X : Type 0} (Long : Type 0) (Files Fits : X → Type 0) (count : X → ℕ) (out work : List ℕ) (r : Ran) : Type 0 where
  pub answers : Answers 12 (λ x. Files x × Fits x) count r.answer
  pub long : r.answer.number ≡ 11 → Long
  pub short : r.answer.number ≡ 12 → (x : X) × Files x × (Fits x → ⊥)
  pub kept : 0 < r.answer.number → (r.out ≡ out) × (r.work ≡ work)
  pub rest : Rest out r.answer r.out

-- (A, B) is announced for step s
abbrev pub announced_by : Checked → ℕ → Relation
announced_by c s = rel_of (get_or c.steps s (record { pairs = [] }))

pub record Checks {X : Type 0} (Takes : X → Type 0) (c : Checked) : Type 0 where
  pub accepts : (x : X) → Takes x → c.number ≡ 0
  pub only : c.number ≡ 0 → (x : X) × Takes x
  pub number : c.number ≤ 10
  pub alone : 0 < c.number → (s A B : ℕ) → announced_by c s A B ≡ false

-- a query that is accepted, and takes more than 24 steps; the same behind tables that are
abbrev pub TooLong : List ℕ → List ℕ → Type 0
TooLong gra qry = (x : Graph × XPath) × Under gra (λ g p. QueryFile g p qry × (step_limit < step_count p)) x

abbrev pub TooLongOver : List ℕ → List ℕ → List ℕ → Type 0
TooLongOver gra edg qry = (x : Graph × (List Element × XPath)) × Under gra (λ g (y : List Element × XPath). TablesFile g y.0 edg × QueryFile g y.1 qry × (step_limit < step_count y.1)) x

pub record Demand1 (gra : List ℕ) (bytes : Bytes gra) : Type 0 where
  -- a reader counts types, elements, elements, query nodes, steps
  pub read_graph : {a : Answer} → TbReadGraph gra a → Answers 10 (λ g. GraphFile g gra) (λ g. g.k) a
  pub read_document : {tre : List ℕ} {a : Answer} → Bytes tre → TbReadDocument gra tre a → Answers 10 (Under gra λ g es. DocumentFile g es tre) (λ x. length x.1) a
  pub read_tables : {edg : List ℕ} {a : Answer} → Bytes edg → TbReadTables gra edg a → Answers 10 (Under gra λ g es. TablesFile g es edg) (λ x. length x.1) a
  pub read_query : {qry : List ℕ} {a : Answer} → Bytes qry → TbReadQuery gra qry a → Answers 10 (Under gra λ g p. QueryFile g p qry) (λ x. query_nodes x.1) a
  pub read_program : {rel : List ℕ} {a : Answer} → Bytes rel → TbReadProgram gra rel a → Answers 10 (Under gra λ g os. ProgramFile g os rel) (λ x. length x.1) a
  pub shred : {tre out : List ℕ} {l : Lent} → Bytes tre → TbShred gra tre out l
      → Writes ⊥ (Under gra λ g es. DocumentFile g es tre) (λ x. tables_bytes x.0 x.1) out l
  pub rebuild : {edg out : List ℕ} {l : Lent} → Bytes edg → TbRebuild gra edg out l
      → Writes ⊥ (Under gra λ g es. TablesFile g es edg) (λ x. document_bytes x.1) out l
  pub translate : {qry out : List ℕ} {l : Lent} → Bytes qry → TbTranslate gra qry out l
      → Writes (TooLong gra qry) (Under gra λ g p. QueryFile g p qry × (step_count p ≤ step_limit)) (λ x. program_bytes (translated x.0 x.1)) out l
  pub check : {rel : List ℕ} {c : Checked} → Bytes rel → TbCheck gra rel c → Checks (Under gra λ g os. ProgramFile g os rel) c
  -- a run counts the nodes that it names, a listing its bytes
  pub run : {edg rel out work : List ℕ} {r : Ran} → Bytes edg → Bytes rel → TbRun gra edg rel out work r
      → Runs ⊥ (Under gra λ g (x : List Element × List Operation). TablesFile g x.0 edg × ProgramFile g x.1 rel)
      (λ x. RunRoom x.1.0 (length x.1.1) out work) (λ x. length (answer (view x.1.0) x.1.1)) out work r
  pub select : {edg qry out work : List ℕ} {r : Ran} → Bytes edg → Bytes qry → TbSelect gra edg qry out work r
      → Runs (TooLongOver gra edg qry) (Under gra λ g (x : List Element × XPath). TablesFile g x.0 edg × QueryFile g x.1 qry × (step_count x.1 ≤ step_limit))
      (λ x. RunRoom x.1.0 (step_count x.1.1) out work) (λ x. length (selected (view x.1.0) x.1.1)) out work r
  pub list : {edg qry text work : List ℕ} {r : Ran} → Bytes edg → Bytes qry → TbList gra edg qry text work r
      → Runs (TooLongOver gra edg qry) (Under gra λ g (x : List Element × XPath). TablesFile g x.0 edg × QueryFile g x.1 qry × (step_count x.1 ≤ step_limit))
      (λ x. TextRoom x.1.0 (step_count x.1.1) text work) (λ x. length (listing (view x.1.0) (selected (view x.1.0) x.1.1))) text work r

-- what a call wrote: as many bytes as it answers
abbrev pub written : Answer → List ℕ → List ℕ
written a bytes = take a.count bytes

-- w stands at some place of the list
pub record Among (ws : List ℕ) (w : ℕ) : Type 0 where
  pub place : ℕ
  pub inside : place < length ws
  pub there : get_or ws place 0 ≡ w

-- the call accepts and names exactly the nodes that the path selects from the document node, each once, ascending
pub record Names (d : View) (p : XPath) (a : Answer) (ws : List ℕ) : Type 0 where
  pub accepts : a.number ≡ 0
  pub counts : a.count ≡ length ws
  pub ascend : (i j : ℕ) → i < j → j < length ws → get_or ws i 0 < get_or ws j 0
  pub sound : (w : ℕ) → Among ws w → (w < d.size) × (reaches p d 0 w ≡ true)
  pub complete : (w : ℕ) → w < d.size → reaches p d 0 w ≡ true → Among ws w

-- 2. Queries mean what XPath says.
pub record Demand2 (gra : List ℕ) (g : Graph) (graph : GraphFile g gra) : Type 0 where
  -- the translated program, run over the shredded tables, names what the query selects
  pub runs : {tre qry a b out work : List ℕ} {es : List Element} {p : XPath} {s t : Lent} {r : Ran} → DocumentFile g es tre → QueryFile g p qry
      → TbShred gra tre a s → s.answer.number ≡ 0 → TbTranslate gra qry b t → t.answer.number ≡ 0
      → TbRun gra (written s.answer s.bytes) (written t.answer t.bytes) out work r → RunRoom es (step_count p) out work
      → Names (view es) p r.answer (written r.answer r.out)
  -- the rows of every step, ours or a client's, stand in the work area
  pub rows : {edg rel out work : List ℕ} {es : List Element} {os : List Operation} {r : Ran} → TablesFile g es edg → ProgramFile g os rel
      → TbRun gra edg rel out work r → r.answer.number ≡ 0 → (s v w : ℕ) → s < length os → v < row_bits small.row → w < row_bits small.row
      → joined small.row r.work s v w ≡ at (run (view es) os) s v w
  -- and past them it is as it came
  pub rest : {edg rel out work : List ℕ} {es : List Element} {os : List Operation} {r : Ran} → TablesFile g es edg → ProgramFile g os rel
      → TbRun gra edg rel out work r → (i : ℕ) → room_bytes small.row * length os ≤ i → get_or r.work i 0 ≡ get_or work i 0
  -- the one call names what the query selects, and its listing lists them
  pub selects : {edg qry out work : List ℕ} {es : List Element} {p : XPath} {r : Ran} → TablesFile g es edg → QueryFile g p qry
      → TbSelect gra edg qry out work r → r.answer.number ≡ 0 → Names (view es) p r.answer (written r.answer r.out)
  pub lists : {edg qry text work : List ℕ} {es : List Element} {p : XPath} {r : Ran} → TablesFile g es edg → QueryFile g p qry
      → TbList gra edg qry text work r → r.answer.number ≡ 0 → written r.answer r.out ≡ listing (view es) (selected (view es) p)
  -- a query of at most 24 steps is translated, to the program that is fixed for it, where there is room for the file and no more;
  -- one of more is turned away with 11, whatever the room
  pub translates : {qry b : List ℕ} {p : XPath} {t : Lent} → QueryFile g p qry → TbTranslate gra qry b t → step_count p ≤ step_limit → 6 + 3 * step_count p ≤ length b
      → (t.answer ≡ record { number = 0; count = 6 + 3 * step_count p }) × ProgramFile g (translated g p) (written t.answer t.bytes)
  pub too_long : {qry b : List ℕ} {p : XPath} {t : Lent} → QueryFile g p qry → TbTranslate gra qry b t → step_limit < step_count p
      → t.answer ≡ record { number = 11; count = 0 }
  -- shredding and rebuilding hold the same elements and give back the same bytes, either way round
  pub documents_return : {tre out back : List ℕ} {es : List Element} {s b : Lent} → DocumentFile g es tre
      → TbShred gra tre out s → s.answer.number ≡ 0 → TbRebuild gra (written s.answer s.bytes) back b → length tre ≤ length back
      → TablesFile g es (written s.answer s.bytes) × (b.answer ≡ record { number = 0; count = length tre }) × (written b.answer b.bytes ≡ tre)
  pub tables_return : {edg out back : List ℕ} {es : List Element} {b s : Lent} → TablesFile g es edg
      → TbRebuild gra edg out b → b.answer.number ≡ 0 → TbShred gra (written b.answer b.bytes) back s → length edg ≤ length back
      → DocumentFile g es (written b.answer b.bytes) × (s.answer ≡ record { number = 0; count = length edg }) × (written s.answer s.bytes ≡ edg)
  -- a file's length
  pub document_length : {tre : List ℕ} {es : List Element} → DocumentFile g es tre → length tre ≡ 5 + 5 * length es
  pub tables_length : {edg : List ℕ} {es : List Element} → TablesFile g es edg → length edg ≡ 6 + g.k + 4 * length es
  pub program_length : {rel : List ℕ} {os : List Operation} → ProgramFile g os rel → length rel ≡ 6 + 3 * length os

-- two runs of so many steps have the same answer, nodes and rooms
pub record Alike (steps : ℕ) (r q : Ran) : Type 0 where
  pub answers : r.answer ≡ q.answer
  pub nodes : written r.answer r.out ≡ written q.answer q.out
  pub rooms : take (room_bytes small.row * steps) r.work ≡ take (room_bytes small.row * steps) q.work

-- 3. A checked program runs to its end, reads no result not yet made, and every row joins an announced pair.
pub record Demand3 (gra : List ℕ) (g : Graph) (graph : GraphFile g gra) : Type 0 where
  -- the check passes a program exactly when its file is accepted; then it is legal, so each operand is below its own step
  pub passes : {rel : List ℕ} {os : List Operation} {c : Checked} → ProgramFile g os rel → TbCheck gra rel c → c.number ≡ 0
  pub accepts : {rel : List ℕ} {c : Checked} → Bytes rel → TbCheck gra rel c → c.number ≡ 0 → (os : List Operation) × ProgramFile g os rel
  -- the pairs that it answers are those announced: at every step, no pair more and none less
  pub pairs : {rel : List ℕ} {os : List Operation} {c : Checked} → ProgramFile g os rel → TbCheck gra rel c
      → (s A B : ℕ) → announced_by c s A B ≡ at (announced g os) s A B
  -- with the room, its run answers 0, and with the same nodes and steps whatever the buffers held
  pub ends : {edg rel out work : List ℕ} {es : List Element} {os : List Operation} {r : Ran} → TablesFile g es edg → ProgramFile g os rel
      → TbRun gra edg rel out work r → RunRoom es (length os) out work → r.answer.number ≡ 0
  pub same : {edg rel out work out' work' : List ℕ} {es : List Element} {os : List Operation} {r q : Ran} → TablesFile g es edg → ProgramFile g os rel
      → TbRun gra edg rel out work r → r.answer.number ≡ 0 → TbRun gra edg rel out' work' q → q.answer.number ≡ 0 → Alike (length os) r q
  -- every row of every step joins a pair that was announced for it
  pub announces : {edg rel out work : List ℕ} {es : List Element} {os : List Operation} {c : Checked} {r : Ran} → TablesFile g es edg → ProgramFile g os rel
      → TbCheck gra rel c → TbRun gra edg rel out work r → r.answer.number ≡ 0
      → (s v w : ℕ) → s < length os → v < row_bits small.row → w < row_bits small.row → joined small.row r.work s v w ≡ true
      → announced_by c s (node es v).kind (node es w).kind ≡ true
  -- nothing announced from the document node, nothing selected
  pub nothing : {edg rel out work : List ℕ} {es : List Element} {os : List Operation} {c : Checked} {r : Ran} → TablesFile g es edg → ProgramFile g os rel
      → TbCheck gra rel c → ((B : ℕ) → announced_by c (last os) document B ≡ false) → TbRun gra edg rel out work r → r.answer.number ≡ 0
      → r.answer.count ≡ 0
  -- every program that we translate passes
  pub ours : {qry b : List ℕ} {p : XPath} {t : Lent} {c : Checked} → QueryFile g p qry → TbTranslate gra qry b t → t.answer.number ≡ 0
      → TbCheck gra (written t.answer t.bytes) c → c.number ≡ 0
