-- A file is what its reader accepts: the encoding of something legal is read as that, and what is read was such an encoding.
use Prim.Native.Nat.{ℕ, ◌-◌, ◌≤◌}
use mathlib.Core.Path.{◌≡◌, refl, sym}
use mathlib.Core.List.{List}
use mathlib.Core.Logic.{◌⊎◌, inl, inr, ⊎_elim}
use native.Mathlib.Omega.{arith}
use lib.ListN.{length}
use Rattle.meaning.specs.declared.Graph.{Graph}
use Rattle.meaning.specs.declared.Element.{Element}
use Rattle.meaning.specs.declared.Operation.{Operation}
use Rattle.meaning.specs.Limits.{element_limit, query_limit}
use Rattle.meaning.specs.Graphs.{LegalGraph}
use Rattle.meaning.specs.Queries.{XPath, query_nodes}
use Rattle.meaning.specs.declared.Refusal.{Refusal}
use Rattle.meaning.specs.Refused.{number_of}
use Rattle.fields.specs.Read.{Read, got, refused, bind}
use Rattle.fields.proofs.Formats.{refused_out}
use Rattle.fields.specs.Write.{Bytes}
use Rattle.files.specs.Files.{under, followed_by}
use Rattle.files.proofs.Handed.{under_got, under_out, then_got, then_out}
use Rattle.graph.specs.Gra.{graph_file}
use Rattle.graph.proofs.File.{graph_read_lem, graph_written}
use Rattle.graph.proofs.Reasons.{graph_reason}
use Rattle.tre.specs.Tre.{document_file}
use Rattle.tre.proofs.File.{document_read_lem, document_written}
use Rattle.tre.proofs.Reasons.{document_reason}
use Rattle.edg.specs.Edg.{tables_file}
use Rattle.edg.proofs.File.{tables_read_lem, tables_written}
use Rattle.edg.proofs.Reasons.{tables_reason}
use Rattle.query.specs.Qry.{query_file}
use Rattle.query.proofs.File.{query_read_lem, query_written}
use Rattle.query.proofs.Reasons.{query_reason}
use Rattle.rel.specs.Rel.{program_file}
use Rattle.rel.proofs.File.{program_read_lem, program_written}
use Rattle.rel.proofs.Reasons.{program_reason}
use Rattle.demands.specs.Demands.{GraphFile, DocumentFile, TablesFile, QueryFile, ProgramFile}

pub graph_got : {gra : List ℕ} {g : Graph} → GraphFile g gra → graph_file gra 0 ≡ got g (length gra)
graph_got {g = g} f = rw f.is (graph_written g f.legal)

pub graph_file_lem : {gra : List ℕ} {g : Graph} {n : ℕ} → Bytes gra → graph_file gra 0 ≡ got g n → GraphFile g gra
graph_file_lem {gra} {g} {n} bytes h = let (legal, is) = graph_read_lem gra bytes g n h in record { legal = legal; is = is }

module _ {g : Graph} where
  pub document_got : {tre : List ℕ} {es : List Element} → LegalGraph g → DocumentFile g es tre → document_file element_limit g tre 0 ≡ got es (length tre)
  document_got legal f = rw f.is (document_written legal f.legal)

  pub document_file_lem : {tre : List ℕ} {es : List Element} {n : ℕ} → Bytes tre → document_file element_limit g tre 0 ≡ got es n → DocumentFile g es tre
  document_file_lem {tre} bytes h = let (legal, is) = document_read_lem element_limit g tre bytes h in record { legal = legal; is = is }

  pub tables_got : {edg : List ℕ} {es : List Element} → LegalGraph g → TablesFile g es edg → tables_file element_limit g edg 0 ≡ got es (length edg)
  tables_got legal f = rw f.is (tables_written legal f.legal)

  pub tables_file_lem : {edg : List ℕ} {es : List Element} {n : ℕ} → Bytes edg → tables_file element_limit g edg 0 ≡ got es n → TablesFile g es edg
  tables_file_lem bytes h = let (legal, is) = tables_read_lem element_limit g bytes h in record { legal = legal; is = is }

  pub query_got : {qry : List ℕ} {p : XPath} → QueryFile g p qry → query_file g.k qry 0 ≡ got (p, query_limit - query_nodes p) (length qry)
  query_got {p = p} f = rw f.is (query_written g.k p f.legal f.few_nodes)

  -- a query's reader says beside it how many nodes more there might be
  pub query_file_lem : {qry : List ℕ} {p : XPath} {left n : ℕ} → Bytes qry → query_file g.k qry 0 ≡ got (p, left) n → QueryFile g p qry × (left ≡ query_limit - query_nodes p)
  query_file_lem bytes h =
      let (legal, count, is) = query_read_lem g.k bytes h in
      (record { legal = legal; few_nodes = omega (arith, count); is = is }, omega (arith, count))

  pub program_got : {rel : List ℕ} {os : List Operation} → ProgramFile g os rel → program_file g.k rel 0 ≡ got os (length rel)
  program_got f = rw f.is (program_written f.legal)

  pub program_file_lem : {rel : List ℕ} {os : List Operation} {n : ℕ} → Bytes rel → program_file g.k rel 0 ≡ got os n → ProgramFile g os rel
  program_file_lem bytes h = let (legal, is) = program_read_lem bytes h in record { legal = legal; is = is }

-- a reading came out as x
abbrev pub Came : {X : Type 0} → Read X → X → Type 0
Came e x = (n : ℕ) × (e ≡ got x n)

-- a refusal is that of one of the readings
pub bind_refused : {A B : Type 0} (e : Read A) (f : A → ℕ → Read B) {r : Refusal} → bind e f ≡ refused r → (e ≡ refused r) ⊎ ((a : A) × (n : ℕ) × (e ≡ got a n) × (f a n ≡ refused r))
bind_refused (got a n) f h = inr (a, n, refl, h)
bind_refused (refused q) f h = inl cc

pub given_refused : {A B : Type 0} (e : Read A) (f : A → ℕ → B) {r : Refusal} → bind e (λ a n. got (f a n) n) ≡ refused r → e ≡ refused r
given_refused (got a n) f h = refused_out (sym h)
given_refused (refused q) f h = cc

followed_refused : {A B : Type 0} (x : Read A) (y : Read B) {r : Refusal} → followed_by x y ≡ refused r → (x ≡ refused r) ⊎ (y ≡ refused r)
unfolding followed_by
followed_refused x y h = ⊎_elim (λ p. inl p) (λ (a, n, p, q). inr (given_refused y (λ b n. (a, b)) q)) (bind_refused x _ h)

under_refused : {A : Type 0} (gra : List ℕ) (read : Graph → Read A) {r : Refusal} → under gra read ≡ refused r → (graph_file gra 0 ≡ refused r) ⊎ ((g : Graph) × (read g ≡ refused r))
unfolding under
under_refused gra read h = ⊎_elim (λ p. inl p) (λ (g, n, p, q). inr (g, given_refused (read g) (λ a n. (g, a)) q)) (bind_refused (graph_file gra 0) _ h)

-- under the graph of these bytes a file is read as what it encodes, and what is read is what it encodes
pub record ReadsAs {X : Type 0} (gra : List ℕ) (File : Graph → X → Type 0) (read : Graph → Read X) : Type 0 where
  pub gives : {g : Graph} {x : X} → GraphFile g gra → File g x → Came (read g) x
  pub back : {g : Graph} {x : X} {n : ℕ} → read g ≡ got x n → File g x
  pub reason : {g : Graph} {r : Refusal} → read g ≡ refused r → number_of r.reason ≤ 10

-- a query beside the nodes that are left to it
abbrev pub QueryLeft : List ℕ → Graph → XPath × ℕ → Type 0
QueryLeft qry g (p, left) = QueryFile g p qry × (left ≡ query_limit - query_nodes p)

module _ {gra : List ℕ} where
  pub document_reads : {tre : List ℕ} → Bytes tre → ReadsAs gra (λ g es. DocumentFile g es tre) (λ g. document_file element_limit g tre 0)
  document_reads {tre} bytes = record { gives = λ f d. (length tre, document_got f.legal d); back = λ h. document_file_lem bytes h; reason = λ {g} h. document_reason element_limit g tre h }

  pub tables_reads : {edg : List ℕ} → Bytes edg → ReadsAs gra (λ g es. TablesFile g es edg) (λ g. tables_file element_limit g edg 0)
  tables_reads {edg} bytes = record { gives = λ f d. (length edg, tables_got f.legal d); back = λ h. tables_file_lem bytes h; reason = λ {g} h. tables_reason element_limit g edg h }

  pub query_reads : {qry : List ℕ} → Bytes qry → ReadsAs gra (QueryLeft qry) (λ g. query_file g.k qry 0)
  query_reads {qry} bytes = record { gives = λ f (d, e). (length qry, rw e (query_got d)); back = λ h. query_file_lem bytes h; reason = λ {g} h. query_reason g.k qry h }

  pub program_reads : {rel : List ℕ} → Bytes rel → ReadsAs gra (λ g os. ProgramFile g os rel) (λ g. program_file g.k rel 0)
  program_reads {rel} bytes = record { gives = λ f d. (length rel, program_got d); back = λ h. program_file_lem bytes h; reason = λ {g} h. program_reason g.k rel h }

  -- one file and then another
  pub then_reads : {X Y : Type 0} {F : Graph → X → Type 0} {G : Graph → Y → Type 0} {r : Graph → Read X} {s : Graph → Read Y} → ReadsAs gra F r → ReadsAs gra G s
      → ReadsAs gra (λ g (z : X × Y). F g z.0 × G g z.1) (λ g. followed_by (r g) (s g))
  then_reads {r = r} {s = s} a b = record {
    gives = λ {g} f (x, y). let (m, p) = a.gives f x in let (n, q) = b.gives f y in (n, then_got (r g) (s g) p q);
    back = λ {g} h. let (m, p, q) = then_out (r g) (s g) h in (a.back p, b.back q);
    reason = λ {g} h. ⊎_elim (λ p. a.reason p) (λ q. b.reason q) (followed_refused (r g) (s g) h);
  }

  module _ {X : Type 0} {File : Graph → X → Type 0} {read : Graph → Read X} (reads : ReadsAs gra File read) where
    pub under_came : {g : Graph} {x : X} → GraphFile g gra → File g x → Came (under gra read) (g, x)
    under_came f d = let (n, h) = reads.gives f d in (n, under_got gra read (graph_got f) h)

    pub under_back : {u : Graph × X} {n : ℕ} → Bytes gra → under gra read ≡ got u n → GraphFile u.0 gra × File u.0 u.1
    under_back bytes h = let (m, p, q) = under_out gra read h in (graph_file_lem bytes p, reads.back q)

    pub under_reason : {r : Refusal} → under gra read ≡ refused r → number_of r.reason ≤ 10
    unfolding under
    under_reason h = ⊎_elim (λ p. graph_reason gra p) (λ (g, p). reads.reason p) (under_refused gra read h)
