-- One law for each way out: a file turns the call away, or all of them are there.
use Prim.Native.Nat.{ℕ, ◌-◌}
use mathlib.Core.Path.{◌≡◌, refl, ap, subst, ◌∙◌}
use mathlib.Core.List.{List}
use lib.ListN.{get_or, take}
use mir.Syntax.{w8}
use mir.Val.{Fits}
use Rattle.std.proofs.Common.{Ok, Err}
use Rattle.meaning.specs.declared.Element.{Element}
use Rattle.meaning.specs.declared.Graph.{Graph}
use Rattle.meaning.specs.declared.Program.{Program}
use Rattle.meaning.specs.declared.Refusal.{Refusal}
use Rattle.meaning.specs.Limits.{element_limit, query_limit}
use Rattle.meaning.specs.Documents.{Accepted}
use Rattle.meaning.specs.Queries.{XPath}
use Rattle.meaning.specs.Inside.Records.{program_of, operations_in, Numbered}
use Rattle.fields.specs.Read.{Read, got, refused, bind, mapped}
use Rattle.fields.specs.Inside.Outcomes.{file_of}
use Rattle.fields.proofs.Outcomes.{mapped_held}
use Rattle.elements.specs.Inside.Keeping.{Keeps}
use Rattle.elements.proofs.Keeping.{kept_there}
use Rattle.graph.specs.Gra.{graph_file}
use Rattle.graph.proofs.Known.{graph_turned, graph_held, graph_legal}
use Rattle.tre.specs.Tre.{document_file}
use Rattle.tre.proofs.File.{document_read_lem}
use Rattle.edg.specs.Edg.{tables_file}
use Rattle.edg.proofs.File.{tables_read_lem}
use Rattle.query.specs.Qry.{query_file}
use Rattle.rel.specs.Rel.{program_file}
use Rattle.program.proofs.Known.{program_held, program_legal}
use Rattle.files.proofs.Handed.{under_got, under_out}
use Rattle.files.specs.Inside.Opens.{Opens, OfElements, OfQuery, OfProgram, OfTablesThenQuery, OfTablesThenProgram}
use Rattle.files.specs.Files.{under, followed_by, document_under, tables_under, query_under, program_under, tables_then_query, tables_then_program}
use Rattle.files.specs.declared.Under.{Under}

-- The graph is refused, or the file under it.
module _ (gra : List ℕ) {A : Type 0} (f : Graph → Read A) {r : Refusal} where
  pub graph_away : Err r ≡ file_of (graph_file gra 0) → under gra f ≡ refused r
  unfolding under
  graph_away h = rw (graph_turned gra h)

  pub file_away : {g : Graph} → Ok g ≡ file_of (graph_file gra 0) → f g ≡ refused r → under gra f ≡ refused r
  unfolding under
  file_away p h = rw ((graph_held gra p).1, h)

module _ (gra : List ℕ) {g : Graph} (p : Ok g ≡ file_of (graph_file gra 0)) (bytes : (i : ℕ) → Fits w8 (get_or gra i 0)) where
  -- elements that are kept
  elements_there : (f : Graph → Read (List Element)) → ((es : List Element) (n : ℕ) → f g ≡ got es n → Accepted element_limit g es)
      → (kept : List Element) (count : ℕ) → Keeps (f g) kept (Ok count) → Opens (under gra f) (Ok (record { graph = g; read = count })) (OfElements kept)
  elements_there f accepted kept count k =
      let h = kept_there (f g) kept count k in (
        (g, take count kept),
        h.at,
        under_got gra f (graph_held gra p).1 h.reads,
        record {
          graph = refl;
          elements = refl;
          legal = graph_legal gra p bytes;
          accepted = accepted _ _ h.reads;
          whole = h.whole;
          room = h.room;
        },
      )

  pub document_there : (tre : List ℕ) → ((i : ℕ) → Fits w8 (get_or tre i 0)) → (kept : List Element) (count : ℕ) → Keeps (document_file element_limit g tre 0) kept (Ok count)
      → Opens (document_under gra tre) (Ok (record { graph = g; read = count })) (OfElements kept)
  document_there tre b = elements_there (λ g. document_file element_limit g tre 0) (λ es n e. (document_read_lem element_limit g tre (λ i. (b i).fits) e).0)

  pub tables_there : (edg : List ℕ) → ((i : ℕ) → Fits w8 (get_or edg i 0)) → (kept : List Element) (count : ℕ) → Keeps (tables_file element_limit g edg 0) kept (Ok count)
      → Opens (tables_under gra edg) (Ok (record { graph = g; read = count })) (OfElements kept)
  tables_there edg b = elements_there (λ g. tables_file element_limit g edg 0) (λ es n e. (tables_read_lem element_limit g (λ i. (b i).fits) e).0)

  pub query_there : (qry : List ℕ) {nodes : ℕ} → Ok nodes ≡ file_of (mapped (λ (x : XPath × ℕ). query_limit - x.1) (query_file g.k qry 0)) → Opens (query_under gra qry) (Ok (record { graph = g; read = nodes })) OfQuery
  query_there qry h =
      let (x, n, e, counts) = mapped_held _ (query_file g.k qry 0) h in
      ((g, x), n, under_got gra (λ g. query_file g.k qry 0) (graph_held gra p).1 e, record { graph = refl; legal = graph_legal gra p bytes; counts = counts })

  pub program_there : (rel : List ℕ) → ((i : ℕ) → Fits w8 (get_or rel i 0)) → {program : Program} → Ok program ≡ file_of (mapped program_of (program_file g.k rel 0)) → Numbered program
      → Opens (program_under gra rel) (Ok (record { graph = g; read = program })) OfProgram
  program_there rel b {program} h numbered =
      let held = program_held g.k rel h in (
        (g, operations_in program),
        held.at,
        under_got gra (λ g. program_file g.k rel 0) (graph_held gra p).1 held.reads,
        record {
          graph = refl;
          steps = refl;
          legal = graph_legal gra p bytes;
          lawful = program_legal g.k rel held b;
          whole = held.whole;
          numbered = numbered;
        },
      )

-- Tables, and then a file under the same graph.
module _ (gra edg : List ℕ) where
  -- the tables are refused, or the graph before them
  pub tables_away : {A : Type 0} (f : Graph → Read A) {r : Refusal} → tables_under gra edg ≡ refused r → under gra (λ g. followed_by (tables_file element_limit g edg 0) (f g)) ≡ refused r
  unfolding under followed_by
  tables_away {A} f {r} h = by_graph (graph_file gra 0) h
    where
      by_tables : (g : Graph) (t : Read (List Element)) → bind {B = Graph × List Element} t (λ a n. got (g, a) n) ≡ refused r
          → bind {B = Graph × (List Element × A)} (bind {B = List Element × A} t λ a _. bind {B = List Element × A} (f g) λ b n. got (a, b) n) (λ a n. got (g, a) n) ≡ refused r
      by_tables g (got es n) h = cc
      by_tables g (refused q) h = cc

      by_graph : (e : Read Graph) → bind {B = Graph × List Element} e (λ g _. bind {B = Graph × List Element} (tables_file element_limit g edg 0) λ a n. got (g, a) n) ≡ refused r
          → bind {B = Graph × (List Element × A)} e (λ g _. bind {B = Graph × (List Element × A)} (bind {B = List Element × A} (tables_file element_limit g edg 0) λ a _. bind {B = List Element × A} (f g) λ b n. got (a, b) n) λ a n. got (g, a) n) ≡ refused r
      by_graph (got g m) h = by_tables g (tables_file element_limit g edg 0) h
      by_graph (refused q) h = cc

  module _ {kept : List Element} {o : Under ℕ} (p : Opens (tables_under gra edg) (Ok o) (OfElements kept)) {A : Type 0} (f : Graph → Read A) where
    -- the tables are there, and what follows them is refused, or there too
    pub behind_away : {r : Refusal} → f o.graph ≡ refused r → under gra (λ g. followed_by (tables_file element_limit g edg 0) (f g)) ≡ refused r
    unfolding under followed_by
    behind_away h =
        let (x, n, e, w) = p in
        let (m, read, tables) = under_out gra (λ g. tables_file element_limit g edg 0) e in
        let graph : graph_file gra 0 ≡ got o.graph m = read ∙ ap (λ g. got g m) w.graph in
        let there : tables_file element_limit o.graph edg 0 ≡ got x.1 n = subst (λ g. tables_file element_limit g edg 0 ≡ got x.1 n) w.graph tables in
        rw (graph, there, h)

    behind_there : {a : A} {k : ℕ} → f o.graph ≡ got a k → under gra (λ g. followed_by (tables_file element_limit g edg 0) (f g)) ≡ got (o.graph, (take o.read kept, a)) k
    unfolding under followed_by
    behind_there h =
        let (x, n, e, w) = p in
        let (m, read, tables) = under_out gra (λ g. tables_file element_limit g edg 0) e in
        let graph : graph_file gra 0 ≡ got o.graph m = read ∙ ap (λ g. got g m) w.graph in
        let there : tables_file element_limit o.graph edg 0 ≡ got x.1 n = subst (λ g. tables_file element_limit g edg 0 ≡ got x.1 n) w.graph tables in
        rw (graph, there, h, w.elements)

  module _ {kept : List Element} {o : Under ℕ} (p : Opens (tables_under gra edg) (Ok o) (OfElements kept)) where
    pub query_behind : (qry : List ℕ) {nodes : ℕ} → Ok nodes ≡ file_of (mapped (λ (x : XPath × ℕ). query_limit - x.1) (query_file o.graph.k qry 0)) → Opens (tables_then_query gra edg qry) (Ok o) (OfTablesThenQuery kept)
    query_behind qry h =
        let (x, n, e, _) = mapped_held _ (query_file o.graph.k qry 0) h in
        let (_, _, _, w) = p in
        ((o.graph, (take o.read kept, x)), n, behind_there p (λ g. query_file g.k qry 0) e, record { graph = refl; elements = refl; legal = w.legal; accepted = w.accepted; whole = w.whole; room = w.room })

    pub program_behind : (rel : List ℕ) → ((i : ℕ) → Fits w8 (get_or rel i 0)) → {program : Program} → Ok program ≡ file_of (mapped program_of (program_file o.graph.k rel 0)) → Numbered program
        → Opens (tables_then_program gra edg rel) (Ok (record { count = o.read; program = program })) (OfTablesThenProgram kept)
    program_behind rel b {program} h numbered =
        let held = program_held o.graph.k rel h in
        let (_, _, _, w) = p in (
          (o.graph, (take o.read kept, operations_in program)),
          held.at,
          behind_there p (λ g. program_file g.k rel 0) held.reads,
          record {
            elements = record { graph = refl; elements = refl; legal = w.legal; accepted = w.accepted; whole = w.whole; room = w.room };
            steps = record { graph = refl; steps = refl; legal = w.legal; lawful = program_legal o.graph.k rel held b; whole = held.whole; numbered = numbered };
          },
        )
