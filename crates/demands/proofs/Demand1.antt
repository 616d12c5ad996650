-- Every call accepts exactly what encodes something legal and has its room; otherwise it answers one number of the table and leaves
-- what it was lent as it came.
use Prim.Native.Nat.{ℕ, suc, ◌-◌, ◌*◌, ◌≤◌, ◌<◌}
use mathlib.Core.Path.{◌≡◌, refl, sym, ap, subst, ◌∙◌}
use mathlib.Core.Bool.{Bool, true, false, ◌&&◌}
use mathlib.Core.Logic.{◌⊎◌, inl, inr, ⊎_elim}
use mathlib.Core.List.{List}
use native.Mathlib.Omega.{arith}
use lib.Dec.{leb}
use lib.ListN.{length}
use borrow.Author.Tests.{le-leb, leb-true, leb-false}
use Rattle.meaning.specs.declared.Answer.{Answer}
use Rattle.meaning.specs.declared.Element.{Element}
use Rattle.meaning.specs.declared.Graph.{Graph}
use Rattle.meaning.specs.declared.Operation.{Operation}
use Rattle.meaning.specs.declared.Reason.TheVariants.{Steps}
use Rattle.meaning.specs.declared.Refusal.{Refusal}
use Rattle.meaning.specs.Refused.{number_of}
use Rattle.meaning.specs.Limits.{types, small, element_limit, query_limit, step_limit, room_bytes}
use Rattle.meaning.specs.Graphs.{LegalGraph}
use Rattle.meaning.specs.Documents.{View, view, is_element, Accepted}
use Rattle.meaning.specs.Queries.{XPath, query_nodes, reaches, selected}
use Rattle.meaning.specs.Operations.{answer}
use Rattle.meaning.specs.Translation.{translated, step_count}
use Rattle.meaning.proofs.Theorems.{step_count_written}
use Rattle.meaning.proofs.Views.{accepted_keeps}
use Rattle.meaning.proofs.KindSets.{edge_types}
use Rattle.fields.specs.Read.{Read, got, refused, bind, pick, mapped}
use Rattle.fields.specs.Write.{Bytes}
use Rattle.fields.proofs.Formats.{bind_out, pick_out, got_same, refused_out}
use Rattle.graph.specs.Gra.{graph_file}
use Rattle.graph.proofs.Reasons.{graph_reason}
use Rattle.tre.specs.Tre.{document_bytes}
use Rattle.edg.specs.Edg.{tables_file, tables_bytes}
use Rattle.query.specs.Qry.{query_file}
use Rattle.rel.specs.Rel.{program_bytes}
use Rattle.files.specs.Files.{under, query_under, program_under, tables_then_program, tables_then_query, followed_by}
use Rattle.files.proofs.Handed.{mapped_got}
use Rattle.writing.specs.Lent.{Lent, lent}
use Rattle.convert.specs.Convert.{shredded, rebuilt}
use Rattle.masks.specs.Announcement.{announcement}
use Rattle.announce.specs.declared.Checked.{Checked}
use Rattle.announce.specs.Check.{check_of}
use Rattle.rows.proofs.Cases.{by_order}
use Rattle.rows.proofs.Tallies.{tally_most}
use Rattle.rooms.specs.Run.{Ran, performed}
use Rattle.runner.specs.Run.{ran, to_run, run_of}
use Rattle.runner.proofs.Theorems.{few_nodes}
use Rattle.text.specs.Listing.{listing, listing_room}
use Rattle.text.proofs.LineLaws.{listing_most}
use Rattle.translator.specs.Translate.{bounded_program, translation}
use Rattle.trammelbud.specs.Calls.{answer_of, read_graph, read_document, read_tables, read_query, read_program, Asked, asking, asked, asked_or, chosen, select_of, told, list_of}
use Rattle.trammelbud.proofs.Lists.{kinds_small}
use Rattle.trammelbud.proofs.Outcomes.{TbReadGraph, TbReadDocument, TbReadTables, TbReadQuery, TbReadProgram, TbShred, TbRebuild, TbTranslate, TbCheck, TbRun, TbSelect, TbList}
use Rattle.trammelbud.proofs.Carried.{read_graph_is, read_document_is, read_tables_is, read_query_is, read_program_is, shred_is, rebuild_is, translate_is, check_is, run_is, select_is, list_is}
use Rattle.demands.specs.Demands.{GraphFile, DocumentFile, TablesFile, QueryFile, ProgramFile, Under, RunRoom, TextRoom, TooLong, TooLongOver, Answers, Writes, Runs, Checks, Demand1}
use Rattle.demands.proofs.Readings.{Came, ReadsAs, graph_got, graph_file_lem, bind_refused, given_refused, QueryLeft, document_reads, tables_reads, query_reads, program_reads, then_reads, under_came, under_back, under_reason}
use Rattle.demands.proofs.Judged.{kept, Taken, reader_answers, answers, for_length, for_room, Fitting, read_judged, lent_judged, lent_rest, check_judged, left, run_judged, run_rest}
use Rattle.demands.proofs.Asking.{asks, few_asked}
use Rattle.demands.proofs.Named.{selected_lists}

-- what was made was made of something
mapped_out : {A B : Type 0} (f : A → B) (e : Read A) {y : B} {n : ℕ} → mapped f e ≡ got y n → (x : A) × (e ≡ got x n) × (f x ≡ y)
unfolding mapped
mapped_out f e h =
    let (x, m, p, q) = bind_out e (λ a n. got (f a) n) h in
    let (same, end) = got_same q in
    (x, p ∙ ap (got x) end, same)

mapped_refused_out : {A B : Type 0} (f : A → B) (e : Read A) {r : Refusal} → mapped f e ≡ refused r → e ≡ refused r
unfolding mapped
mapped_refused_out f e h = given_refused e (λ a n. f a) h

not_le : {m n : ℕ} → (m ≤ n → ⊥) → n < m
not_le {m} {n} none = by_order n m (λ l. l) (λ l. absurd (none l))

-- a query has a program where its steps are few, and that one
program_came : (g : Graph) (p : XPath) (n : ℕ) → step_count p ≤ step_limit → bounded_program g p n ≡ got (translated g p) n
unfolding bounded_program
program_came g p n few = rw (le-leb (step_count p) step_limit few)

program_back : (g : Graph) (p : XPath) (m : ℕ) {os : List Operation} {n : ℕ} → bounded_program g p m ≡ got os n → (step_count p ≤ step_limit) × (translated g p ≡ os)
unfolding bounded_program
program_back g p m h = let (few, is) = pick_out _ _ _ h in (leb-true (step_count p) step_limit few, (got_same is).0)

-- and has none with 11, where they are many
bounded_long : (g : Graph) (p : XPath) (n : ℕ) {r : Refusal} → bounded_program g p n ≡ refused r → (number_of r.reason ≡ 11) × (step_limit < step_count p)
unfolding bounded_program
bounded_long g p n {r} h = by_count (leb (step_count p) step_limit) refl h
  where
    by_count : (b : Bool) → leb (step_count p) step_limit ≡ b → pick b (got (translated g p) n) (refused (record { reason = Steps })) ≡ refused r → (number_of r.reason ≡ 11) × (step_limit < step_count p)
    by_count true e h = refused_out (sym h)
    by_count false e h = let same : record { reason = Steps } ≡ r = cc in (rw (← same), omega (arith, leb-false (step_count p) step_limit e))

-- a reading is turned away with a number up to 10, or with 11 and for its length
abbrev Reasons : {U : Type 0} → Read U → Type 0 → Type 0
Reasons e Long = (r : Refusal) → e ≡ refused r → (number_of r.reason ≤ 10) ⊎ ((number_of r.reason ≡ 11) × Long)

reasons_most : {U : Type 0} {e : Read U} {Long : Type 0} → Reasons e Long → (r : Refusal) → e ≡ refused r → number_of r.reason ≤ 11
reasons_most reasons r h = ⊎_elim (λ l. omega (arith, l)) (λ (is, long). omega (arith, is)) (reasons r h)

reasons_long : {U : Type 0} {e : Read U} {Long : Type 0} → Reasons e Long → (r : Refusal) × (e ≡ refused r) × (number_of r.reason ≡ 11) → Long
reasons_long reasons (r, h, is) = ⊎_elim (λ l. absurd (omega (arith, l, is))) (λ (_, long). long) (reasons r h)

-- what a run and what the calls on a query leave, by their readings
ran_left : (e : Read (View × List Operation)) (out work : List ℕ) → ran e out work ≡ left (λ u. u.0.size) (λ u. answer u.0 u.1) (λ u. u.0) (λ u. u.1) out work e
unfolding ran performed
ran_left (got u n) out work = refl
ran_left (refused r) out work = refl

chosen_left : (e : Read Asked) (out work : List ℕ) → asked_or chosen e out work ≡ left (λ a. a.view.size) (λ a. selected a.view a.path) (λ a. a.view) (λ a. a.program) out work e
unfolding asked_or chosen
chosen_left (got a n) out work = refl
chosen_left (refused r) out work = refl

told_left : (e : Read Asked) (out work : List ℕ)
    → asked_or told e out work ≡ left (λ a. listing_room a.view.size) (λ a. listing a.view (selected a.view a.path)) (λ a. a.view) (λ a. a.program) out work e
unfolding asked_or told
told_left (got a n) out work = refl
told_left (refused r) out work = refl

-- no more nodes are selected than there are, and their listing has the room that is asked for
selected_most : (es : List Element) (p : XPath) → length (selected (view es) p) ≤ suc (length es)
unfolding selected view
selected_most es p = tally_most (suc (length es)) (λ w. (view es).there w && reaches p (view es) 0 w)

listing_fits : (g : Graph) → LegalGraph g → (es : List Element) → Accepted element_limit g es → (p : XPath) → length (listing (view es) (selected (view es) p)) ≤ listing_room (suc (length es))
unfolding view is_element
listing_fits g legal es accepted p =
    let keeps = accepted_keeps element_limit g es accepted in
    let kinds : (w : ℕ) → is_element (view es) w ≡ true → (view es).kind w < types = λ w e. omega (arith, (edge_types g legal _ _ (keeps.edge w e)).1, legal.most_types) in
    listing_most (view es) (omega (arith, accepted.most_elements)) (kinds_small es kinds) accepted.texts (selected (view es) p) (selected_lists es p).below (selected_most es p)

-- a reader alone has nothing to ask room for
alone : {X : Type 0} {most : ℕ} {Files : X → Type 0} {count : X → ℕ} {a : Answer} → Answers most (λ x. Files x × Unit {0}) count a → Answers most Files count a
alone h = record { accepts = λ x f. h.accepts x (f, tt); only = λ z. let (x, (f, _)) = h.only z in (x, f); number = h.number; alone = h.alone }

-- a call that writes a file, by what its reading gives
writes_by : {X : Type 0} {Long : Type 0} {Files : X → Type 0} {file : X → List ℕ} (e : Read (List ℕ)) (out : List ℕ) → ((x : X) → Files x → Came e (file x))
    → ((u : List ℕ) → Came e u → (x : X) × Files x × (file x ≡ u)) → Reasons e Long → Writes Long Files file out (lent e out)
writes_by {Files = Files} {file} e out there back reasons =
    let judged = lent_judged e out in
    let taken : Taken 11 e (λ u. length u ≤ length out) length Files (λ x. length (file x) ≤ length out) (λ x. length (file x)) = record {
      there = λ x f. (file x, there x f, λ l. l, refl);
      back = λ {u} c. let (x, f, same) = back u c in (x, f, λ l. rw same l, λ l. rw same at l);
      reason = λ {r} h. reasons_most reasons r h;
    } in
    record {
      answers = answers taken judged;
      long = λ h. reasons_long reasons (for_length taken judged h);
      short = λ h. let (x, f, none) = for_room taken (omega arith) judged h in (x, f, not_le none);
      kept = kept judged;
      rest = lent_rest e out;
    }

module _ (gra : List ℕ) (bytes : Bytes gra) where
  reads : {X : Type 0} {File : Graph → X → Type 0} {read : Graph → Read X} → ReadsAs gra File read → (count : Graph × X → ℕ)
      → Answers 10 (Under gra File) count (answer_of (mapped count (under gra read)))
  reads {read = read} r count =
      alone (reader_answers
      (record { there = λ x (f, d). (x, under_came r f d, λ t. tt, refl); back = λ {u} (n, h). (u, under_back r bytes h, λ t. tt, λ t. tt); reason = λ h. under_reason r h })
      (λ u. tt) (read_judged count (under gra read)))

  graph_answers : {a : Answer} → TbReadGraph gra a → Answers 10 (λ g. GraphFile g gra) (λ g. g.k) a
  unfolding read_graph
  graph_answers {a} c =
      rw ((read_graph_is gra).only a c) (alone (reader_answers
      (record { there = λ g f. (g, (length gra, graph_got f), λ t. tt, refl); back = λ {u} (n, h). (u, graph_file_lem bytes h, λ t. tt, λ t. tt); reason = λ h. graph_reason gra h })
      (λ u. tt) (read_judged (λ g. g.k) (graph_file gra 0))))

  document_answers : {tre : List ℕ} {a : Answer} → Bytes tre → TbReadDocument gra tre a → Answers 10 (Under gra λ g es. DocumentFile g es tre) (λ x. length x.1) a
  unfolding read_document
  document_answers {tre} {a} more c = rw ((read_document_is gra tre).only a c) (reads (document_reads more) (λ x. length x.1))

  tables_answers : {edg : List ℕ} {a : Answer} → Bytes edg → TbReadTables gra edg a → Answers 10 (Under gra λ g es. TablesFile g es edg) (λ x. length x.1) a
  unfolding read_tables
  tables_answers {edg} {a} more c = rw ((read_tables_is gra edg).only a c) (reads (tables_reads more) (λ x. length x.1))

  program_answers : {rel : List ℕ} {a : Answer} → Bytes rel → TbReadProgram gra rel a → Answers 10 (Under gra λ g os. ProgramFile g os rel) (λ x. length x.1) a
  unfolding read_program
  program_answers {rel} {a} more c = rw ((read_program_is gra rel).only a c) (reads (program_reads more) (λ x. length x.1))

  -- the nodes that a query has are those that it leaves of the allowed ones
  query_answers : {qry : List ℕ} {a : Answer} → Bytes qry → TbReadQuery gra qry a → Answers 10 (Under gra λ g p. QueryFile g p qry) (λ x. query_nodes x.1) a
  unfolding read_query
  query_answers {qry} {a} more c =
      rw ((read_query_is gra qry).only a c) (alone (reader_answers
      (record {
        there = λ x (f, d). ((x.0, (x.1, query_limit - query_nodes x.1)), under_came (query_reads more) f (d, refl), λ t. tt, omega (arith, d.few_nodes));
        back = λ {u} (n, h). let (f, d) = under_back (query_reads more) bytes h in ((u.0, u.1.0), (f, d.0), λ t. tt, λ t. tt);
        reason = λ h. under_reason (query_reads more) h;
      })
      (λ u. tt) (read_judged (λ x. query_limit - x.1.1) (query_under gra qry))))

  writes : {X : Type 0} {File : Graph → X → Type 0} {read : Graph → Read X} → ReadsAs gra File read → (write : Graph × X → List ℕ) (out : List ℕ)
      → Writes ⊥ (Under gra File) write out (lent (mapped write (under gra read)) out)
  writes {read = read} r write out =
      writes_by (mapped write (under gra read)) out
      (λ x (f, d). let (n, h) = under_came r f d in (n, mapped_got write h))
      (λ u (n, h). let (x, p, same) = mapped_out write (under gra read) h in (x, under_back r bytes p, same))
      (λ q h. inl (under_reason r (mapped_refused_out write (under gra read) h)))

  shred_writes : {tre out : List ℕ} {l : Lent} → Bytes tre → TbShred gra tre out l → Writes ⊥ (Under gra λ g es. DocumentFile g es tre) (λ x. tables_bytes x.0 x.1) out l
  unfolding shredded
  shred_writes {tre} {out} {l} more c = rw ((shred_is gra tre out).only l c) (writes (document_reads more) (λ x. tables_bytes x.0 x.1) out)

  rebuild_writes : {edg out : List ℕ} {l : Lent} → Bytes edg → TbRebuild gra edg out l → Writes ⊥ (Under gra λ g es. TablesFile g es edg) (λ x. document_bytes x.1) out l
  unfolding rebuilt
  rebuild_writes {edg} {out} {l} more c = rw ((rebuild_is gra edg out).only l c) (writes (tables_reads more) (λ x. document_bytes x.1) out)

  translate_writes : {qry out : List ℕ} {l : Lent} → Bytes qry → TbTranslate gra qry out l
      → Writes (TooLong gra qry) (Under gra λ g p. QueryFile g p qry × (step_count p ≤ step_limit)) (λ x. program_bytes (translated x.0 x.1)) out l
  unfolding translation
  translate_writes {qry} {out} {l} more c =
      rw ((translate_is gra qry out).only l c) (writes_by (bind (query_under gra qry) λ x at. mapped program_bytes (bounded_program x.0 x.1.0 at)) out
      (λ x (f, (d, few)).
      let (n, h) = under_came (query_reads more) f (d, refl) in
      (n, rw h (mapped_got program_bytes (program_came x.0 x.1 n few))))
      (λ u (n, h).
      let (x, m, p, q) = bind_out (query_under gra qry) _ h in
      let (os, made, same) = mapped_out program_bytes (bounded_program x.0 x.1.0 m) q in
      let (few, is) = program_back x.0 x.1.0 m made in
      let (f, d) = under_back (query_reads more) bytes p in
      ((x.0, x.1.0), (f, (d.0, few)), ap program_bytes is ∙ same))
      (λ r h.
      ⊎_elim (λ p. inl (under_reason (query_reads more) p))
      (λ (x, n, p, q).
      let (is, many) = bounded_long x.0 x.1.0 n (mapped_refused_out program_bytes (bounded_program x.0 x.1.0 n) q) in
      let (f, d) = under_back (query_reads more) bytes p in
      inr (is, ((x.0, x.1.0), (f, (d.0, many)))))
      (bind_refused (query_under gra qry) _ h)))

  check_checks : {rel : List ℕ} {c : Checked} → Bytes rel → TbCheck gra rel c → Checks (Under gra λ g os. ProgramFile g os rel) c
  unfolding check_of
  check_checks {rel} {c} more h =
      rw ((check_is gra rel).only c h) (check_judged (Under gra λ g os. ProgramFile g os rel) (program_under gra rel) (λ x. announcement x.0 x.1)
      (λ x (f, d). under_came (program_reads more) f d) (λ x (n, e). under_back (program_reads more) bytes e) (λ r e. under_reason (program_reads more) e))

  run_runs : {edg rel out work : List ℕ} {r : Ran} → Bytes edg → Bytes rel → TbRun gra edg rel out work r
      → Runs ⊥ (Under gra λ g (x : List Element × List Operation). TablesFile g x.0 edg × ProgramFile g x.1 rel)
      (λ x. RunRoom x.1.0 (length x.1.1) out work) (λ x. length (answer (view x.1.0) x.1.1)) out work r
  unfolding run_of view
  run_runs {edg} {rel} {out} {work} {r} tables program c =
      let reading = then_reads (tables_reads tables) (program_reads program) in
      let e = mapped to_run (tables_then_program gra edg rel) in
      let judged = run_judged (λ u. u.0.size) (λ u. answer u.0 u.1) (λ u. u.0) (λ u. u.1) out work e in
      let taken : Taken 11 e (λ u. Fitting u.0.size u.1 out work) (λ u. length (answer u.0 u.1))
      (Under gra λ g (x : List Element × List Operation). TablesFile g x.0 edg × ProgramFile g x.1 rel)
      (λ x. RunRoom x.1.0 (length x.1.1) out work) (λ x. length (answer (view x.1.0) x.1.1)) = record {
        there = λ x (f, (t, p)).
            let (n, h) = under_came reading f (t, p) in
            (to_run (x.0, (x.1.0, x.1.1)), (n, mapped_got to_run h), λ room. (omega (arith, room.for_nodes), room.for_steps), refl);
        back = λ {u} (n, h).
            let (x, p, same) = mapped_out to_run (tables_then_program gra edg rel) h in (
              x,
              under_back reading bytes p,
              λ fits. record { for_nodes = omega (arith, fits.0, ap (λ u. u.0.size) same); for_steps = rw (ap (λ u. u.1) same) fits.1 },
              λ room. (omega (arith, room.for_nodes, ap (λ u. u.0.size) same), rw (ap (λ u. u.1) same) at room.for_steps),
            );
        reason = λ h. omega (arith, under_reason reading (mapped_refused_out to_run (tables_then_program gra edg rel) h));
      } in
      rw ((run_is gra edg rel out work).only r c, ran_left e out work) record {
        answers = answers taken judged;
        long = λ h. let (q, p, is) = for_length taken judged h in absurd (omega (arith, is, under_reason reading (mapped_refused_out to_run (tables_then_program gra edg rel) p)));
        short = for_room taken (omega arith) judged;
        kept = kept judged;
        rest = run_rest (λ u. u.0.size) (λ u. answer u.0 u.1) (λ u. u.0) (λ u. u.1) out work e (λ u c. few_nodes u.0 u.1);
      }

  -- what a query asks for is read where its files are there and its steps are few
  module _ (edg qry : List ℕ) (tables : Bytes edg) (query : Bytes qry) where
    reading : ReadsAs gra (λ g (x : List Element × (XPath × ℕ)). TablesFile g x.0 edg × QueryLeft qry g x.1) (λ g. followed_by (tables_file element_limit g edg 0) (query_file g.k qry 0))
    reading = then_reads (tables_reads tables) (query_reads query)

    asked_came : {g : Graph} {es : List Element} {p : XPath} → GraphFile g gra → TablesFile g es edg → QueryFile g p qry → step_count p ≤ step_limit → Came (asked gra edg qry) (asks g es p)
    asked_came f t q few = (length qry, few_asked f t q few)

    asked_back : {a : Asked} {n : ℕ} → asked gra edg qry ≡ got a n
        → (g : Graph) × (es : List Element) × (p : XPath) × GraphFile g gra × TablesFile g es edg × QueryFile g p qry × (step_count p ≤ step_limit) × (asks g es p ≡ a)
    unfolding asked
    asked_back h =
        let (x, m, r, rest) = bind_out (tables_then_query gra edg qry) asking h in
        let (os, made, same) = mapped_out _ (bounded_program x.0 x.1.1.0 m) rest in
        let (few, is) = program_back x.0 x.1.1.0 m made in
        let (f, (t, q)) = under_back reading bytes r in
        (x.0, x.1.0, x.1.1.0, f, t, q.0, few, rw is same)

    asked_reasons : Reasons (asked gra edg qry) (TooLongOver gra edg qry)
    unfolding asked
    asked_reasons r h =
        ⊎_elim (λ p. inl (under_reason reading p))
        (λ (x, n, p, q).
        let (is, many) = bounded_long x.0 x.1.1.0 n (mapped_refused_out _ (bounded_program x.0 x.1.1.0 n) q) in
        let (f, (t, d)) = under_back reading bytes p in
        inr (is, ((x.0, (x.1.0, x.1.1.0)), (f, (t, d.0, many)))))
        (bind_refused (tables_then_query gra edg qry) asking h)

    abbrev Files : Graph × (List Element × XPath) → Type 0
    Files = Under gra λ g (x : List Element × XPath). TablesFile g x.0 edg × QueryFile g x.1 qry × (step_count x.1 ≤ step_limit)

    -- a call that leaves in its first buffer something of the view and the path, where there is room
    asks_runs : (room : ℕ → ℕ) (leave : View → XPath → List ℕ) (Roomed : List Element → ℕ → Type 0) {out work : List ℕ}
        → ((es : List Element) (steps : ℕ) → Roomed es steps → (room (suc (length es)) ≤ length out) × (room_bytes small.row * steps ≤ length work))
        → ((es : List Element) (steps : ℕ) → room (suc (length es)) ≤ length out → room_bytes small.row * steps ≤ length work → Roomed es steps)
        → ((g : Graph) (es : List Element) (p : XPath) → LegalGraph g → Accepted element_limit g es → length (leave (view es) p) ≤ room (suc (length es)))
        → Runs (TooLongOver gra edg qry) Files (λ x. Roomed x.1.0 (step_count x.1.1)) (λ x. length (leave (view x.1.0) x.1.1)) out work
        (left (λ a. room a.view.size) (λ a. leave a.view a.path) (λ a. a.view) (λ a. a.program) out work (asked gra edg qry))
    unfolding view
    asks_runs room leave Roomed {out} {work} fits roomed most =
        let judged = run_judged (λ a. room a.view.size) (λ a. leave a.view a.path) (λ a. a.view) (λ a. a.program) out work (asked gra edg qry) in
        let fit : (g : Graph) (es : List Element) (p : XPath) → Roomed es (step_count p) → Fitting (room (suc (length es))) (translated g p) out work =
        λ g es p given. let (a, b) = fits es (step_count p) given in (a, rw (step_count_written g p) b) in
        let taken : Taken 11 (asked gra edg qry) (λ a. Fitting (room a.view.size) a.program out work) (λ a. length (leave a.view a.path))
        Files (λ x. Roomed x.1.0 (step_count x.1.1)) (λ x. length (leave (view x.1.0) x.1.1)) = record {
          there = λ x (f, (t, q, few)). (asks x.0 x.1.0 x.1.1, asked_came f t q few, fit x.0 x.1.0 x.1.1, refl);
          back = λ {u} (n, h).
              let (g, es, p, f, t, q, few, same) = asked_back h in (
                (g, (es, p)),
                (f, (t, q, few)),
                λ given.
                    let for_steps : room_bytes small.row * step_count p ≤ length work = rw (← step_count_written g p, ap (λ a. a.program) same) given.1 in
                    roomed es (step_count p) (rw (ap (λ a. a.view.size) same) given.0) for_steps,
                λ given. subst (λ a. Fitting (room a.view.size) a.program out work) same (fit g es p given),
              );
          reason = λ {r} h. reasons_most asked_reasons r h;
        } in
        record {
          answers = answers taken judged;
          long = λ h. reasons_long asked_reasons (for_length taken judged h);
          short = for_room taken (omega arith) judged;
          kept = kept judged;
          rest = run_rest (λ a. room a.view.size) (λ a. leave a.view a.path) (λ a. a.view) (λ a. a.program) out work (asked gra edg qry) λ a (n, h).
              let (g, es, p, f, t, q, few, same) = asked_back h in
              subst (λ a. length (leave a.view a.path) ≤ room a.view.size) same (most g es p f.legal t.legal);
        }

    select_runs : {out work : List ℕ} {r : Ran} → TbSelect gra edg qry out work r
        → Runs (TooLongOver gra edg qry) Files (λ x. RunRoom x.1.0 (step_count x.1.1) out work) (λ x. length (selected (view x.1.0) x.1.1)) out work r
    unfolding select_of
    select_runs {out} {work} {r} c =
        rw ((select_is gra edg qry out work).only r c, chosen_left (asked gra edg qry) out work)
        (asks_runs (λ n. n) selected (λ es steps. RunRoom es steps out work) (λ es steps room. (omega (arith, room.for_nodes), room.for_steps))
        (λ es steps a b. record { for_nodes = omega (arith, a); for_steps = b }) (λ g es p legal accepted. selected_most es p))

    list_runs : {text work : List ℕ} {r : Ran} → TbList gra edg qry text work r
        → Runs (TooLongOver gra edg qry) Files (λ x. TextRoom x.1.0 (step_count x.1.1) text work) (λ x. length (listing (view x.1.0) (selected (view x.1.0) x.1.1))) text work r
    unfolding list_of
    list_runs {text} {work} {r} c =
        rw ((list_is gra edg qry text work).only r c, told_left (asked gra edg qry) text work)
        (asks_runs listing_room (λ d p. listing d (selected d p)) (λ es steps. TextRoom es steps text work) (λ es steps room. (omega (arith, room.for_text), room.for_steps))
        (λ es steps a b. record { for_text = omega (arith, a); for_steps = b }) (λ g es p legal accepted. listing_fits g legal es accepted p))

  pub demand_1 : Demand1 gra bytes
  demand_1 = record {
    read_graph = graph_answers;
    read_document = document_answers;
    read_tables = tables_answers;
    read_query = query_answers;
    read_program = program_answers;
    shred = shred_writes;
    rebuild = rebuild_writes;
    translate = translate_writes;
    check = check_checks;
    run = run_runs;
    select = λ {edg} {qry} tables query c. select_runs edg qry tables query c;
    list = λ {edg} {qry} tables query c. list_runs edg qry tables query c;
  }
