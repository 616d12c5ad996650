-- The program that a query asks for: one law for each return of its planning, and for what is done with it.
use Prim.Native.Nat.{ℕ, ◌≤◌, ◌<◌}
use Rattle.std.proofs.Common.{Result, Ok, IfOk}
use mathlib.Core.Path.{◌≡◌, refl, sym, ap, subst, ◌∙◌}
use mathlib.Core.Bool.{Bool, true, false}
use mathlib.Core.List.{List}
use native.Mathlib.Omega.{arith}
use lib.Dec.{leb}
use lib.ListN.{length, get_or, take}
use borrow.Author.Tests.{le-leb, lt-leb, leb-true, leb-false}
use mir.Syntax.{w8}
use mir.Val.{Fits}
use Rattle.meaning.specs.declared.Answer.{Answer}
use Rattle.meaning.specs.declared.Element.{Element}
use Rattle.meaning.specs.declared.Graph.{Graph}
use Rattle.meaning.specs.declared.Operation.{Operation}
use Rattle.meaning.specs.declared.Program.{Program}
use Rattle.meaning.specs.declared.Reason.{Reason}
use Rattle.meaning.specs.declared.Reason.TheVariants.{Steps}
use Rattle.meaning.specs.declared.Refusal.{Refusal}
use Rattle.meaning.specs.Limits.{words, element_limit, step_limit}
use Rattle.meaning.specs.Documents.{view, Accepted}
use Rattle.meaning.specs.Queries.{XPath}
use Rattle.meaning.specs.Operations.{answer}
use Rattle.meaning.specs.Inside.Records.{program_of, operations_in, Numbered}
use Rattle.meaning.specs.Translation.{translated, step_count}
use Rattle.meaning.proofs.Records.{program_holds, program_numbered}
use Rattle.meaning.proofs.Theorems.{translation_is_right}
use Rattle.fields.specs.Read.{got, refused, pick, mapped}
use Rattle.fields.specs.Inside.Outcomes.{file_of}
use Rattle.query.specs.Qry.{query_file}
use Rattle.query.proofs.File.{query_read_lem}
use Rattle.edg.specs.Edg.{tables_file}
use Rattle.rel.specs.Rel.{program_file, program_bytes}
use Rattle.writing.specs.Lent.{Lent, accepted, turned_away, over, lent, Leaves}
use Rattle.writing.proofs.Puts.{over_front, over_length}
use Rattle.writing.proofs.Stored.{stored_there}
use Rattle.writing.proofs.Told.{same_number, some_number}
use Rattle.files.specs.declared.Under.{Under}
use Rattle.files.specs.declared.Runnable.{Runnable}
use Rattle.files.specs.Inside.Opens.{Opens, OfElements, OfTablesThenQuery}
use Rattle.files.specs.Files.{followed_by, tables_then_query}
use Rattle.files.proofs.Handed.{under_out, then_out, mapped_got, mapped_refused}
use Rattle.rooms.specs.Run.{Gives, performed}
use Rattle.runner.proofs.Prepared.{ready}
use Rattle.translator.specs.Inside.Translatable.{AcceptedQuery}
use Rattle.translator.specs.Translate.{bounded_program}
use Rattle.translator.specs.Inside.Translated.{translated_query, translated_under}
use Rattle.translator.proofs.Checked.{file_length, translated_checked, translated_stored}
use Rattle.trammelbud.specs.Calls.{asked, asked_or, chosen, select_of, lists, told, list_of}
use Rattle.trammelbud.specs.Inside.Parts.{Translated, Planned}

-- A query that was accepted, by how many steps it takes.
module _ {g : Graph} {qry : List ℕ} (A : AcceptedQuery g qry) where
  few_steps : step_count A.query ≤ step_limit → translated_query g qry ≡ got (translated g A.query) A.end
  unfolding translated_query bounded_program
  few_steps few = rw (A.reads, le-leb (step_count A.query) step_limit few)

  many_steps : step_limit < step_count A.query → translated_query g qry ≡ refused (record { reason = Steps })
  unfolding translated_query bounded_program
  many_steps many = rw (A.reads, lt-leb (step_count A.query) step_limit many)

  by_steps : {P : Type 0} → (step_count A.query ≤ step_limit → P) → (step_limit < step_count A.query → P) → P
  by_steps {P} few many = go (leb (step_count A.query) step_limit) refl
    where
      go : (b : Bool) → leb (step_count A.query) step_limit ≡ b → P
      go true e = few (leb-true _ _ e)
      go false e = many (leb-false _ _ e)

  -- translating into a buffer that has room for every program
  module _ (old : List ℕ) (room : length old ≡ 78) {a : Answer} {new : List ℕ} (l : Leaves (translated_under g qry old) a new) where
    abbrev file : List ℕ
    file = program_bytes (translated g A.query)

    written : step_count A.query ≤ step_limit → ◌≡◌ {A = Lent} (record { answer = a; bytes = new }) (record { answer = accepted (length file); bytes = over 0 file old })
    written few = sym l ∙ translated_stored g qry old A.reads few ∙ stored_there file old (omega (arith, file_length g A.query, few, room))

    turned : step_limit < step_count A.query → ◌≡◌ {A = Lent} (record { answer = a; bytes = new }) (record { answer = turned_away (record { reason = Steps }); bytes = old })
    unfolding translated_under lent
    turned many = sym l ∙ ap (λ e. lent e old) (mapped_refused program_bytes (many_steps many))

    pub too_many : {r : Refusal} → a ≡ turned_away r → translated_query g qry ≡ refused r
    too_many {r} h =
        by_steps
        (λ few. absurd (some_number r.reason (ap (λ x. x.number) (sym h) ∙ ap (λ x. x.answer.number) (written few))))
        (λ many. many_steps many ∙ ap (λ (x : Reason). refused (record { reason = x })) (same_number _ _ (sym (ap (λ x. x.answer.number) (turned many)) ∙ ap (λ x. x.number) h)))

    module _ (zero : a.number ≡ 0) where
      few : step_count A.query ≤ step_limit
      few = by_steps (λ few. few) λ many. absurd (omega (arith, zero, ap (λ l. l.answer.number) (turned many)))

      count_is : a.count ≡ length file
      count_is = ap (λ l. l.answer.count) (written few)

      new_is : new ≡ over 0 file old
      new_is = ap (λ l. l.bytes) (written few)

      long : a.count ≤ 78
      long = omega (arith, count_is, file_length g A.query, few)

      new_long : length new ≡ 78
      new_long = ap length new_is ∙ over_length 0 file old (omega (arith, count_is, long, room)) ∙ room

      pub file_inside : a.count ≤ length new
      file_inside = omega (arith, long, new_long)

      again : program_file g.k (take a.count new) 0 ≡ got (translated g A.query) (length file)
      again = rw (count_is, new_is, over_front file old) (translated_checked g A.query A.graph A.legal few).reads_back

      pub read_back : (y : Result Program Refusal) → y ≡ file_of (mapped program_of (program_file g.k (take a.count new) 0)) → IfOk y Numbered → Opens (translated_query g qry) y (Translated g)
      unfolding program_of mapped
      read_back y p numbered =
          let os = translated g A.query in
          let is : y ≡ Ok (program_of os) = rw again at p in
          let legal = (translated_checked g A.query A.graph A.legal few).legal in
          rw is (os, A.end, few_steps few, record { steps = sym (program_holds os); lawful = rw (program_holds os) legal; whole = ap length (program_holds os); numbered = program_numbered os })

texts_small : {g : Graph} {es : List Element} → Accepted element_limit g es → (v : ℕ) → (view es).text v < words
unfolding view
texts_small a v = a.texts v

-- Tables and a query that were read.
module _ (gra edg qry : List ℕ) where
  pub plan_away : {r : Refusal} → tables_then_query gra edg qry ≡ refused r → asked gra edg qry ≡ refused r
  unfolding asked
  plan_away h = rw h

  module _ {kept : List Element} {o : Under ℕ} (p : Opens (tables_then_query gra edg qry) (Ok o) (OfTablesThenQuery kept)) where
    abbrev es : List Element
    es = take o.read kept

    parts : (q : XPath) × (left : ℕ) × (n : ℕ) × (tables_then_query gra edg qry ≡ got (o.graph, (es, (q, left))) n) × (query_file o.graph.k qry 0 ≡ got (q, left) n) × OfElements kept o (o.graph, es)
    parts =
        let (x, n, e, w) = p in
        let (m, graph, both) = under_out gra (λ g. followed_by (tables_file element_limit g edg 0) (query_file g.k qry 0)) e in
        let (l, tables, query) = then_out (tables_file element_limit x.0 edg 0) (query_file x.0.k qry 0) both in
        let held : OfElements kept o (o.graph, es) = record { graph = refl; elements = refl; legal = w.legal; accepted = w.accepted; whole = w.whole; room = w.room } in
        (x.1.1.0, x.1.1.1, n, rw (← w.graph, ← w.elements) e, subst (λ g. query_file g.k qry 0 ≡ got x.1.1 n) w.graph query, held)

    pub plan_accepts : ((i : ℕ) → Fits w8 (get_or qry i 0)) → AcceptedQuery o.graph qry
    plan_accepts bytes =
        let (q, left, n, e, query, w) = parts in
        let (legal, _, same) = query_read_lem o.graph.k (λ i. (bytes i).fits) query in
        record { graph = w.legal; query = q; legal = legal; file = same; left = left; end = n; reads = query }

    pub plan_refused : {r : Refusal} → translated_query o.graph qry ≡ refused r → asked gra edg qry ≡ refused r
    unfolding asked translated_query bounded_program
    plan_refused t = let (q, left, n, e, query, w) = parts in rw e (mapped_refused _ (rw query at t))

    pub plan_made : {program : Program} → Opens (translated_query o.graph qry) (Ok program) (Translated o.graph) → Opens (asked gra edg qry) (Ok (record { count = o.read; program = program })) (Planned kept)
    unfolding asked translated_query bounded_program
    plan_made {program} t =
        let (q, left, n, e, query, w) = parts in
        let (os, m, made, v) = t in
        let os-is : bounded_program o.graph q n ≡ got os m = rw query at made in (
          record { view = view es; path = q; program = os },
          m,
          rw e (mapped_got _ os-is),
          record {
            room = w.room;
            shown = refl;
            steps = v.steps;
            right = rw (translated_is q n os-is) (translation_is_right o.graph w.legal element_limit es w.accepted q);
            ready = ready o.graph w.legal w.accepted v.lawful v.whole v.numbered;
            texts = texts_small w.accepted;
          },
        )
      where
        picked : (q : XPath) (n : ℕ) {m : ℕ} {os : List Operation} (b : Bool) → pick b (got (translated o.graph q) n) (refused (record { reason = Steps })) ≡ got os m → os ≡ translated o.graph q
        picked q n true i = cc
        picked q n false i = cc

        translated_is : (q : XPath) (n : ℕ) {m : ℕ} {os : List Operation} → bounded_program o.graph q n ≡ got os m → os ≡ translated o.graph q
        translated_is q n i = picked q n (leb (step_count q) step_limit) i

-- A plan is carried out.
module _ (gra edg qry out work : List ℕ) where
  pub select_away : {r : Refusal} → asked gra edg qry ≡ refused r → Gives (select_of gra edg qry out work) (turned_away r) out work
  unfolding select_of asked_or
  select_away h = rw h

  pub list_away : {r : Refusal} → asked gra edg qry ≡ refused r → Gives (list_of gra edg qry out work) (turned_away r) out work
  unfolding list_of asked_or
  list_away h = rw h

  module _ {kept : List Element} {plan : Runnable} (p : Opens (asked gra edg qry) (Ok plan) (Planned kept)) {a : Answer} {out' work' : List ℕ} where
    pub select_on : Gives (performed (view (take plan.count kept)) (operations_in plan.program) out work) a out' work' → Gives (select_of gra edg qry out work) a out' work'
    unfolding select_of asked_or chosen performed
    select_on l = let (x, n, q, w) = p in rw (q, ← w.right, w.shown, w.steps) l

    pub list_on : Gives (lists (view (take plan.count kept)) (answer (view (take plan.count kept)) (operations_in plan.program)) (operations_in plan.program) out work) a out' work' → Gives (list_of gra edg qry out work) a out' work'
    unfolding list_of asked_or told
    list_on l = let (x, n, q, w) = p in rw (q, ← w.right, w.shown, w.steps) l
