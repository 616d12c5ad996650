-- Queries mean what XPath says.
use Prim.Native.Nat.{ℕ, ◌+◌, ◌*◌, ◌≤◌, ◌<◌}
use mathlib.Core.Path.{◌≡◌, sym, ap, ◌∙◌}
use mathlib.Core.List.{List}
use native.Mathlib.Omega.{arith}
use lib.ListN.{length}
use Rattle.meaning.specs.declared.Element.{Element}
use Rattle.meaning.specs.declared.Graph.{Graph}
use Rattle.meaning.specs.Limits.{element_limit, step_limit}
use Rattle.meaning.specs.Documents.{view}
use Rattle.meaning.specs.Queries.{XPath, selected}
use Rattle.meaning.specs.Translation.{translated, step_count}
use Rattle.meaning.proofs.Theorems.{translation_is_right, step_count_written}
use Rattle.rel.specs.Rel.{program_bytes}
use Rattle.rel.proofs.Encoded.{program_length}
use Rattle.writing.specs.Lent.{Lent, file_in}
use Rattle.shredder.proofs.Whole.{tables_length}
use Rattle.rebuilder.proofs.Closes.{document_length}
use Rattle.rooms.specs.Run.{Ran}
use Rattle.text.specs.Listing.{listing, listing_room}
use Rattle.translator.proofs.Checked.{file_length}
use Rattle.trammelbud.specs.Calls.{chosen, select_of, told, list_of}
use Rattle.trammelbud.proofs.Outcomes.{TbShred, TbRebuild, TbTranslate, TbRun, TbSelect, TbList}
use Rattle.trammelbud.proofs.Carried.{shred_is, rebuild_is, translate_is, select_is, list_is}
use Rattle.demands.specs.Demands.{GraphFile, DocumentFile, TablesFile, QueryFile, ProgramFile, RunRoom, written, Names, Demand2}
use Rattle.demands.proofs.Judged.{leaves_there}
use Rattle.demands.proofs.Named.{names}
use Rattle.demands.proofs.Asking.{was_asked}
use Rattle.demands.proofs.Translated.{few_answer, program_written, many_turned, program_there}
use Rattle.demands.proofs.RoundTrips.{tables_there, document_there, document_back, tables_back}
use Rattle.demands.proofs.Running.{had_room, past_steps, promised, roomy}

module _ (gra : List ℕ) (g : Graph) (graph : GraphFile g gra) where
  -- what a call wrote, by how it ended
  tables_written : {tre a : List ℕ} {es : List Element} {s : Lent} → DocumentFile g es tre → TbShred gra tre a s → s.answer.number ≡ 0 → TablesFile g es (file_in s)
  tables_written {tre} {a} {s = s} document c h =
      let e = (shred_is gra tre a).only s c in
      rw e (tables_there graph a document (sym (ap (λ l. l.answer.number) e) ∙ h))

  document_written : {edg a : List ℕ} {es : List Element} {b : Lent} → TablesFile g es edg → TbRebuild gra edg a b → b.answer.number ≡ 0 → DocumentFile g es (file_in b)
  document_written {edg} {a} {b = b} tables c h =
      let e = (rebuild_is gra edg a).only b c in
      rw e (document_there graph a tables (sym (ap (λ l. l.answer.number) e) ∙ h))

  pub translation_written : {qry b : List ℕ} {p : XPath} {t : Lent} → QueryFile g p qry → TbTranslate gra qry b t → t.answer.number ≡ 0 → ProgramFile g (translated g p) (file_in t)
  translation_written {qry} {b} {t = t} query c h =
      let e = (translate_is gra qry b).only t c in
      rw e (program_there graph query b (sym (ap (λ l. l.answer.number) e) ∙ h))

  runs : {tre qry a b out work : List ℕ} {es : List Element} {p : XPath} {s t : Lent} {r : Ran} → DocumentFile g es tre → QueryFile g p qry
      → TbShred gra tre a s → s.answer.number ≡ 0 → TbTranslate gra qry b t → t.answer.number ≡ 0
      → TbRun gra (file_in s) (file_in t) out work r → RunRoom es (step_count p) out work
      → Names (view es) p r.answer (written r.answer r.out)
  runs {es = es} {p} document query shred shreds translate translates run room =
      let kept = promised graph (tables_written document shred shreds) (translation_written query translate translates) run (roomy room (step_count_written g p)) in
      names es p kept.accepts kept.counts (kept.lists ∙ translation_is_right g graph.legal element_limit es document.legal p)

  selects : {edg qry out work : List ℕ} {es : List Element} {p : XPath} {r : Ran} → TablesFile g es edg → QueryFile g p qry
      → TbSelect gra edg qry out work r → r.answer.number ≡ 0 → Names (view es) p r.answer (written r.answer r.out)
  unfolding select_of chosen
  selects {edg} {qry} {out} {work} {es} {p} {r} tables query c h =
      let e = (select_is gra edg qry out work).only r c in
      let f = e ∙ was_asked graph tables query chosen (sym (ap (λ r. r.answer.number) e) ∙ h) in
      let (answer, there) = leaves_there (view es).size (selected (view es) p) (view es) (translated g p) out work (sym (ap (λ r. r.answer.number) f) ∙ h) in
      rw f (names es p (ap (λ a. a.number) answer) (ap (λ a. a.count) answer ∙ sym (ap length there)) there)

  lists : {edg qry text work : List ℕ} {es : List Element} {p : XPath} {r : Ran} → TablesFile g es edg → QueryFile g p qry
      → TbList gra edg qry text work r → r.answer.number ≡ 0 → written r.answer r.out ≡ listing (view es) (selected (view es) p)
  unfolding list_of told
  lists {edg} {qry} {text} {work} {es} {p} {r} tables query c h =
      let e = (list_is gra edg qry text work).only r c in
      let f = e ∙ was_asked graph tables query told (sym (ap (λ r. r.answer.number) e) ∙ h) in
      rw f (leaves_there (listing_room (view es).size) (listing (view es) (selected (view es) p)) (view es) (translated g p) text work (sym (ap (λ r. r.answer.number) f) ∙ h)).1

  translates : {qry b : List ℕ} {p : XPath} {t : Lent} → QueryFile g p qry → TbTranslate gra qry b t → step_count p ≤ step_limit → 6 + 3 * step_count p ≤ length b
      → (t.answer ≡ record { number = 0; count = 6 + 3 * step_count p }) × ProgramFile g (translated g p) (file_in t)
  translates {qry} {b} {p} {t} query c few room =
      let fits : length (program_bytes (translated g p)) ≤ length b = omega (arith, file_length g p, room) in
      rw ((translate_is gra qry b).only t c) (few_answer graph query b few fits ∙ rw (file_length g p), program_written graph query b few fits)

  too_long : {qry b : List ℕ} {p : XPath} {t : Lent} → QueryFile g p qry → TbTranslate gra qry b t → step_limit < step_count p → t.answer ≡ record { number = 11; count = 0 }
  too_long {qry} {b} {t = t} query c many = ap (λ l. l.answer) ((translate_is gra qry b).only t c ∙ many_turned graph query b many)

  documents_return : {tre out back : List ℕ} {es : List Element} {s b : Lent} → DocumentFile g es tre → TbShred gra tre out s → s.answer.number ≡ 0 → TbRebuild gra (file_in s) back b
      → length tre ≤ length back → TablesFile g es (file_in s) × (b.answer ≡ record { number = 0; count = length tre }) × (file_in b ≡ tre)
  documents_return {back = back} {s = s} {b} document shred h rebuild room =
      let tables = tables_written document shred h in
      let (answer, bytes) = document_back graph back document tables room in
      let e = (rebuild_is gra (file_in s) back).only b rebuild in
      (tables, ap (λ l. l.answer) e ∙ answer, ap file_in e ∙ bytes)

  tables_return : {edg out back : List ℕ} {es : List Element} {b s : Lent} → TablesFile g es edg → TbRebuild gra edg out b → b.answer.number ≡ 0 → TbShred gra (file_in b) back s
      → length edg ≤ length back → DocumentFile g es (file_in b) × (s.answer ≡ record { number = 0; count = length edg }) × (file_in s ≡ edg)
  tables_return {back = back} {b = b} {s} tables rebuild h shred room =
      let document = document_written tables rebuild h in
      let (answer, bytes) = tables_back graph back tables document room in
      let e = (shred_is gra (file_in b) back).only s shred in
      (document, ap (λ l. l.answer) e ∙ answer, ap file_in e ∙ bytes)

  pub demand_2 : Demand2 gra g graph
  demand_2 = record {
    runs = runs;
    rows = λ tables program run h. (promised graph tables program run (had_room graph tables program run h)).rows;
    rest = λ tables program run. past_steps graph tables program run;
    selects = selects;
    lists = lists;
    translates = translates;
    too_long = too_long;
    documents_return = documents_return;
    tables_return = tables_return;
    document_length = λ document. ap length document.is ∙ document_length document.legal;
    tables_length = λ tables. ap length tables.is ∙ tables_length graph.legal tables.legal;
    program_length = λ {rel} {os} program. ap length program.is ∙ program_length os;
  }
