-- The two round trips: what either call writes is a file of the same elements, and comes back as the same bytes.
use Prim.Native.Nat.{ℕ, ◌≤◌}
use mathlib.Core.Path.{◌≡◌, sym, ap, ◌∙◌}
use mathlib.Core.List.{List}
use lib.ListN.{length}
use Rattle.meaning.specs.declared.Element.{Element}
use Rattle.meaning.specs.declared.Graph.{Graph}
use Rattle.tre.specs.Tre.{document_bytes}
use Rattle.edg.specs.Edg.{tables_bytes}
use Rattle.writing.specs.Lent.{Lent, accepted, stored, file_in}
use Rattle.writing.proofs.Stored.{stored_there, stored_file}
use Rattle.convert.specs.Convert.{shredded, rebuilt}
use Rattle.convert.proofs.Conversions.{shredded_is, rebuilt_is}
use Rattle.demands.specs.Demands.{GraphFile, DocumentFile, TablesFile}
use Rattle.demands.proofs.Readings.{graph_got, document_got, tables_got}
use Rattle.demands.proofs.Judged.{stored_room}

-- a call that accepts has written this file
there : {l : Lent} (file out : List ℕ) → l ≡ stored file out → l.answer.number ≡ 0 → file_in l ≡ file
there file out e h = ap file_in e ∙ stored_file file out (stored_room file out (sym (ap (λ l. l.answer.number) e) ∙ h))

-- and one that has room for it answers its length
back : {l : Lent} (file out : List ℕ) → l ≡ stored file out → length file ≤ length out → (l.answer ≡ accepted (length file)) × (file_in l ≡ file)
back file out e room = (ap (λ l. l.answer) (e ∙ stored_there file out room), ap file_in e ∙ stored_file file out room)

module _ {gra : List ℕ} {g : Graph} (graph : GraphFile g gra) {es : List Element} where
  pub shreds : {tre : List ℕ} (out : List ℕ) → DocumentFile g es tre → shredded gra tre out ≡ stored (tables_bytes g es) out
  shreds {tre} out document = shredded_is gra g _ (graph_got graph) tre out (document_got graph.legal document)

  pub rebuilds : {edg : List ℕ} (out : List ℕ) → TablesFile g es edg → rebuilt gra edg out ≡ stored (document_bytes es) out
  rebuilds {edg} out tables = rebuilt_is gra g _ (graph_got graph) edg out (tables_got graph.legal tables)

  pub tables_there : {tre : List ℕ} (out : List ℕ) → DocumentFile g es tre → (shredded gra tre out).answer.number ≡ 0 → TablesFile g es (file_in (shredded gra tre out))
  tables_there out document h = record { legal = document.legal; is = there (tables_bytes g es) out (shreds out document) h }

  pub document_there : {edg : List ℕ} (out : List ℕ) → TablesFile g es edg → (rebuilt gra edg out).answer.number ≡ 0 → DocumentFile g es (file_in (rebuilt gra edg out))
  document_there out tables h = record { legal = tables.legal; is = there (document_bytes es) out (rebuilds out tables) h }

  pub document_back : {tre edg : List ℕ} (out : List ℕ) → DocumentFile g es tre → TablesFile g es edg → length tre ≤ length out
      → ((rebuilt gra edg out).answer ≡ accepted (length tre)) × (file_in (rebuilt gra edg out) ≡ tre)
  document_back {tre} out document tables room = back tre out (rw document.is (rebuilds out tables)) room

  pub tables_back : {edg tre : List ℕ} (out : List ℕ) → TablesFile g es edg → DocumentFile g es tre → length edg ≤ length out
      → ((shredded gra tre out).answer ≡ accepted (length edg)) × (file_in (shredded gra tre out) ≡ edg)
  tables_back {edg} out tables document room = back edg out (rw tables.is (shreds out document)) room
