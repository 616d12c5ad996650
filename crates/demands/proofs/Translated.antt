-- What translating leaves: the file of a legal program, or 11.
use Prim.Native.Nat.{ℕ, ◌≤◌, ◌<◌}
use mathlib.Core.Path.{◌≡◌, refl, sym, ap, ◌∙◌}
use mathlib.Core.Bool.{Bool, true, false}
use mathlib.Core.List.{List}
use native.Mathlib.Omega.{arith}
use lib.Dec.{leb}
use lib.ListN.{length}
use borrow.Author.Tests.{le-leb, lt-leb, leb-true, leb-false}
use Rattle.meaning.specs.declared.Graph.{Graph}
use Rattle.meaning.specs.declared.Reason.TheVariants.{Steps}
use Rattle.meaning.specs.Limits.{step_limit}
use Rattle.meaning.specs.Queries.{XPath}
use Rattle.meaning.specs.Translation.{translated, step_count}
use Rattle.fields.specs.Read.{mapped}
use Rattle.query.specs.Qry.{query_file}
use Rattle.rel.specs.Rel.{program_bytes}
use Rattle.files.proofs.Handed.{under_got}
use Rattle.writing.specs.Lent.{accepted, untouched, stored, lent, file_in}
use Rattle.writing.proofs.Stored.{stored_there, stored_file}
use Rattle.translator.specs.Translate.{bounded_program, translation}
use Rattle.translator.proofs.Checked.{translated_checked}
use Rattle.demands.specs.Demands.{GraphFile, QueryFile, ProgramFile}
use Rattle.demands.proofs.Readings.{graph_got, query_got}
use Rattle.demands.proofs.Judged.{stored_room}

module _ {gra : List ℕ} {g : Graph} (graph : GraphFile g gra) {qry : List ℕ} {p : XPath} (query : QueryFile g p qry) (b : List ℕ) where
  abbrev file : List ℕ
  file = program_bytes (translated g p)

  -- a query of few steps is stored as its program; any other is turned away
  few_stored : step_count p ≤ step_limit → translation gra qry b ≡ stored file b
  unfolding translation bounded_program mapped lent
  few_stored few = rw (under_got gra (λ g. query_file g.k qry 0) (graph_got graph) (query_got query), le-leb (step_count p) step_limit few)

  pub many_turned : step_limit < step_count p → translation gra qry b ≡ untouched (record { reason = Steps }) b
  unfolding translation bounded_program mapped lent
  many_turned many = rw (under_got gra (λ g. query_file g.k qry 0) (graph_got graph) (query_got query), lt-leb (step_count p) step_limit many)

  module _ (few : step_count p ≤ step_limit) (room : length file ≤ length b) where
    pub few_answer : (translation gra qry b).answer ≡ accepted (length file)
    few_answer = ap (λ l. l.answer) (few_stored few ∙ stored_there file b room)

    -- the file that was written holds the query's program
    pub program_written : ProgramFile g (translated g p) (file_in (translation gra qry b))
    program_written = record {
      legal = (translated_checked g p graph.legal query.legal few).legal;
      is = ap file_in (few_stored few) ∙ stored_file file b room;
    }

  module _ (h : (translation gra qry b).answer.number ≡ 0) where
    few_steps : step_count p ≤ step_limit
    few_steps = by_count (leb (step_count p) step_limit) refl
      where
        by_count : (c : Bool) → leb (step_count p) step_limit ≡ c → step_count p ≤ step_limit
        by_count true e = leb-true (step_count p) step_limit e
        by_count false e = absurd (omega (arith, sym (ap (λ l. l.answer.number) (many_turned (omega (arith, leb-false (step_count p) step_limit e)))) ∙ h))

    pub program_there : ProgramFile g (translated g p) (file_in (translation gra qry b))
    program_there = program_written few_steps (stored_room file b (sym (ap (λ l. l.answer.number) (few_stored few_steps)) ∙ h))
