-- A checked program runs to its end, and every row joins a pair that the check announced.
use Prim.Native.Nat.{ℕ, ◌<◌}
use mathlib.Core.Path.{◌≡◌, refl, sym, ap, ◌∙◌}
use mathlib.Core.Bool.{true, false}
use mathlib.Core.List.{List}
use native.Mathlib.Omega.{arith}
use lib.ListN.{length}
use Rattle.meaning.specs.declared.Element.{Element}
use Rattle.meaning.specs.declared.Graph.{Graph}
use Rattle.meaning.specs.declared.Operation.{Operation}
use Rattle.meaning.specs.Limits.{small, document, element_limit, row_bits}
use Rattle.meaning.specs.Relations.{at}
use Rattle.meaning.specs.Announcements.{announced}
use Rattle.meaning.specs.Documents.{node}
use Rattle.meaning.specs.Operations.{last}
use Rattle.meaning.proofs.Theorems.{announcements_are_sound, nothing_announced_nothing_selected}
use Rattle.fields.specs.Read.{Read, got, refused, bind, mapped}
use Rattle.fields.specs.Write.{Bytes}
use Rattle.rel.specs.Rel.{program_file}
use Rattle.files.specs.Files.{under}
use Rattle.files.proofs.Handed.{under_got, mapped_got}
use Rattle.masks.specs.Announcement.{announcement}
use Rattle.announce.specs.declared.Checked.{Checked}
use Rattle.announce.specs.Check.{checked, check_of}
use Rattle.announce.proofs.Checking.{check_shows}
use Rattle.rooms.specs.Layout.{joined}
use Rattle.rooms.specs.Run.{Ran}
use Rattle.runner.proofs.Theorems.{run_does_not_depend_on_buffers}
use Rattle.trammelbud.proofs.Outcomes.{TbCheck, TbRun}
use Rattle.trammelbud.proofs.Carried.{check_is}
use Rattle.demands.specs.Demands.{GraphFile, TablesFile, ProgramFile, announced_by, Alike, Demand3}
use Rattle.demands.proofs.Readings.{Came, graph_got, tables_got, program_got, program_file_lem}
use Rattle.demands.proofs.Running.{is_run, had_room, promised, roomy}
use Rattle.demands.proofs.Judged.{in_table}
use Rattle.demands.proofs.Demand2.{translation_written}

module _ (gra : List ℕ) (g : Graph) (graph : GraphFile g gra) where
  -- what the check answers for a step is what is announced for it
  shown : {rel : List ℕ} {os : List Operation} {c : Checked} → ProgramFile g os rel → TbCheck gra rel c → (s : ℕ) → announced_by c s ≡ at (announced g os) s
  shown {rel} {c = c} program h s = rw ((check_is gra rel).only c h) (check_shows gra rel graph.legal (graph_got graph) (program_got program) s)

  module _ {edg rel : List ℕ} {es : List Element} {os : List Operation} (tables : TablesFile g es edg) (program : ProgramFile g os rel) {out work : List ℕ} {c : Checked} {r : Ran}
      (check : TbCheck gra rel c) (run : TbRun gra edg rel out work r) (h : r.answer.number ≡ 0) where
    announces : (s v w : ℕ) → s < length os → v < row_bits small.row → w < row_bits small.row → joined small.row r.work s v w ≡ true
        → announced_by c s (node es v).kind (node es w).kind ≡ true
    announces s v w in-steps lv lw j =
        let kept = promised graph tables program run (had_room graph tables program run h) in
        ap (λ r. r (node es v).kind (node es w).kind) (shown program check s)
        ∙ announcements_are_sound g graph.legal element_limit es tables.legal os s v w (sym (kept.rows s v w in-steps lv lw) ∙ j)

    nothing : ((B : ℕ) → announced_by c (last os) document B ≡ false) → r.answer.count ≡ 0
    nothing none =
        let kept = promised graph tables program run (had_room graph tables program run h) in
        kept.counts
        ∙ ap length (kept.lists ∙ nothing_announced_nothing_selected g graph.legal element_limit es tables.legal os
        λ B. sym (ap (λ r. r document B) (shown program check (last os))) ∙ none B)

  same : {edg rel out work out' work' : List ℕ} {es : List Element} {os : List Operation} {r q : Ran} → TablesFile g es edg → ProgramFile g os rel
      → TbRun gra edg rel out work r → r.answer.number ≡ 0 → TbRun gra edg rel out' work' q → q.answer.number ≡ 0 → Alike (length os) r q
  same {edg} {rel} tables program run h again k =
      let alike = run_does_not_depend_on_buffers gra edg rel (graph_got graph) (tables_got graph.legal tables) (program_got program) (had_room graph tables program run h) (had_room graph tables program again k) in
      rw (is_run graph tables program run, is_run graph tables program again) record { answers = alike.0; nodes = alike.1; rooms = alike.2 }

  passes : {rel : List ℕ} {os : List Operation} {c : Checked} → ProgramFile g os rel → TbCheck gra rel c → c.number ≡ 0
  unfolding check_of checked
  passes {rel} {c = c} program h =
      rw ((check_is gra rel).only c h, mapped_got (λ x. announcement x.0 x.1) (under_got gra (λ g. program_file g.k rel 0) (graph_got graph) (program_got program)))

  -- a check that answers 0 has read a program
  was_read : (e : Read (List Operation)) → (checked (mapped (λ x. announcement x.0 x.1) (bind {B = Graph × List Operation} e λ os n. got (g, os) n))).number ≡ 0
      → (os : List Operation) × Came e os
  unfolding checked mapped
  was_read (got os n) h = (os, (n, refl))
  was_read (refused r) h = absurd (omega (arith, h, (in_table r.reason).1))

  accepts : {rel : List ℕ} {c : Checked} → Bytes rel → TbCheck gra rel c → c.number ≡ 0 → (os : List Operation) × ProgramFile g os rel
  unfolding check_of under
  accepts {rel} {c} bytes check h =
      let (os, (n, read)) = was_read (program_file g.k rel 0) (rw ((check_is gra rel).only c check, graph_got graph) at h) in
      (os, program_file_lem bytes read)

  pub demand_3 : Demand3 gra g graph
  demand_3 = record {
    passes = passes;
    accepts = accepts;
    pairs = λ program check s A B. ap (λ r. r A B) (shown program check s);
    ends = λ tables program run room. (promised graph tables program run (roomy room refl)).accepts;
    same = same;
    announces = λ tables program check run h. announces tables program check run h;
    nothing = λ tables program check none run h. nothing tables program check run h none;
    ours = λ query translate h check. passes (translation_written gra g graph query translate h) check;
  }
