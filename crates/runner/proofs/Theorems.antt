-- What is proved of a run, at the level of the code's contract: one statement a paragraph.
use Prim.Native.Nat.{ℕ, ◌*◌, ◌≤◌, ◌<◌}
use mathlib.Core.Path.{◌≡◌, refl, sym, ap, ◌∙◌}
use mathlib.Core.List.{List}
use native.Mathlib.Omega.{arith}
use lib.ListN.{length, get_or}
use Rattle.meaning.specs.declared.Element.{Element}
use Rattle.meaning.specs.declared.Graph.{Graph}
use Rattle.meaning.specs.declared.Operation.{Operation}
use Rattle.meaning.specs.Limits.{small, element_limit, room_bytes}
use Rattle.meaning.specs.Documents.{View, view}
use Rattle.meaning.specs.Operations.{last, run, answer}
use Rattle.meaning.specs.Relations.{at}
use Rattle.meaning.proofs.Listed.{Lists, listed_lists}
use Rattle.fields.specs.Read.{got}
use Rattle.graph.specs.Gra.{graph_file}
use Rattle.edg.specs.Edg.{tables_file}
use Rattle.rel.specs.Rel.{program_file}
use Rattle.writing.specs.Lent.{accepted, over}
use Rattle.writing.proofs.Puts.{over_front, over_length}
use Rattle.rooms.specs.Layout.{work_byte, overwritten}
use Rattle.rooms.specs.Run.{performed, Gives}
use Rattle.runner.specs.Run.{run_of}
use Rattle.runner.proofs.Promises.{Roomy, Promised, SameRun}
use Rattle.rows.proofs.Tallies.{tally_most}
use Rattle.rooms.proofs.Layouts.{over_past, overwritten_past, overwritten_length, overwritten_taken, joined_is}
use Rattle.rooms.proofs.Outcomes.{leaves_all}
use Rattle.runner.proofs.Files.{runs_as}

module _ (d : View) (os : List Operation) where
  nodes_listed : Lists d.size (λ w. at (run d os) (last os) 0 w) (answer d os)
  unfolding answer
  nodes_listed = listed_lists d.size (λ w. at (run d os) (last os) 0 w)

  pub few_nodes : length (answer d os) ≤ d.size
  unfolding answer
  few_nodes = tally_most d.size (λ w. at (run d os) (last os) 0 w)

  pub nodes_below : (i : ℕ) → i < length (answer d os) → get_or (answer d os) i 0 < d.size
  nodes_below = nodes_listed.below

  -- what a run leaves that has its room
  pub performed_given : {out work : List ℕ} → Roomy d os out work
      → Gives (performed d os out work) (accepted (length (answer d os))) (over 0 (answer d os) out) (overwritten (work_byte small.row d os) (room_bytes small.row * length os) work)
  unfolding performed
  performed_given {out} {work} room = leaves_all d.size (answer d os) d os out work room.for_nodes room.for_steps

  -- a run keeps its promises
  pub performed_promised : {out work : List ℕ} → Roomy d os out work → Promised d os out work (performed d os out work)
  performed_promised {out} {work} room =
      let here = over_front (answer d os) out in
      let fits : length (answer d os) ≤ length out = omega (arith, few_nodes, room.for_nodes) in
      rw (performed_given room) record {
        accepts = refl;
        counts = sym (ap length here);
        lists = here;
        ascend = rw here nodes_listed.ascends;
        nodes = rw here nodes_listed.below;
        rows = joined_is small.row (omega arith) d os (length os) work;
        out_stays = (over_length 0 (answer d os) out (omega arith), over_past (answer d os) out);
        work_stays = (overwritten_length (work_byte small.row d os) (room_bytes small.row * length os) work room.for_steps, overwritten_past (work_byte small.row d os) (room_bytes small.row * length os) work);
      }

  pub performed_alike : {out work out' work' : List ℕ} → Roomy d os out work → Roomy d os out' work' → SameRun (length os) (performed d os out work) (performed d os out' work')
  performed_alike {out} {work} {out'} {work'} room room' =
      rw (performed_given room, performed_given room') (
        refl,
        over_front (answer d os) out ∙ sym (over_front (answer d os) out'),
        overwritten_taken (work_byte small.row d os) (room_bytes small.row * length os) work ∙ sym (overwritten_taken (work_byte small.row d os) (room_bytes small.row * length os) work'),
      )

-- The same of a run on files that are accepted.
module _ (gra edg rel : List ℕ) {g : Graph} {es : List Element} {os : List Operation} {l m n : ℕ} (e : graph_file gra 0 ≡ got g l) (f : tables_file element_limit g edg 0 ≡ got es m)
    (h : program_file g.k rel 0 ≡ got os n) where
  -- It answers 0 and the number of nodes that it lists; they ascend. Every step's rows stand in the work area, bit by bit,
  -- and no other byte is touched.
  pub run_keeps_its_promises : {out work : List ℕ} → Roomy (view es) os out work → Promised (view es) os out work (run_of gra edg rel out work)
  run_keeps_its_promises {out} {work} room = rw (runs_as gra edg rel out work e f h) (performed_promised (view es) os room)

  -- The outcome is the same whatever the lent buffers held.
  pub run_does_not_depend_on_buffers : {out work out' work' : List ℕ} → Roomy (view es) os out work → Roomy (view es) os out' work'
      → SameRun (length os) (run_of gra edg rel out work) (run_of gra edg rel out' work')
  run_does_not_depend_on_buffers {out} {work} {out'} {work'} room room' =
      rw (runs_as gra edg rel out work e f h, runs_as gra edg rel out' work' e f h) (performed_alike (view es) os room room')
