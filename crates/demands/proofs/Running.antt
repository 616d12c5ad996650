-- A run over accepted files that answers 0 had its room, and keeps its promises.
use Prim.Native.Nat.{ℕ, ◌*◌, ◌≤◌}
use mathlib.Core.Path.{◌≡◌, sym, ap, ◌∙◌}
use mathlib.Core.List.{List}
use native.Mathlib.Omega.{arith}
use lib.ListN.{length, get_or}
use Rattle.meaning.specs.declared.Element.{Element}
use Rattle.meaning.specs.declared.Graph.{Graph}
use Rattle.meaning.specs.declared.Operation.{Operation}
use Rattle.meaning.specs.Limits.{small, room_bytes}
use Rattle.meaning.specs.Documents.{view}
use Rattle.meaning.specs.Operations.{answer}
use Rattle.rooms.specs.Run.{Ran, performed}
use Rattle.runner.specs.Run.{run_of}
use Rattle.runner.proofs.Promises.{Roomy, Promised}
use Rattle.runner.proofs.Files.{runs_as}
use Rattle.runner.proofs.Theorems.{run_keeps_its_promises}
use Rattle.trammelbud.proofs.Outcomes.{TbRun}
use Rattle.trammelbud.proofs.Carried.{run_is}
use Rattle.demands.specs.Demands.{GraphFile, TablesFile, ProgramFile, RunRoom}
use Rattle.demands.proofs.Readings.{graph_got, tables_got, program_got}
use Rattle.demands.proofs.Judged.{leaves_room, leaves_past}

module _ {gra : List ℕ} {g : Graph} (graph : GraphFile g gra) {edg rel : List ℕ} {es : List Element} {os : List Operation} (tables : TablesFile g es edg) (program : ProgramFile g os rel)
    {out work : List ℕ} {r : Ran} (ran : TbRun gra edg rel out work r) where
  pub is_run : r ≡ run_of gra edg rel out work
  is_run = (run_is gra edg rel out work).only r ran

  is_performed : r ≡ performed (view es) os out work
  is_performed = is_run ∙ runs_as gra edg rel out work (graph_got graph) (tables_got graph.legal tables) (program_got program)

  pub had_room : r.answer.number ≡ 0 → Roomy (view es) os out work
  unfolding performed
  had_room h =
      let (a, b) = leaves_room (view es).size (answer (view es) os) (view es) os out work (sym (ap (λ r. r.answer.number) is_performed) ∙ h) in
      record { for_nodes = a; for_steps = b }

  pub past_steps : (i : ℕ) → room_bytes small.row * length os ≤ i → get_or r.work i 0 ≡ get_or work i 0
  unfolding performed
  past_steps i l = ap (λ r. get_or r.work i 0) is_performed ∙ leaves_past (view es).size (answer (view es) os) (view es) os out work i l

  pub promised : Roomy (view es) os out work → Promised (view es) os out work r
  promised room = rw is_run (run_keeps_its_promises gra edg rel (graph_got graph) (tables_got graph.legal tables) (program_got program) room)

-- the room that is asked for, for so many steps
pub roomy : {es : List Element} {os : List Operation} {steps : ℕ} {out work : List ℕ} → RunRoom es steps out work → length os ≡ steps → Roomy (view es) os out work
unfolding view
roomy room same = record { for_nodes = omega (arith, room.for_nodes); for_steps = rw same room.for_steps }
