-- What holds of a run that has its room, in one record; the demands cite it part by part.
use Prim.Native.Nat.{ℕ, ◌*◌, ◌≤◌, ◌<◌}
use mathlib.Core.Path.{◌≡◌}
use mathlib.Core.List.{List}
use lib.ListN.{length, get_or, take}
use Rattle.meaning.specs.declared.Operation.{Operation}
use Rattle.meaning.specs.Relations.{at}
use Rattle.meaning.specs.Documents.{View}
use Rattle.meaning.specs.Operations.{run, answer}
use Rattle.meaning.specs.Limits.{small, row_bits, room_bytes}
use Rattle.rooms.specs.Layout.{joined}
use Rattle.rooms.specs.Run.{Ran}

-- n+1 bytes for the answer, 2,048 bytes a step of work area
pub record Roomy (d : View) (os : List Operation) (out work : List ℕ) : Type 0 where
  pub for_nodes : d.size ≤ length out
  pub for_steps : room_bytes small.row * length os ≤ length work

-- the numbers written, as many as the call answers
abbrev pub nodes_in : Ran → List ℕ
nodes_in r = take r.answer.count r.out

-- a run of the steps os over what a document shows, in these buffers
pub record Promised (d : View) (os : List Operation) (out work : List ℕ) (r : Ran) : Type 0 where
  pub accepts : r.answer.number ≡ 0
  -- the count is that of the nodes listed; they are the program's answer, ascend, and are below n+1
  pub counts : r.answer.count ≡ length (nodes_in r)
  pub lists : nodes_in r ≡ answer d os
  pub ascend : (i j : ℕ) → i < j → j < length (nodes_in r) → get_or (nodes_in r) i 0 < get_or (nodes_in r) j 0
  pub nodes : (i : ℕ) → i < length (nodes_in r) → get_or (nodes_in r) i 0 < d.size
  -- the work area holds exactly the rows of each step
  pub rows : (s v w : ℕ) → s < length os → v < row_bits small.row → w < row_bits small.row → joined small.row r.work s v w ≡ at (run d os) s v w
  -- bytes past the nodes, and past the steps' room, stay
  pub out_stays : (length r.out ≡ length out) × ((i : ℕ) → r.answer.count ≤ i → get_or r.out i 0 ≡ get_or out i 0)
  pub work_stays : (length r.work ≡ length work) × ((i : ℕ) → room_bytes small.row * length os ≤ i → get_or r.work i 0 ≡ get_or work i 0)

-- two runs of so many steps have the same answer, nodes and rooms
abbrev pub SameRun : ℕ → Ran → Ran → Type 0
SameRun steps r q = (r.answer ≡ q.answer) × (nodes_in r ≡ nodes_in q) × (take (room_bytes small.row * steps) r.work ≡ take (room_bytes small.row * steps) q.work)
