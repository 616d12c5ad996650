-- One law for each outcome of a run over a document: a buffer is too short, or the steps are made and the nodes listed.
use Prim.Native.Nat.{ℕ, ◌+◌, ◌-◌, ◌*◌, ◌/◌, ◌%◌, ◌≤◌, ◌<◌}
use mathlib.Core.Path.{◌≡◌, sym, ap, ◌∙◌}
use mathlib.Core.Bool.{Bool, false, ◌&&◌, and-false}
use mathlib.Core.List.{List}
use native.Mathlib.Omega.{arith}
use borrow.Author.Tests.{le-leb, lt-leb}
use lib.Dec.{leb}
use lib.ListN.{length, get_or}
use Rattle.meaning.specs.declared.Answer.{Answer}
use Rattle.meaning.specs.declared.Element.{Element}
use Rattle.meaning.specs.declared.Operation.{Operation}
use Rattle.meaning.specs.declared.Program.{Program}
use Rattle.meaning.specs.declared.Reason.TheVariants.{Room}
use Rattle.meaning.specs.Limits.{small, row_bits, room_bytes}
use Rattle.meaning.specs.Sets.{bit, listed}
use Rattle.meaning.specs.Relations.{at}
use Rattle.meaning.specs.Documents.{View, view}
use Rattle.meaning.specs.Operations.{run, last, answer}
use Rattle.meaning.specs.Inside.Records.{operations_in}
use Rattle.meaning.proofs.Tests.{fails}
use Rattle.meaning.proofs.Sets.{listed_cong}
use Rattle.writing.specs.Lent.{accepted, turned_away, over}
use Rattle.rows.specs.Inside.Rows.{in_row, Bits, rows_at}
use Rattle.rows.proofs.Cases.{by_order}
use Rattle.rows.proofs.Searches.{listed_still}
use Rattle.rooms.specs.Layout.{work_byte, overwritten}
use Rattle.rooms.specs.Inside.FitToRun.{FitToRun}
use Rattle.rooms.specs.Run.{leaves, performed, Gives}
use Rattle.rooms.proofs.Elements.{size_is}
use Rattle.rooms.proofs.Layouts.{joined_is}
use Rattle.rooms.proofs.Performing.{run_on}
use Rattle.rooms.proofs.Rooms.{room_bit, no_column}

-- the room is judged: one of the buffers is too short, or both are long enough
module _ (room : ℕ) (bytes : List ℕ) (d : View) (os : List Operation) (out work : List ℕ) where
  leaves_short : {a : Answer} → leb room (length out) && leb (room_bytes small.row * length os) (length work) ≡ false → a ≡ turned_away (record { reason = Room })
      → Gives (leaves room bytes d os out work) a out work
  leaves_short h e = rw (h, e)

  pub leaves_all : room ≤ length out → room_bytes small.row * length os ≤ length work
      → Gives (leaves room bytes d os out work) (accepted (length bytes)) (over 0 bytes out) (overwritten (work_byte small.row d os) (room_bytes small.row * length os) work)
  leaves_all a b = rw (le-leb room (length out) a, le-leb (room_bytes small.row * length os) (length work) b)

module _ (es : List Element) (p : Program) (out work : List ℕ) (r : FitToRun es p) where
  abbrev d : View
  d = view es

  abbrev os : List Operation
  os = operations_in p

  size : length es + 1 ≡ d.size
  size = size_is es

  pub short_out : {a : Answer} → length out < length es + 1 → a ≡ turned_away (record { reason = Room }) → Gives (performed d os out work) a out work
  unfolding performed
  short_out l =
      leaves_short d.size (answer d os) d os out work
      (ap (λ (t : Bool). t && leb (room_bytes small.row * length os) (length work)) (lt-leb d.size (length out) (omega (arith, size))))

  module _ {area : ℕ} (is : area ≡ room_bytes small.row * p.count) where
    pub short_work : {a : Answer} → length work < area → a ≡ turned_away (record { reason = Room }) → Gives (performed d os out work) a out work
    unfolding performed
    short_work l =
        leaves_short d.size (answer d os) d os out work
        (ap (λ (t : Bool). leb d.size (length out) && t) (lt-leb (room_bytes small.row * length os) (length work) (omega (arith, r.whole))) ∙ and-false (leb d.size (length out)))

    -- The steps are made, and the row from node 0 of the last one is read.
    module _ {new row : List ℕ} (made : new ≡ overwritten (work_byte small.row d os) (room_bytes small.row * p.count) work)
        {place : ℕ} (at_last : place ≡ room_bytes small.row * (p.count - 1)) (read : Bits row (rows_at small.row new place 0)) where
      selected : (w : ℕ) → in_row row w ≡ at (run d os) (last os) 0 w
      unfolding last
      selected w =
          let some = r.legal.some_step in
          let is_last : place ≡ room_bytes small.row * (length os - 1) = omega (arith, r.whole) in
          read.bits w ∙ ap (λ (i : ℕ). rows_at small.row new i 0 w) is_last
          ∙ by_order (w / 8) small.row
          (λ l. room_bit small.row new (room_bytes small.row * (length os - 1)) 0 w (omega arith) l ∙ ap (λ (x : List ℕ). bit (get_or x (room_bytes small.row * (length os - 1) + small.row * 0 + w / 8) 0) (w % 8)) made
          ∙ joined_is small.row (omega arith) d os p.count work (length os - 1) 0 w (omega (arith, r.whole)) (omega arith) (omega arith))
          (λ l. no_column small.row new (room_bytes small.row * (length os - 1)) 0 w l
          ∙ sym (fails (at (run d os) (length os - 1) 0 w) (λ h. omega (arith, (run_on es r.nodes os (length os - 1) 0 w h).1, size, r.nodes.few))))

      -- its numbers are the answer, below the number of nodes and in all
      row_listed : listed (length es + 1) (in_row row) ≡ answer d os
      unfolding answer
      row_listed = ap (λ (k : ℕ). listed k (in_row row)) size ∙ listed_cong d.size _ _ (λ w l. selected w)

      row_counted : listed (row_bits small.row) (in_row row) ≡ answer d os
      row_counted =
          listed_still (length es + 1) (row_bits small.row) (in_row row) (omega (arith, r.nodes.few))
          (λ w a b. fails (in_row row w) (λ h. omega (arith, size, (run_on es r.nodes os (last os) 0 w (sym (selected w) ∙ h)).1))) ∙ row_listed

      pub all_listed : {nodes : List ℕ} {n : ℕ} {a : Answer} → length es + 1 ≤ length out → area ≤ length work → nodes ≡ over 0 (listed (length es + 1) (in_row row)) out
          → n ≡ length (listed (row_bits small.row) (in_row row)) → a ≡ accepted n → Gives (performed d os out work) a nodes new
      unfolding performed
      all_listed l m e f g =
          leaves_all d.size (answer d os) d os out work (omega (arith, size)) (omega (arith, r.whole)) ∙ rw (r.whole, g, f, row_counted, e, row_listed, made)
