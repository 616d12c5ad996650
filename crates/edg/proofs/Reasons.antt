-- A tables file is turned away with a number from 1 to 10.
use Prim.Native.Nat.{ℕ, zero, suc, ◌+◌, ◌≤◌}
use mathlib.Core.Bool.{Bool}
use mathlib.Core.List.{List}
use mathlib.Core.Path.{◌≡◌}
use native.Mathlib.Omega.{arith}
use lib.Dec.{leb}
use lib.ListN.{length}
use Rattle.meaning.specs.declared.Graph.{Graph}
use Rattle.meaning.specs.declared.Element.{Element}
use Rattle.meaning.specs.declared.Reason.{Reason}
use Rattle.meaning.specs.declared.Reason.TheVariants.{Bound, Number, Edge}
use Rattle.meaning.specs.declared.Refusal.{Refusal}
use Rattle.meaning.specs.Documents.{view, parent_rule, edge_rule}
use Rattle.meaning.specs.Refused.{number_of}
use Rattle.fields.specs.Read.{refused}
use Rattle.fields.proofs.Reasons.{OfFile, reason_low, of_give, of_bind, of_judge, of_judged, of_byte, of_word, of_header, of_end}
use Rattle.edg.specs.declared.Row.{Row}
use Rattle.edg.specs.Edg.{row_fields, row_read, rows_read, tables_read, judge_here, head, rows_file, times, ones, elements_of, element_judged, elements_judged, whole, tables_file}

of_here : (r : Reason) → number_of r ≤ 10 → (b : Bool) → OfFile (judge_here b r)
of_here r l b = record { why = λ s at. (of_judge r l at b).why s at }

of_row : (limit t before : ℕ) → OfFile (row_read limit t before)
unfolding row_read row_fields
of_row limit t before = of_judged Number (omega arith) _ (of_bind of_byte λ from. of_bind of_byte λ to. of_bind of_word λ x. of_give)

of_rows : (limit t before n : ℕ) → OfFile (rows_read limit t before n)
unfolding rows_read
of_rows limit t before zero = of_give
of_rows limit t before (suc n) = of_bind (of_row limit t before) λ r. of_bind (of_rows limit t r.number n) λ rs. of_give

of_tables : (limit t total n : ℕ) → OfFile (tables_read limit t total n)
unfolding tables_read
of_tables limit t total zero = of_give
of_tables limit t total (suc n) =
    of_bind (of_judged Bound (omega arith) _ of_byte) λ c. of_bind (of_rows limit t 0 c) λ rs. of_bind (of_tables limit (suc t) (total + c) n) λ more. of_give

of_head : (k : ℕ) → OfFile (head k)
unfolding head
of_head k = of_bind (of_header 0x45 0x44 0x47 1) λ _. of_judged Bound (omega arith) _ of_byte

of_element : (g : Graph) (es : List Element) (i : ℕ) → OfFile (element_judged g es i)
unfolding element_judged
of_element g es i = of_bind (of_here Number (omega arith) (parent_rule (view es) i)) λ _. of_here Edge (omega arith) (edge_rule g (view es) i)

of_elements : (g : Graph) (es : List Element) (i n : ℕ) → OfFile (elements_judged g es i n)
unfolding elements_judged
of_elements g es i zero = of_give
of_elements g es i (suc n) = of_bind (of_element g es i) λ _. of_elements g es (suc i) n

of_rows_file : (limit k : ℕ) → OfFile (rows_file limit k)
unfolding rows_file
of_rows_file limit k = of_bind (of_head k) λ _. of_bind (of_tables limit 0 0 k) λ rs. of_bind (of_here Bound (omega arith) (leb 1 (length rs))) λ _. of_give

of_whole : (limit : ℕ) (g : Graph) (rs : List Row) → OfFile (whole limit g rs)
unfolding whole
of_whole limit g rs =
    of_bind (of_here Number (omega arith) (ones (length rs) (λ i. times (suc i) rs))) λ _. of_bind (of_elements g (elements_of limit rs) 1 (length rs)) λ _. of_give

pub tables_reason : (limit : ℕ) (g : Graph) (s : List ℕ) {r : Refusal} → tables_file limit g s 0 ≡ refused r → number_of r.reason ≤ 10
unfolding tables_file
tables_reason limit g s h = reason_low (of_bind (of_rows_file limit g.k) λ rs. of_bind of_end λ _. of_whole limit g rs) s h
