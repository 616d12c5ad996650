-- The two laws of EDG: what the reader accepts is an accepted document and the bytes are its tables, and the tables of an accepted document read back.
use Prim.Native.Nat.{ℕ, zero, suc, ◌+◌, ◌-◌, ◌≤◌, ◌<◌}
use mathlib.Core.Path.{◌≡◌, refl, sym, ap, subst, ◌∙◌}
use mathlib.Core.Bool.{Bool, true}
use mathlib.Core.List.{List, [], ◌++◌, append-nil}
use mathlib.Core.Logic.{⊎_elim}
use native.Mathlib.Nat.{eq-or-lt_of_le}
use native.Mathlib.Omega.{arith}
use lib.Dec.{eqb, leb}
use lib.ListN.{length, get_or, length-append}
use lib.Seq.{ext_get_or}
use borrow.Author.Tests.{lt-ltb, le-leb, eq-eqb, ne_eqb, leb-true, eqb-true, eqb-false}
use Rattle.meaning.specs.declared.Graph.{Graph}
use Rattle.meaning.specs.declared.Element.{Element}
use Rattle.meaning.specs.declared.Reason.{Reason}
use Rattle.meaning.specs.declared.Reason.TheVariants.{Bound, Number, Edge}
use Rattle.meaning.specs.Limits.{words}
use Rattle.meaning.specs.Graphs.{LegalGraph}
use Rattle.meaning.specs.Documents.{is_element, document_node, node, view, parent_rule, edge_rule, Accepted}
use Rattle.meaning.proofs.KindSets.{edge_types}
use Rattle.meaning.proofs.Tests.{and_in}
use Rattle.meaning.proofs.Views.{accepted_keeps}
use Rattle.fields.specs.Read.{got, pick}
use Rattle.fields.specs.Write.{Bytes, byte_of, header_of}
use Rattle.fields.proofs.Formats.{Reads, Accepts, Takes, reads_bind, reads_last, takes_bind, takes_weaken, accepts_bind, accepts_give, accepts_ended, reads_give, reads_judge, reads_judged, reads_byte, reads_header, reads_ended, takes_judge, takes_judged, takes_byte, takes_first}
use Rattle.edg.specs.declared.Row.{Row}
use Rattle.edg.specs.Inside.GoodRow.{GoodRow}
use Rattle.edg.specs.Edg.{tables_read, head, rows_file, count, times, ones, elements_of, judge_here, element_judged, elements_judged, whole, tables_file, rows_of, table_bytes, tables_of, tables_bytes}
use Rattle.edg.proofs.Lists.{either, All, all_none, all_append, all_split, all_map, all_with, count_append, count_some}
use Rattle.edg.proofs.Numbers.{Once, ones_out, ones_in, times_none, once_count, once_all, elements_long, elements_at, elements_keep}
use Rattle.edg.proofs.Tabling.{Stands, rows_same, rows_stand, rows_ascend, rows_times}
use Rattle.edg.proofs.Rows.{Table, takes_rows, reads_rows}

takes_here : (b : Bool) (r : Reason) → Takes (judge_here b r) (λ _. []) (λ _. b ≡ true)
takes_here b r = record { accepts = λ {at = at} bytes le h. (takes_judge at b r).accepts bytes le h }

reads_here : {b : Bool} (r : Reason) → b ≡ true → Reads (judge_here b r) [] tt
reads_here r h = record { reads = λ s at. (reads_judge at r h).reads s at }

-- The tables of n types from type t on: their rows and their bytes.
data Sorted (limit : ℕ) : ℕ → ℕ → List Row → List ℕ → Type 0 where
  sorted_none : {t : ℕ} → Sorted limit t 0 [] []
  sorted_more : {t n : ℕ} {rs more : List Row} {b : List ℕ} → Table limit t 0 rs → Sorted limit (suc t) n more b → Sorted limit t (suc n) (rs ++ more) (table_bytes rs ++ b)

accepts_tables : (limit t total n : ℕ) → total ≤ limit → Accepts (tables_read limit t total n) (λ rs b. Sorted limit t n rs b × (total + length rs ≤ limit))
unfolding tables_read table_bytes
accepts_tables limit t total zero room = accepts_give (sorted_none, omega arith)
accepts_tables limit t total (suc n) room =
    takes_bind (takes_judged _ Bound takes_byte) λ c few.
    takes_bind (takes_rows limit t 0 c) λ rs table.
    accepts_bind (accepts_tables limit (suc t) (total + c) n (leb-true _ limit few.1)) λ more b sorted.
    accepts_give (rw (append-nil b, ← table.0) (sorted_more table.1 sorted.0), omega (arith, length-append rs more, table.0, sorted.1))

module _ {limit : ℕ} where
  sorted_all : {t n : ℕ} {rs : List Row} {b : List ℕ} {P : Row → Type 0} → ((r : Row) → GoodRow limit r → t ≤ r.element.kind → r.element.text < words → P r) → Sorted limit t n rs b → All P rs
  sorted_all f sorted_none = all_none
  sorted_all f (sorted_more table more) = all_append (all_map (λ r fits. let kind = fits.kind in f r fits.good (omega arith) fits.text) table.1) (sorted_all (λ r good kind text. f r good (omega arith) text) more)

  sorted_good : {t n : ℕ} {rs : List Row} {b : List ℕ} → Sorted limit t n rs b → All (GoodRow limit) rs
  sorted_good = sorted_all (λ r good kind text. good)

-- rows of elements of other kinds than element j's do not have its number
other_kinds : (es : List Element) (j : ℕ) {rs : List Row} → All (Stands es 1) rs → All (λ r. r.element.kind ≡ (get_or es j document_node).kind → ⊥) rs → times (suc j) rs ≡ 0
other_kinds es j stands others =
    times_none (suc j)
    (all_with (λ r s other same. other (let place : r.number - 1 ≡ j = omega arith in ap (λ e. e.kind) (s.is ∙ ap (λ i. get_or es i document_node) place))) stands others)

rows_here : (es : List Element) (j : ℕ) → j < length es → (t : ℕ) → times (suc j) (rows_of t 1 es) ≡ pick (eqb (get_or es j document_node).kind t) 1 0
rows_here es j l t = let place : 1 + j ≡ suc j = omega arith in rw place at (rows_times t 1 es j l)

-- where each element of type t or later has a row, the tables are those of the elements
sorted_are : {limit : ℕ} (es : List Element) {t n : ℕ} {rs : List Row} {b : List ℕ} → Sorted limit t n rs b → All (Stands es 1) rs
    → ((j : ℕ) → j < length es → t ≤ (get_or es j document_node).kind → times (suc j) rs ≡ 1) → b ≡ tables_of es t n
unfolding tables_of
sorted_are es sorted_none stands each = refl
sorted_are es (sorted_more {t} {n} {rs} {more} {b} table sorted) stands each =
    let (here, there) = all_split rs more stands in
    let both : (j : ℕ) → times (suc j) (rs ++ more) ≡ times (suc j) rs + times (suc j) more = λ j. count_append _ rs more in
    let now : (j : ℕ) → ((get_or es j document_node).kind ≡ t → ⊥) → times (suc j) rs ≡ 0 =
    λ j other. other_kinds es j here (all_map (λ r fits same. other (sym same ∙ fits.kind)) table.1) in
    let later : (j : ℕ) → (get_or es j document_node).kind ≡ t → times (suc j) more ≡ 0 =
    λ j e. other_kinds es j there (sorted_all (λ r good kind text same. omega arith) sorted) in
    ap (λ x. table_bytes x ++ b)
    (rows_same es table.0 (rows_ascend t 0 1 es (omega arith)) here (all_map (λ r s. s.0) (rows_stand t 1 es)) λ j l.
    either (eqb (get_or es j document_node).kind t)
    (λ q. let e = eqb-true _ t q in rw (rows_here es j l t, q) (omega (arith, each j l (omega arith), both j, later j e)))
    (λ q. rw (rows_here es j l t, q) (now j (eqb-false _ t q))))
    ∙ ap (λ y. table_bytes (rows_of t 1 es) ++ y) (sorted_are es sorted there λ j l k. omega (arith, each j l (omega arith), both j, now j (λ e. omega arith)))

-- What header, k and the tables have.
record Filed (limit k : ℕ) (rs : List Row) (b : List ℕ) : Type 0 where
  tables : List ℕ
  sorted : Sorted limit 0 k rs tables
  is : b ≡ header_of 0x45 0x44 0x47 1 ++ byte_of k ++ tables
  some : 1 ≤ length rs
  room : length rs ≤ limit

takes_head : (k : ℕ) → Takes (head k) (λ _. header_of 0x45 0x44 0x47 1 ++ byte_of k) (λ _. Unit {0})
unfolding head
takes_head k = takes_bind (takes_first 0x45 0x44 0x47) λ _ _. takes_weaken (takes_judged _ Bound takes_byte) λ n same. (rw (eqb-true n k same.1), tt)

accepts_rows : (limit k : ℕ) → Accepts (rows_file limit k) (Filed limit k)
unfolding rows_file
accepts_rows limit k =
    takes_bind (takes_head k) λ _ _.
    accepts_bind (accepts_tables limit 0 0 k (omega arith)) λ rs b sorted.
    takes_bind (takes_here (leb 1 (length rs)) Bound) λ _ some.
    accepts_give
    (record {
      tables = b;
      sorted = sorted.0;
      is = rw (append-nil b);
      some = leb-true 1 (length rs) some;
      room = omega (arith, sorted.1);
    })

pub rows_good : (limit k : ℕ) (s : List ℕ) {rs : List Row} {n : ℕ} → Bytes s → rows_file limit k s 0 ≡ got rs n → All (GoodRow limit) rs
rows_good limit k s bytes h = sorted_good ((accepts_rows limit k).accepts bytes (omega arith) h).holds.sorted

-- What has been judged of the elements.
module _ (g : Graph) (es : List Element) where
  abbrev Rules : ℕ → Type 0
  Rules i = (parent_rule (view es) i ≡ true) × (edge_rule g (view es) i ≡ true)

  -- n elements from element i on keep to the rules
  abbrev RulesKept : ℕ → ℕ → Type 0
  RulesKept i n = (j : ℕ) → i ≤ j → j < i + n → Rules j

  takes_elements : (i n : ℕ) → Takes (elements_judged g es i n) (λ _. []) (λ _. RulesKept i n)
  unfolding elements_judged element_judged
  takes_elements i zero = accepts_give (refl, λ j p l. absurd (omega arith))
  takes_elements i (suc n) =
      takes_bind (takes_bind (takes_here (parent_rule (view es) i) Number) λ _ p. takes_weaken (takes_here (edge_rule g (view es) i) Edge) λ _ q. (refl, (p, q))) λ _ rules.
      takes_weaken (takes_elements (suc i) n) λ _ later.
      (refl, λ j p l. ⊎_elim (λ e. subst Rules e rules) (λ m. later j m (omega arith)) (eq-or-lt_of_le p))

  reads_elements : (i n : ℕ) → RulesKept i n → Reads (elements_judged g es i n) [] tt
  unfolding elements_judged element_judged
  reads_elements i zero kept = reads_give tt
  reads_elements i (suc n) kept =
      let rules = kept i (omega arith) (omega arith) in
      reads_bind _ (reads_bind _ (reads_here Number rules.0) (reads_here Edge rules.1)) (reads_elements (suc i) n (λ j p l. kept j (omega arith) (omega arith)))

texts_of : (es : List Element) → ((j : ℕ) → (get_or es j document_node).text < words) → (i : ℕ) → (node es i).text < words
unfolding node
texts_of es h zero = omega arith
texts_of es h (suc j) = h j

-- The file.
module _ (limit : ℕ) (g : Graph) where
  accepts_whole : (rs : List Row) (b : List ℕ) → Filed limit g.k rs b → Accepts (whole limit g rs) (λ es _. Accepted limit g es × (b ≡ tables_bytes g es))
  unfolding whole tables_bytes
  accepts_whole rs b filed =
      takes_bind (takes_here (ones (length rs) (λ i. times (suc i) rs)) Number) λ _ numbers.
      takes_bind (takes_elements g (elements_of limit rs) 1 (length rs)) λ _ kept.
      let es : List Element = elements_of limit rs in
      let long : length es ≡ length rs = elements_long limit rs filed.room in
      let once : Once (length rs) rs = ones_out (length rs) _ numbers in
      let good : All (GoodRow (length rs)) rs = once_all (sorted_good filed.sorted) once in
      let stands : All (Stands es 1) rs = all_with (λ r g e. let most = g.most in record { from = g.positive; to = omega arith; is = sym e }) good (elements_at limit rs filed.room good once) in
      accepts_give (
        record {
          some_element = omega (arith, filed.some);
          most_elements = omega (arith, filed.room);
          parents = λ i p l. (kept i p (omega arith)).0;
          edges = λ i p l. (kept i p (omega arith)).1;
          texts = texts_of es (elements_keep (λ e. e.text < words) limit rs (omega arith) (sorted_all (λ r good kind text. text) filed.sorted));
        },
        filed.is ∙ ap (λ t. header_of 0x45 0x44 0x47 1 ++ byte_of g.k ++ t) (sorted_are es filed.sorted stands (λ j l _. once j (omega arith))),
      )

  pub tables_read_lem : {s : List ℕ} {es : List Element} {n : ℕ} → Bytes s → tables_file limit g s 0 ≡ got es n → Accepted limit g es × (s ≡ tables_bytes g es)
  unfolding tables_file
  tables_read_lem {s} {es} {n} bytes h =
      (accepts_ended {f = whole limit g} {Q = λ x b. Accepted limit g x × (b ≡ tables_bytes g x)} s (accepts_rows limit g.k) accepts_whole bytes h).0

-- The rows of the tables of n types from type t on.
unfoldable pub tabled : List Element → ℕ → ℕ → List Row
tabled es t zero = []
tabled es t (suc n) = rows_of t 1 es ++ tabled es (suc t) n

module _ (es : List Element) where
  tabled_stand : (t n : ℕ) → All (Stands es 1) (tabled es t n)
  unfolding tabled
  tabled_stand t zero = all_none
  tabled_stand t (suc n) = all_append (all_map (λ r s. s.0) (rows_stand t 1 es)) (tabled_stand (suc t) n)

  module _ (j : ℕ) (l : j < length es) where
    abbrev kind : ℕ
    kind = (get_or es j document_node).kind

    tabled_none : (t n : ℕ) → kind < t → times (suc j) (tabled es t n) ≡ 0
    unfolding tabled count
    tabled_none t zero h = refl
    tabled_none t (suc n) h =
        count_append _ (rows_of t 1 es) (tabled es (suc t) n)
        ∙ simp (rows_here es j l t, ne_eqb kind t (λ e. omega arith), tabled_none (suc t) n (omega arith))

    tabled_once : (t n : ℕ) → t ≤ kind → kind < t + n → times (suc j) (tabled es t n) ≡ 1
    unfolding tabled
    tabled_once t zero h m = absurd (omega arith)
    tabled_once t (suc n) h m =
        count_append _ (rows_of t 1 es) (tabled es (suc t) n)
        ∙ rw (rows_here es j l t)
        (⊎_elim (λ e. simp (eq-eqb kind t (sym e)) (omega (arith, tabled_none (suc t) n (omega arith))))
        (λ p. simp (ne_eqb kind t (λ e. omega arith)) (omega (arith, tabled_once (suc t) n p (omega arith)))) (eq-or-lt_of_le h))

  reads_tables : (limit : ℕ) → ((t : ℕ) → Table limit t 0 (rows_of t 1 es)) → (t total n : ℕ) → total + length (tabled es t n) ≤ limit
      → Reads (tables_read limit t total n) (tables_of es t n) (tabled es t n)
  unfolding tables_read tables_of table_bytes tabled
  reads_tables limit table t total zero room = reads_give []
  reads_tables limit table t total (suc n) room =
      let long = length-append (rows_of t 1 es) (tabled es (suc t) n) in
      reads_bind _ (reads_judged _ Bound (reads_byte (length (rows_of t 1 es))) (le-leb (total + length (rows_of t 1 es)) limit (omega arith)))
      (reads_bind _ (reads_rows limit t (table t)) (reads_last _ (reads_tables limit table (suc t) (total + length (rows_of t 1 es)) n (omega arith)) (reads_give _)))

module _ {limit : ℕ} {g : Graph} {es : List Element} (legal : LegalGraph g) (accepted : Accepted limit g es) where
  rows : List Row
  rows = tabled es 0 g.k

  kind_below : (j : ℕ) → j < length es → (get_or es j document_node).kind < g.k
  unfolding edge_rule view node
  kind_below j l = (edge_types g legal _ _ (accepted.edges (suc j) (omega arith) (omega arith))).1

  parent_below : (j : ℕ) → j < length es → (get_or es j document_node).parent < suc j
  unfolding view node is_element
  parent_below j l = (accepted_keeps limit g es accepted).parent_less (suc j) (and_in (le-leb (suc j) (length es) (omega arith)) (lt-ltb 0 (suc j) (omega arith)))

  stands_good : {n : ℕ} → length es ≤ n → (r : Row) → Stands es 1 r → GoodRow n r
  stands_good most r s =
      let from = s.from in
      let to = s.to in
      record { positive = from; most = omega arith; falling = rw s.is (omega (arith, parent_below (r.number - 1) (omega arith))) }

  rows_once : Once (length es) rows
  unfolding rows
  rows_once j l = tabled_once es j l 0 g.k (omega arith) (omega (arith, kind_below j l))

  rows_count : length rows ≡ length es
  unfolding rows
  rows_count = once_count (length es) (all_map (stands_good (omega arith)) (tabled_stand es 0 g.k)) rows_once

  pub tabled_count : length (tabled es 0 g.k) ≡ length es
  unfolding rows
  tabled_count = rows_count

  all_once : Once (length rows) rows
  all_once j l = rows_once j (omega (arith, rows_count))

  room : length rows ≤ limit
  room = omega (arith, rows_count, accepted.most_elements)

  rows_place : elements_of limit rows ≡ es
  unfolding rows
  rows_place =
      ext_get_or document_node (elements_of limit rows) es long λ i l.
      let stand = tabled_stand es 0 g.k in
      let there = elements_at limit rows room (all_map (stands_good (omega (arith, rows_count))) stand) all_once in
      count_some (λ r. eqb r.number (suc i)) (λ r e q. let here : r.number - 1 ≡ i = omega (arith, eqb-true r.number (suc i) q) in rw here at e)
      (omega (arith, rows_once i (omega (arith, long)))) (all_with (λ r s e. e ∙ s.is) stand there)
    where
      long : length (elements_of limit rows) ≡ length es
      long = elements_long limit rows room ∙ rows_count

  reads_filed : Reads (rows_file limit g.k) (tables_bytes g es) rows
  unfolding rows_file head tables_bytes rows node
  reads_filed =
      let some = accepted.some_element in
      reads_bind _
      (reads_bind _ (reads_header 0x45 0x44 0x47 1 1 (omega arith) (omega arith)) (reads_judged _ Bound (reads_byte g.k) (eq-eqb g.k g.k refl)))
      (reads_last _ (reads_tables es limit table 0 0 g.k (omega (arith, room)))
      (reads_bind _ (reads_here Bound (le-leb 1 (length rows) (omega (arith, rows_count)))) (reads_give rows)))
    where
      table : (t : ℕ) → Table limit t 0 (rows_of t 1 es)
      table t = (
        rows_ascend t 0 1 es (omega arith),
        all_map (λ r s. record { good = stands_good accepted.most_elements r s.0; kind = s.1; text = rw s.0.is (accepted.texts (suc (r.number - 1))) }) (rows_stand t 1 es),
      )

  reads_whole : Reads (whole limit g rows) [] es
  unfolding whole
  reads_whole =
      let numbers = ones_in (length rows) (λ i. times (suc i) rows) all_once in
      rw rows_place (reads_bind _ (reads_here Number numbers) (reads_bind _ (reads_elements g es 1 (length rows) kept) (reads_give es)))
    where
      kept : RulesKept g es 1 (length rows)
      kept j p l = (accepted.parents j p (omega (arith, rows_count)), accepted.edges j p (omega (arith, rows_count)))

  pub tables_written : tables_file limit g (tables_bytes g es) 0 ≡ got es (length (tables_bytes g es))
  unfolding tables_file
  tables_written = reads_ended (whole limit g) reads_filed reads_whole
