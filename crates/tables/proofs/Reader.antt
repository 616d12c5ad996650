-- The file: what is kept of rows, and what each return of the reader says, from the header to the last element.
use Prim.Native.Nat.{ℕ, zero, suc, ◌+◌, ◌-◌, ◌<◌}
use mathlib.Core.Path.{◌≡◌, refl, sym, ap, ◌∙◌}
use mathlib.Core.Bool.{Bool, true}
use mathlib.Core.List.{List, [], ◌∷◌}
use native.Mathlib.Omega.{arith}
use native.Mathlib.Nat.{add-zero}
use lib.Dec.{eqb}
use lib.ListN.{length, get_or, take, replicate, length-set, length-take}
use lib.Seq.{get_or-take, get_or-set_same, get_or-set_other}
use mir.Syntax.{w8}
use mir.Val.{Fits}
use borrow.Author.Tests.{le-leb, lt-leb, eqb-true, eqb-false}
use Rattle.std.specs.Prelude.{Result, Ok, Err}
use Rattle.meaning.specs.declared.Graph.{Graph}
use Rattle.meaning.specs.declared.Element.{Element}
use Rattle.meaning.specs.declared.Reason.TheVariants.{Bound, Number}
use Rattle.meaning.specs.declared.Refusal.{Refusal}
use Rattle.meaning.specs.Limits.{element_limit}
use Rattle.meaning.specs.Documents.{document_node}
use Rattle.fields.specs.Read.{Read, got, refused, bind, refusal_of, pick, end, mapped}
use Rattle.fields.proofs.Formats.{judge_out}
use Rattle.elements.specs.Inside.Keeping.{Keeps}
use Rattle.edg.specs.declared.Row.{Row}
use Rattle.edg.specs.Inside.GoodRow.{GoodRow}
use Rattle.edg.specs.Edg.{tables_read, head, rows_file, count, times, ones, placed, elements_of, judge_here, element_judged, elements_judged, whole, tables_file}
use Rattle.edg.proofs.Lists.{either, All, all_none, all_more, same_anywhere}
use Rattle.edg.proofs.File.{rows_good}
use Rattle.tables.specs.declared.Numbers.{Numbers}
use Rattle.tables.specs.Inside.Gathered.{Gathered, gathered_in, none, put, put_all, Sound}
use Rattle.tables.proofs.Elements.{ones_same}
use Rattle.tables.proofs.Tables.{mapped_refused, mapped_got, added_total}

-- header, k and the tables
module _ (k : ℕ) (s : List ℕ) where
  pub rows_unheaded : {r : Refusal} → refused r ≡ head k s 0 → mapped (put_all none) (rows_file element_limit k s 0) ≡ refused r
  unfolding mapped rows_file
  rows_unheaded h = simp (← h)

  module _ {v after : ℕ} (h : got v after ≡ head k s 0) where
    pub rows_stopped : {r : Refusal} → mapped (put_all none) (tables_read element_limit 0 0 k s after) ≡ refused r → mapped (put_all none) (rows_file element_limit k s 0) ≡ refused r
    unfolding mapped rows_file
    rows_stopped t = simp (← h, mapped_refused (put_all none) (tables_read element_limit 0 0 k s after) t)

    module _ {d : Gathered} {last : ℕ} (t : mapped (put_all none) (tables_read element_limit 0 0 k s after) ≡ got d last) where
      pub rows_lacking : d.total ≡ 0 → mapped (put_all none) (rows_file element_limit k s 0) ≡ refused (refusal_of Bound last)
      unfolding mapped rows_file none
      rows_lacking z =
          let (rs, i, kept) = mapped_got (put_all none) (tables_read element_limit 0 0 k s after) t in
          let few = lt-leb 1 (length rs) (omega (arith, added_total none rs, ap (λ (c : Gathered). c.total) kept)) in
          simp (← h, i, few)

      pub rows_told : (d.total ≡ 0 → ⊥) → mapped (put_all none) (rows_file element_limit k s 0) ≡ got d last
      unfolding mapped rows_file none
      rows_told z =
          let (rs, i, kept) = mapped_got (put_all none) (tables_read element_limit 0 0 k s after) t in
          let some = le-leb 1 (length rs) (omega (arith, added_total none rs, ap (λ (c : Gathered). c.total) kept)) in
          simp (← h, i, some, kept)

-- what is kept of rows
added_elements : (c : Gathered) (rs : List Row) → (put_all c rs).elements ≡ placed c.elements rs
unfolding put_all placed put
added_elements c [] = refl
added_elements c (r ∷ rs) = added_elements (put c r) rs

put_times : (c : Gathered) (r : Row) → GoodRow element_limit r → length c.times ≡ element_limit → (i : ℕ)
    → get_or (put c r).times i 0 ≡ get_or c.times i 0 + pick (eqb r.number (suc i)) 1 0
unfolding put
put_times c r good long i =
    let positive = good.positive in
    let most = good.most in
    either (eqb r.number (suc i))
    (λ q. let here : r.number - 1 ≡ i = omega (arith, eqb-true r.number (suc i) q) in rw (q, here) (get_or-set_same c.times i _ 0 (omega arith)))
    (λ q. rw q (get_or-set_other c.times (r.number - 1) i _ 0 (λ e. eqb-false r.number (suc i) q (omega arith)) ∙ sym (add-zero _)))

added_times : (c : Gathered) {rs : List Row} → All (GoodRow element_limit) rs → length c.times ≡ element_limit → (i : ℕ)
    → get_or (put_all c rs).times i 0 ≡ get_or c.times i 0 + times (suc i) rs
unfolding put_all count put
added_times c all_none long i = sym (add-zero _)
added_times c (all_more {r} {rs} good more) long i =
    added_times (put c r) more (length-set c.times (r.number - 1) _ ∙ long) i ∙ omega (arith, put_times c r good long i)

-- what is kept and counted is what the rows come to
record Holds (kept : List Element) (n : Numbers) (rs : List Row) : Type 0 where
  count : n.total ≡ length rs
  elements : take n.total kept ≡ elements_of element_limit rs
  long : length (take n.total kept) ≡ length rs
  once : ones (length (take n.total n.times)) (λ i. get_or (take n.total n.times) i 0) ≡ ones (length rs) (λ i. times (suc i) rs)

holds_rows : (kept : List Element) (n : Numbers) {rs : List Row} → Sound (gathered_in kept n) → All (GoodRow element_limit) rs
    → put_all none rs ≡ gathered_in kept n → Holds kept n rs
unfolding none elements_of
holds_rows kept n {rs} sound good e =
    let same_count : n.total ≡ length rs = omega (arith, ap (λ (c : Gathered). c.total) e, added_total none rs) in
    let same_places : kept ≡ placed (replicate element_limit document_node) rs = sym (ap (λ (c : Gathered). c.elements) e) ∙ added_elements none rs in
    let long : length (take n.total kept) ≡ length rs = omega (arith, length-take n.total kept, sound.elements_long, sound.total_most) in
    let as_long : length (take n.total n.times) ≡ length rs = omega (arith, length-take n.total n.times, sound.times_long, sound.total_most) in
    let often : (i : ℕ) → i < n.total → get_or (take n.total n.times) i 0 ≡ times (suc i) rs =
    λ i l. get_or-take n.total n.times i 0 l ∙ omega (arith, ap (λ (c : Gathered). get_or c.times i 0) e, added_times none good refl i, same_anywhere {A = ℕ} 0 element_limit i) in
    record { count = same_count; elements = rw (same_places, same_count); long = long; once = rw as_long (ones_same (length rs) (λ i l. often i (omega arith))) }

-- nothing that is judged of the whole depends on the bytes
judged_anywhere : (g : Graph) (es : List Element) (s : List ℕ) (i n at : ℕ) → elements_judged g es i n [] at ≡ elements_judged g es i n s at
unfolding elements_judged element_judged
judged_anywhere g es s i zero at = refl
judged_anywhere g es s i (suc n) at = λ k. bind (element_judged g es i s at) (λ _ m. judged_anywhere g es s (suc i) n m k)

-- a file that is turned away, and one whose elements are kept
module _ {file : Read (List Element)} (kept : List Element) where
  pub not_kept : {x : Result ℕ Refusal} {r : Refusal} → x ≡ Err r → file ≡ refused r → Keeps file kept x
  not_kept q h = rw (q, h) refl

  all_kept : {total at : ℕ} {es : List Element} → total ≡ length es → take total kept ≡ es → file ≡ got es at → Keeps file kept (Ok total)
  all_kept e same h = rw h (ap Ok e, rw e at same)

module _ (g : Graph) (s : List ℕ) where
  abbrev rows : Read Gathered
  rows = mapped (put_all none) (rows_file element_limit g.k s 0)

  pub read_refused : {r : Refusal} → rows ≡ refused r → tables_file element_limit g s 0 ≡ refused r
  unfolding tables_file
  read_refused h = simp (mapped_refused (put_all none) (rows_file element_limit g.k s 0) h)

  module _ {kept : List Element} {n : Numbers} {last : ℕ} (bytes : (i : ℕ) → Fits w8 (get_or s i 0)) (sound : Sound (gathered_in kept n)) (h : rows ≡ got (gathered_in kept n) last) where
    found : (rs : List Row) × (rows_file element_limit g.k s 0 ≡ got rs last) × Holds kept n rs
    found =
        let (rs, i, same) = mapped_got (put_all none) (rows_file element_limit g.k s 0) h in
        (rs, i, holds_rows kept n sound (rows_good element_limit g.k s (λ j. (bytes j).fits) i) same)

    pub read_extra : {r : Refusal} → refused r ≡ end s last → tables_file element_limit g s 0 ≡ refused r
    unfolding tables_file
    read_extra k = let (rs, e, _) = found in simp (e, ← k)

    module _ {past : ℕ} (k : got tt past ≡ end s last) where
      abbrev once : Bool
      once = ones (length (take n.total n.times)) (λ i. get_or (take n.total n.times) i 0)

      pub read_repeated : {r : Refusal} → refused r ≡ judge_here once Number [] past → tables_file element_limit g s 0 ≡ refused r
      unfolding tables_file whole
      read_repeated o =
          let (rs, e, holds) = found in
          let stop = rw holds.once at (sym o) in
          simp (e, ← k, stop)

      module _ {u : Unit {0}} {m : ℕ} (o : got u m ≡ judge_here once Number [] past) where
        abbrev verdict : Read (Unit {0})
        verdict = elements_judged g (take n.total kept) 1 (length (take n.total kept)) [] past

        judging : {rs : List Row} → Holds kept n rs → verdict ≡ elements_judged g (elements_of element_limit rs) 1 (length rs) s past
        judging {rs} holds = rw (holds.long, holds.elements) (judged_anywhere g (elements_of element_limit rs) s 1 (length rs) past)

        passing : {rs : List Row} → Holds kept n rs → ones (length rs) (λ i. times (suc i) rs) ≡ true
        passing holds = sym holds.once ∙ (judge_out past once Number [] past (sym o)).0

        pub read_misjudged : {r : Refusal} → refused r ≡ verdict → tables_file element_limit g s 0 ≡ refused r
        unfolding tables_file whole
        read_misjudged j =
            let (rs, e, holds) = found in
            let pass = passing holds in
            let stop = sym (judging holds) ∙ sym j in
            simp (e, ← k, pass, stop)

        pub read_accepted : {v : Unit {0}} {z : ℕ} → got v z ≡ verdict → Keeps (tables_file element_limit g s 0) kept (Ok n.total)
        unfolding tables_file whole
        read_accepted {z = z} j =
            let (rs, e, holds) = found in
            let pass = passing holds in
            let right = sym (judging holds) ∙ sym j in
            let is : tables_file element_limit g s 0 ≡ got (elements_of element_limit rs) z = simp (e, ← k, pass, right) in
            all_kept kept (holds.count ∙ sym holds.long ∙ ap length holds.elements) holds.elements is
