-- The rows of one type, ascending: they are the elements of that type, in document order.
use Prim.Native.Nat.{ℕ, zero, suc, ◌+◌, ◌-◌, ◌≤◌, ◌<◌}
use mathlib.Core.Path.{◌≡◌, refl, sym, ap, ◌∙◌}
use mathlib.Core.Bool.{Bool, true, false}
use mathlib.Core.List.{List, [], ◌∷◌, ◌++◌}
use native.Mathlib.Nat.{add-zero, zero-add, lt_of_not-le}
use native.Mathlib.Omega.{arith}
use lib.Dec.{eqb}
use lib.ListN.{length, get_or}
use borrow.Author.Tests.{eq-eqb, ne_eqb, eqb-true}
use Rattle.meaning.specs.declared.Element.{Element}
use Rattle.meaning.specs.Documents.{document_node}
use Rattle.fields.specs.Read.{pick}
use Rattle.edg.specs.declared.Row.{Row}
use Rattle.edg.specs.Edg.{count, times, rows_of}
use Rattle.edg.proofs.Lists.{All, all_none, all_more, all_append, all_map, count_append}
use Rattle.edg.proofs.Numbers.{times_none}

-- the numbers of rows ascend from before on
pub data Ascending : ℕ → List Row → Type 0 where
  ascending_none : {before : ℕ} → Ascending before []
  ascending_more : {before : ℕ} {r : Row} {rs : List Row} → before < r.number → Ascending r.number rs → Ascending before (r ∷ rs)

ascending_above : {before : ℕ} {rs : List Row} (m : ℕ) → m ≤ before → Ascending before rs → All (λ r. r.number ≡ m → ⊥) rs
ascending_above m h ascending_none = all_none
ascending_above m h (ascending_more {r = r} rise more) = all_more {r = r} (λ e. omega arith) (ascending_above m (omega arith) more)

starts : (r : Row) {rs : List Row} → 1 ≤ r.number → Ascending r.number rs → Ascending (r.number - 1) (r ∷ rs)
starts r p more = let less : r.number - 1 < r.number = omega arith in ascending_more less more

-- the row of an element of es, where these are numbered from i on
pub record Stands (es : List Element) (i : ℕ) (r : Row) : Type 0 where
  pub from : i ≤ r.number
  pub to : r.number < i + length es
  pub is : r.element ≡ get_or es (r.number - i) document_node

row_same : {r q : Row} → r.number ≡ q.number → r.element ≡ q.element → r ≡ q
row_same p e = λ k. record { number = p k; element = e k }

-- rows of es that ascend are told by their numbers
module _ (es : List Element) where
  abbrev Same : List Row → List Row → Type 0
  Same rs ts = (j : ℕ) → j < length es → times (suc j) rs ≡ times (suc j) ts

  -- a row that comes on both sides stands behind what no number on the other side is below
  comes_above : {a : ℕ} (r : Row) (rs : List Row) {ts : List Row} → Ascending a ts → Stands es 1 r → Same (r ∷ rs) ts → a < r.number
  unfolding count
  comes_above r rs rise s same =
      lt_of_not-le λ l.
      let from = s.from in
      let to = s.to in
      let i = r.number - 1 in
      omega (arith, times_none (suc i) (ascending_above (suc i) (omega arith) rise), simp (eq-eqb r.number (suc i) (omega arith)) at (same i (omega arith)))

  pub rows_same : {a b : ℕ} {rs ts : List Row} → Ascending a rs → Ascending b ts → All (Stands es 1) rs → All (Stands es 1) ts → Same rs ts → rs ≡ ts
  unfolding count
  rows_same ascending_none ascending_none p q same = refl
  rows_same ascending_none (ascending_more {r = t} {rs = ts} up more) p (all_more s q) same = let later = comes_above {a = t.number} t ts ascending_none s (λ j l. sym (same j l)) in absurd (omega arith)
  rows_same (ascending_more {r = r} {rs} up more) ascending_none (all_more s p) q same = let later = comes_above {a = r.number} r rs ascending_none s same in absurd (omega arith)
  rows_same (ascending_more {r = r} {rs} up more) (ascending_more {r = t} {rs = ts} high later) (all_more s p) (all_more z q) same =
      let back = comes_above t ts (starts r s.from more) z (λ j l. sym (same j l)) in
      let number : r.number ≡ t.number = omega (arith, comes_above r rs (starts t z.from later) s same) in
      let element : r.element ≡ t.element = s.is ∙ ap (λ n. get_or es (n - 1) document_node) number ∙ sym z.is in
      let both : r ≡ t = row_same number element in
      rw both (ap (λ l. t ∷ l) (rows_same more later p q (λ j l. omega (arith, rw number at (same j l)))))

abbrev first : Bool → ℕ → Element → List Row
first b i e = pick b (record { number = i; element = e } ∷ []) []

-- the rows of the elements of type t
later_stands : (e : Element) (es : List Element) (i : ℕ) {r : Row} → Stands es (suc i) r → Stands (e ∷ es) i r
later_stands e es i {r} s =
    let from = s.from in
    let to = s.to in
    let one : r.number - i ≡ suc (r.number - suc i) = omega arith in
    record { from = omega arith; to = omega arith; is = s.is ∙ sym (rw one) }

module _ (t : ℕ) where
  pub rows_stand : (i : ℕ) (es : List Element) → All (λ r. Stands es i r × (r.element.kind ≡ t)) (rows_of t i es)
  unfolding rows_of
  rows_stand i [] = all_none
  rows_stand i (e ∷ es) = all_append (go (eqb e.kind t) refl) (all_map (λ r s. (later_stands e es i s.0, s.1)) (rows_stand (suc i) es))
    where
      none : i - i ≡ 0
      none = omega arith

      go : (b : Bool) → eqb e.kind t ≡ b → All (λ r. Stands (e ∷ es) i r × (r.element.kind ≡ t)) (first b i e)
      go true q = all_more {r = record { number = i; element = e }} (record { from = omega arith; to = omega arith; is = sym (rw none) }, eqb-true e.kind t q) all_none
      go false q = all_none

  pub rows_ascend : (before i : ℕ) (es : List Element) → before < i → Ascending before (rows_of t i es)
  unfolding rows_of
  rows_ascend before i [] h = ascending_none
  rows_ascend before i (e ∷ es) h = go (λ b. rows_ascend b (suc i) es) (eqb e.kind t)
    where
      go : ((b : ℕ) → b < suc i → Ascending b (rows_of t (suc i) es)) → (b : Bool) → Ascending before (first b i e ++ rows_of t (suc i) es)
      go more true = ascending_more h (more i (omega arith))
      go more false = more before (omega arith)

  pub rows_times : (i : ℕ) (es : List Element) (j : ℕ) → j < length es → times (i + j) (rows_of t i es) ≡ pick (eqb (get_or es j document_node).kind t) 1 0
  unfolding rows_of count
  rows_times i [] j l = absurd (omega arith)
  rows_times i (e ∷ es) zero l =
      let later : All (λ r. r.number ≡ i → ⊥) (rows_of t (suc i) es) = ascending_above i (omega arith) (rows_ascend i (suc i) es (omega arith)) in
      rw (add-zero i) (count_append _ (first (eqb e.kind t) i e) (rows_of t (suc i) es) ∙ simp (times_none i later, add-zero) (go (eqb e.kind t)))
    where
      go : (b : Bool) → times i (first b i e) ≡ pick b 1 0
      go true = simp (eq-eqb i i refl)
      go false = refl
  rows_times i (e ∷ es) (suc j) l =
      let one : i + suc j ≡ suc i + j = omega arith in
      rw one (count_append _ (first (eqb e.kind t) i e) (rows_of t (suc i) es) ∙ simp (go (eqb e.kind t), zero-add) (rows_times (suc i) es j (omega arith)))
    where
      go : (b : Bool) → times (suc i + j) (first b i e) ≡ 0
      go true = simp (ne_eqb i (suc i + j) (λ same. omega arith))
      go false = refl
