-- Numbers: where they are 1 to n, each once, in n rows, there are no others, and each element stands in its place.
use Prim.Native.Nat.{ℕ, zero, suc, ◌+◌, ◌-◌, ◌≤◌, ◌<◌}
use mathlib.Core.Path.{◌≡◌, refl, sym, ◌∙◌}
use mathlib.Core.Bool.{Bool, true, false}
use mathlib.Core.List.{List, [], ◌∷◌}
use native.Mathlib.Omega.{arith}
use lib.Dec.{eqb, leb}
use lib.ListN.{length, get_or, set, replicate, length-set, length-take, length-replicate}
use lib.Seq.{get_or-take, get_or-set_same, get_or-set_other}
use borrow.Author.Tests.{le-leb, lt-leb, eq-eqb, ne_eqb, leb-true, leb-false, eqb-true, eqb-false}
use Rattle.meaning.specs.declared.Element.{Element}
use Rattle.meaning.specs.Documents.{document_node}
use Rattle.meaning.proofs.Tests.{and_in, and_left, and_right}
use Rattle.meaning.proofs.Sets.{below_suc}
use Rattle.fields.specs.Read.{pick}
use Rattle.edg.specs.declared.Row.{Row}
use Rattle.edg.specs.Inside.GoodRow.{GoodRow}
use Rattle.edg.specs.Edg.{count, times, ones, placed, elements_of}
use Rattle.edg.proofs.Lists.{All, all_none, all_more, all_map, all_with, count_none, count_full, count_all, count_split, set_keeps, take_keeps, same_anywhere}

pub ones_out : (n : ℕ) (f : ℕ → ℕ) → ones n f ≡ true → (j : ℕ) → j < n → f j ≡ 1
unfolding ones
ones_out zero f h j l = absurd (omega arith)
ones_out (suc n) f h j l =
    below_suc (λ i. f i ≡ 1) j (eqb-true (f n) 1 (and_right (ones n f) _ h)) (ones_out n f (and_left (ones n f) _ h) j) l

pub ones_in : (n : ℕ) (f : ℕ → ℕ) → ((j : ℕ) → j < n → f j ≡ 1) → ones n f ≡ true
unfolding ones
ones_in zero f h = refl
ones_in (suc n) f h = and_in (ones_in n f (λ j l. h j (omega arith))) (eq-eqb (f n) 1 (h n (omega arith)))

-- each number from 1 to n comes once
abbrev pub Once : ℕ → List Row → Type 0
Once n rs = (j : ℕ) → j < n → times (suc j) rs ≡ 1

pub times_none : {rs : List Row} (m : ℕ) → All (λ r. r.number ≡ m → ⊥) rs → times m rs ≡ 0
times_none m others = count_none (λ r. eqb r.number m) (all_map (λ r other. ne_eqb r.number m other) others)

-- how many rows have a number up to n
abbrev within : ℕ → List Row → ℕ
within n = count (λ r. leb r.number n)

up_to_next : (m n : ℕ) → pick (leb m (suc n)) 1 0 ≡ pick (leb m n) 1 0 + pick (eqb m (suc n)) 1 0
up_to_next m n = go (leb m n) (eqb m (suc n)) refl refl
  where
    go : (b c : Bool) → leb m n ≡ b → eqb m (suc n) ≡ c → pick (leb m (suc n)) 1 0 ≡ pick b 1 0 + pick c 1 0
    go true true p q = absurd (omega (arith, leb-true m n p, eqb-true m (suc n) q))
    go true false p q = simp (le-leb m (suc n) (omega (arith, leb-true m n p)))
    go false true p q = simp (le-leb m (suc n) (omega (arith, eqb-true m (suc n) q)))
    go false false p q = let other = eqb-false m (suc n) q in simp (lt-leb m (suc n) (omega (arith, leb-false m n p)))

within_once : {limit : ℕ} (n : ℕ) {rs : List Row} → All (GoodRow limit) rs → Once n rs → within n rs ≡ n
within_once zero good once = count_none _ (all_map (λ r g. lt-leb r.number 0 g.positive) good)
within_once (suc n) {rs} good once =
    count_split (λ r. leb r.number (suc n)) (λ r. leb r.number n) (λ r. eqb r.number (suc n)) (λ r. up_to_next r.number n) rs
    ∙ omega (arith, within_once n good (λ j l. once j (omega arith)), once n (omega arith))

-- the numbers 1 to n, each once, and no others: there are n rows
pub once_count : (n : ℕ) {rs : List Row} → All (GoodRow n) rs → Once n rs → length rs ≡ n
once_count n good once = sym (count_full (λ r. leb r.number n) (all_map (λ r g. le-leb r.number n g.most) good)) ∙ within_once n good once

-- the numbers 1 to n, each once, in n rows: there are no others
pub once_all : {limit : ℕ} {rs : List Row} → All (GoodRow limit) rs → Once (length rs) rs → All (GoodRow (length rs)) rs
once_all {rs = rs} good once =
    all_with (λ r g e. record { positive = g.positive; most = leb-true r.number (length rs) e; falling = g.falling }) good
    (count_all (λ r. leb r.number (length rs)) rs (omega (arith, within_once (length rs) good once)))

placed_long : (es : List Element) (rs : List Row) → length (placed es rs) ≡ length es
unfolding placed
placed_long es [] = refl
placed_long es (r ∷ rs) = placed_long (set es (r.number - 1) r.element) rs ∙ length-set es (r.number - 1) r.element

pub elements_long : (limit : ℕ) (rs : List Row) → length rs ≤ limit → length (elements_of limit rs) ≡ length rs
unfolding elements_of
elements_long limit rs room =
    omega (arith, length-take (length rs) (placed (replicate limit document_node) rs), placed_long (replicate limit document_node) rs, length-replicate limit document_node)

-- a place whose number does not come stays as it was
placed_other : {n : ℕ} (es : List Element) {rs : List Row} (j : ℕ) → All (GoodRow n) rs → times (suc j) rs ≡ 0 → get_or (placed es rs) j document_node ≡ get_or es j document_node
unfolding placed count
placed_other es j all_none h = refl
placed_other es j (all_more {r} {rs} good more) h =
    let positive = good.positive in
    placed_other (set es (r.number - 1) r.element) j more (omega (arith, h))
    ∙ get_or-set_other es (r.number - 1) j r.element document_node (λ e. omega (arith, simp (eq-eqb r.number (suc j) (omega arith)) at h))

-- where no number comes twice, each row's element stands in its number's place
placed_all : {n : ℕ} (es : List Element) {rs : List Row} → n ≤ length es → ((j : ℕ) → j < n → times (suc j) rs ≤ 1) → All (GoodRow n) rs
    → All (λ r. get_or (placed es rs) (r.number - 1) document_node ≡ r.element) rs
unfolding placed count
placed_all es room once all_none = all_none
placed_all es room once (all_more {r} {rs} good more) =
    let positive = good.positive in
    let most = good.most in
    let i = r.number - 1 in
    let none : times (suc i) rs ≡ 0 = omega (arith, simp (eq-eqb r.number (suc i) (omega arith)) at (once i (omega arith))) in
    all_more
    (placed_other (set es i r.element) i more none ∙ get_or-set_same es i r.element document_node (omega arith))
    (placed_all (set es i r.element) (omega (arith, length-set es i r.element)) (λ j l. omega (arith, once j l)) more)

-- where the numbers are 1 to n, each once, each row's element stands in its number's place
pub elements_at : (limit : ℕ) (rs : List Row) → length rs ≤ limit → All (GoodRow (length rs)) rs → Once (length rs) rs
    → All (λ r. get_or (elements_of limit rs) (r.number - 1) document_node ≡ r.element) rs
unfolding elements_of
elements_at limit rs room good once =
    all_with
    (λ r g e. let positive = g.positive in let most = g.most in get_or-take (length rs) (placed (replicate limit document_node) rs) (r.number - 1) document_node (omega arith) ∙ e)
    good
    (placed_all (replicate limit document_node) (omega (arith, length-replicate limit document_node)) (λ j l. omega (arith, once j l)) good)

-- what holds of the elements of all rows, and of the document node, holds at each place
placed_keeps : (P : Element → Type 0) (es : List Element) {rs : List Row} → ((j : ℕ) → P (get_or es j document_node)) → All (λ r. P r.element) rs
    → (j : ℕ) → P (get_or (placed es rs) j document_node)
unfolding placed
placed_keeps P es h all_none = h
placed_keeps P es h (all_more {r} p more) = placed_keeps P (set es (r.number - 1) r.element) (set_keeps (λ _ e. P e) es (r.number - 1) r.element document_node h p) more

pub elements_keep : (P : Element → Type 0) (limit : ℕ) (rs : List Row) → P document_node → All (λ r. P r.element) rs → (j : ℕ) → P (get_or (elements_of limit rs) j document_node)
unfolding elements_of
elements_keep P limit rs p all =
    take_keeps (λ _ e. P e) (length rs) (placed (replicate limit document_node) rs) document_node
    (placed_keeps P (replicate limit document_node) (λ j. rw (same_anywhere document_node limit j) p) all)
    (λ _. p)
