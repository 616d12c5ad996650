-- The rows of one type: one law for each need of the functions that write them.
use Prim.Native.Nat.{ℕ, suc, ◌+◌, ◌≤◌, ◌<◌}
use mathlib.Core.List.{List, [], ◌++◌}
use mathlib.Core.Path.{◌≡◌}
use native.Mathlib.Numerals.{add-one}
use lib.ListN.{length, drop, get_or, drop_of_length-le}
use lib.Seq.{drop-cons}
use borrow.Author.Tests.{eq-eqb, ne_eqb}
use Rattle.meaning.specs.declared.Element.{Element}
use Rattle.edg.specs.Edg.{rows_of, row_bytes, rows_bytes}
use Rattle.writing.specs.declared.Writer.{Writer}
use Rattle.writing.proofs.Toward.{Toward, toward_none, toward_room, toward_more, toward_all}

-- the rows of the elements behind the first n
abbrev pub rows_after : ℕ → List Element → ℕ → List ℕ
rows_after t es n = rows_bytes (rows_of t (n + 1) (drop n es))

module _ (t : ℕ) (es : List Element) (n : ℕ) (e : Element) (l : n < length es) where
  pub rows_next : (get_or es n e).kind ≡ t → rows_after t es n ≡ row_bytes (record { number = n + 1; element = get_or es n e }) ++ rows_after t es (n + 1)
  unfolding rows_of rows_bytes
  rows_next k = rw (drop-cons es n e l, add-one n, add-one (suc n), eq-eqb (get_or es n e).kind t k)

  rows_other : ((get_or es n e).kind ≡ t → ⊥) → rows_after t es n ≡ rows_after t es (n + 1)
  unfolding rows_of rows_bytes
  rows_other k = rw (drop-cons es n e l, add-one n, add-one (suc n), ne_eqb (get_or es n e).kind t k)

  module _ {whole : List ℕ} {old w : Writer} (so_far : Toward whole old (rows_after t es n) w) where
    pub rows_skip : ((get_or es n e).kind ≡ t → ⊥) → Toward whole old (rows_after t es (n + 1)) w
    rows_skip k = rw (rows_other k) at so_far

    pub row_fits : (get_or es n e).kind ≡ t → w.at + 4 ≤ length w.out.now
    row_fits k = toward_room (row_bytes (record { number = n + 1; element = get_or es n e })) (rows_after t es (n + 1)) so_far (rows_next k)

pub rows_last : (t : ℕ) (es : List Element) (n : ℕ) → length es ≤ n → rows_after t es n ≡ []
unfolding rows_of rows_bytes
rows_last t es n l = rw (drop_of_length-le es {i = n} l)

pub ruleset laws = (toward_none, toward_more, toward_all, rows_next, rows_skip, row_fits, rows_last)
