-- Rows and tables: what the reader accepts of them, and that what is written reads back.
use Prim.Native.Nat.{ℕ, zero, suc, ◌*◌, ◌<◌}
use mathlib.Core.Path.{◌≡◌, refl, ap}
use mathlib.Core.Bool.{true}
use mathlib.Core.List.{List, [], ◌∷◌, ◌++◌, append-nil}
use native.Mathlib.Omega.{arith}
use lib.Dec.{ltb, leb}
use lib.ListN.{length}
use borrow.Author.Tests.{lt-ltb, le-leb, ltb-true, leb-true}
use Rattle.meaning.specs.declared.Reason.TheVariants.{Number}
use Rattle.meaning.specs.Limits.{words}
use Rattle.meaning.proofs.Tests.{and_in, and_left, and_right}
use Rattle.fields.proofs.Formats.{Reads, Takes, reads_bind, reads_last, takes_bind, takes_weaken, accepts_give, reads_give, reads_judged, reads_byte, reads_word, takes_judged, takes_byte, takes_word}
use Rattle.edg.specs.declared.Row.{Row}
use Rattle.edg.specs.Inside.GoodRow.{GoodRow}
use Rattle.edg.specs.Edg.{row_rule, row_fields, row_read, rows_read, row_bytes, rows_bytes}
use Rattle.edg.proofs.Lists.{All, all_none, all_more}
use Rattle.edg.proofs.Tabling.{Ascending, ascending_none, ascending_more}

module _ (limit before : ℕ) (r : Row) where
  pub rule_out : row_rule limit before r ≡ true → GoodRow limit r × (before < r.number)
  unfolding row_rule
  rule_out h =
      let more = and_right (leb 1 r.number) _ h in
      let most = and_right (leb r.number limit) _ more in (
        record {
          positive = leb-true 1 r.number (and_left (leb 1 r.number) _ h);
          most = leb-true r.number limit (and_left (leb r.number limit) _ more);
          falling = ltb-true r.element.parent r.number (and_right (ltb before r.number) _ most);
        },
        ltb-true before r.number (and_left (ltb before r.number) _ most),
      )

  rule_in : GoodRow limit r → before < r.number → row_rule limit before r ≡ true
  unfolding row_rule
  rule_in good greater = and_in (le-leb _ _ good.positive) (and_in (le-leb _ _ good.most) (and_in (lt-ltb _ _ greater) (lt-ltb _ _ good.falling)))

-- a row that may stand in the table of type t
pub record Fitting (limit t : ℕ) (r : Row) : Type 0 where
  pub good : GoodRow limit r
  pub kind : r.element.kind ≡ t
  pub text : r.element.text < words

-- rows that may stand in it behind the row numbered before
abbrev pub Table : ℕ → ℕ → ℕ → List Row → Type 0
Table limit t before rs = Ascending before rs × All (Fitting limit t) rs

module _ (limit t : ℕ) where
  takes_row : (before : ℕ) → Takes (row_read limit t before) row_bytes (λ r. Fitting limit t r × (before < r.number))
  unfolding row_read row_fields
  takes_row before = takes_weaken (takes_judged (row_rule limit before) Number fields) λ r h.
      let (good, greater) = rule_out limit before r h.1 in
      (refl, (record { good = good; kind = h.0.0; text = h.0.1 }, greater))
    where
      fields : Takes (row_fields t) row_bytes (λ r. (r.element.kind ≡ t) × (r.element.text < words))
      fields = takes_bind takes_byte λ from _. takes_bind takes_byte λ to _. takes_bind takes_word λ x small. accepts_give (refl, (refl, small))

  pub takes_rows : (before n : ℕ) → Takes (rows_read limit t before n) rows_bytes (λ rs. (length rs ≡ n) × Table limit t before rs)
  unfolding rows_read rows_bytes
  takes_rows before zero = accepts_give (refl, (refl, (ascending_none, all_none)))
  takes_rows before (suc n) =
      takes_bind (takes_row before) λ r fits.
      takes_bind (takes_rows r.number n) λ rs table.
      accepts_give (ap (λ b. row_bytes r ++ b) (append-nil (rows_bytes rs)), (ap suc table.0, (ascending_more fits.1 table.1.0, all_more fits.0 table.1.1)))

  reads_row : {before : ℕ} {r : Row} → Fitting limit t r → before < r.number → Reads (row_read limit t before) (row_bytes r) r
  unfolding row_read row_fields
  reads_row {before} {r} fits greater =
      rw (← fits.kind)
      (reads_judged (row_rule limit before) Number
      (reads_bind _ (reads_byte r.element.parent) (reads_bind _ (reads_byte r.number) (reads_bind _ (reads_word r.element.text) (reads_give r))))
      (rule_in limit before r fits.good greater))

  pub reads_rows : {before : ℕ} {rs : List Row} → Table limit t before rs → Reads (rows_read limit t before (length rs)) (rows_bytes rs) rs
  unfolding rows_read rows_bytes
  reads_rows (ascending_none, all_none) = reads_give []
  reads_rows (ascending_more greater more, all_more fits rest) = reads_bind _ (reads_row fits greater) (reads_last _ (reads_rows (more, rest)) (reads_give _))

pub rows_length : (rs : List Row) → length (rows_bytes rs) ≡ length rs * 4
unfolding rows_bytes
rows_length [] = refl
rows_length (r ∷ rs) = omega (arith, rows_length rs)
