-- Tables: what each return and turn of the loops over the rows of a type and over the types says.
use Prim.Native.Nat.{ℕ, suc, ◌+◌, ◌*◌, ◌-◌, ◌≤◌, ◌<◌, min}
use mathlib.Core.Path.{◌≡◌, refl, sym, ap, ◌∙◌}
use mathlib.Core.List.{List, [], ◌∷◌, ◌++◌}
use native.Mathlib.Omega.{arith}
use native.Mathlib.Nat.{add-zero}
use lib.Dec.{ltb}
use lib.ListN.{length, get_or, take, drop}
use mir.Syntax.{w8}
use mir.Val.{Fits}
use borrow.Author.Tests.{ltb-true}
use Rattle.std.specs.Prelude.{Result, Ok, Err}
use Rattle.meaning.specs.declared.Reason.TheVariants.{Ended, Bound, Number}
use Rattle.meaning.specs.declared.Refusal.{Refusal}
use Rattle.meaning.specs.Limits.{element_limit}
use Rattle.fields.specs.Read.{Read, got, refused, bind, byte, mapped}
use Rattle.fields.specs.declared.Cursor.{Cursor}
use Rattle.fields.proofs.Formats.{got_same, pick_out, refused_out}
use Rattle.edg.specs.declared.Row.{Row}
use Rattle.edg.specs.Inside.GoodRow.{GoodRow}
use Rattle.edg.specs.Edg.{row_rule, row_fields, row_read, rows_read, count_read, tables_read}
use Rattle.edg.proofs.Rows.{rule_out}
use Rattle.tables.specs.Inside.Gathered.{Gathered, none, put, put_all, Sound, GatheredRead}
use Rattle.tables.proofs.Places.{none_sound, put_sound}
use Rattle.tables.proofs.Stretch.{judged_out, stretch_got, stretch_refused}

-- an answer that hands a refusal on, and one that says where reading goes on
module _ {c : Gathered} {w : Read Gathered} where
  pub not_gathered : {x : Result (Unit {0} × Cursor) Refusal} {r : Refusal} → x ≡ Err r → w ≡ refused r → GatheredRead x c w
  not_gathered q h = rw (q, h) (record { right = refl; sound = tt })

  pub all_gathered : {next : Cursor} → Sound c → w ≡ got c next.at → GatheredRead (Ok (tt, next)) c w
  all_gathered sound h = record { right = h; sound = sound }

-- what was read before it was mapped
module _ {A B : Type 0} (f : A → B) where
  pub mapped_refused : (e : Read A) {r : Refusal} → mapped f e ≡ refused r → e ≡ refused r
  unfolding mapped
  mapped_refused (got a n) h = refused_out (sym h)
  mapped_refused (refused q) h = cc

  pub mapped_got : (e : Read A) {b : B} {n : ℕ} → mapped f e ≡ got b n → (a : A) × (e ≡ got a n) × (f a ≡ b)
  unfolding mapped
  mapped_got (got a m) h = let (same, next) = got_same h in (a, rw next, same)
  mapped_got (refused q) h = refused_out h

  mapped_bind : {C : Type 0} (g : C → A) (h : C → B) → ((x : C) → f (g x) ≡ h x) → (e : Read C) → mapped f (bind e (λ x at. got (g x) at)) ≡ mapped h e
  unfolding mapped
  mapped_bind g h same (got x n) = rw (same x)
  mapped_bind g h same (refused q) = refl

-- The loop over the rows of a table: w is what the whole of them comes to, and c what is kept of the first i.
pub record Upto (w : Read Gathered) (t : ℕ) (s : List ℕ) (c : Gathered) (last count i at : ℕ) : Type 0 where
  pub sound : Sound c
  pub room : c.total + (count - i) ≤ element_limit
  pub rest : w ≡ mapped (put_all c) (rows_read element_limit t last (count - i) s at)

module _ {w : Read Gathered} {t : ℕ} {s : List ℕ} {c : Gathered} {last count i at : ℕ} (u : Upto w t s c last count i at) where
  pub upto_end : count ≤ i → w ≡ got c at
  unfolding mapped put_all rows_read
  upto_end h = let e : count - i ≡ 0 = omega arith in rw e at u.rest

  module _ (p : i < count) where
    row_turn : w ≡ mapped (put_all c) (rows_read element_limit t last (suc (count - (i + 1))) s at)
    row_turn = let e : count - i ≡ suc (count - (i + 1)) = omega arith in u.rest ∙ ap (λ m. mapped (put_all c) (rows_read element_limit t last m s at)) e

    pub upto_refused : {r : Refusal} → refused r ≡ row_read element_limit t last s at → w ≡ refused r
    unfolding mapped rows_read
    upto_refused h = row_turn ∙ simp (← h)

    module _ {row : Row} {after : ℕ} (h : got row after ≡ row_read element_limit t last s at) where
      pub upto_good : GoodRow element_limit row
      unfolding row_read
      upto_good = (rule_out element_limit last row (judged_out (row_fields t) (row_rule element_limit last) Number s at (sym h)).1).0

      pub upto_again : {d : Gathered} → d ≡ put c row → Upto w t s d row.number count (i + 1) after
      unfolding put rows_read put_all
      upto_again e =
          let room = u.room in
          rw e (record {
            sound = put_sound c row u.sound (omega arith) upto_good;
            room = omega arith;
            rest = row_turn ∙ rw (← h) (mapped_bind (put_all c) (λ rs. row ∷ rs) (put_all (put c row)) (λ rs. refl) _);
          })

added_append : (c : Gathered) (rs ts : List Row) → put_all c (rs ++ ts) ≡ put_all (put_all c rs) ts
unfolding put_all
added_append c [] ts = refl
added_append c (r ∷ rs) ts = added_append (put c r) rs ts

pub added_total : (c : Gathered) (rs : List Row) → (put_all c rs).total ≡ c.total + length rs
unfolding put_all put
added_total c [] = sym (add-zero c.total)
added_total c (r ∷ rs) = added_total (put c r) rs ∙ omega arith

-- a count that was read stands in the file, and so the stretch behind it
module _ (total : ℕ) (s : List ℕ) (at : ℕ) {count after : ℕ} (h : got count after ≡ count_read element_limit total s at) where
  pub counted_inside : after ≤ length s
  unfolding byte
  counted_inside =
      let (t, g) = pick_out (ltb at (length s)) (got (get_or s at 0) (at + 1)) (record { reason = Ended }) (judged_out byte _ Bound s at (sym h)).0 in
      let e : at + 1 ≡ after = cc in
      omega (arith, ltb-true at (length s) t)

  module _ {e : ℕ} (k : e ≡ min (after + count * 4) (length s)) where
    pub stretch_from : after ≤ e
    stretch_from = omega (arith, counted_inside)

    pub stretch_to : e ≤ length s
    stretch_to = omega arith

-- The loop over the types: w is what all tables come to, and c what is kept of those below kind.
pub record Below (w : Read Gathered) (s : List ℕ) (k : ℕ) (c : Gathered) (kind at : ℕ) : Type 0 where
  pub sound : Sound c
  pub rest : w ≡ mapped (put_all c) (tables_read element_limit kind c.total (k - kind) s at)

pub below_none : (s : List ℕ) (k : ℕ) (at : ℕ) {c : Gathered} → c ≡ none → Below (mapped (put_all none) (tables_read element_limit 0 0 k s at)) s k c 0 at
unfolding none
below_none s k at e = let z : k - 0 ≡ k = omega arith in record { sound = none_sound e; rest = rw e (simp z) }

module _ {w : Read Gathered} {s : List ℕ} {k : ℕ} {c : Gathered} {kind at : ℕ} (b : Below w s k c kind at) where
  pub below_end : k ≤ kind → w ≡ got c at
  unfolding mapped put_all tables_read
  below_end h = let e : k - kind ≡ 0 = omega arith in rw e at b.rest

  module _ (p : kind < k) where
    table_turn : w ≡ mapped (put_all c) (tables_read element_limit kind c.total (suc (k - suc kind)) s at)
    table_turn = let e : k - kind ≡ suc (k - suc kind) = omega arith in b.rest ∙ ap (λ m. mapped (put_all c) (tables_read element_limit kind c.total m s at)) e

    pub below_uncounted : {r : Refusal} → refused r ≡ count_read element_limit c.total s at → w ≡ refused r
    unfolding mapped tables_read
    below_uncounted h = table_turn ∙ simp (← h)

    module _ {count after : ℕ} (h : got count after ≡ count_read element_limit c.total s at) {e : ℕ} (end : e ≡ min (after + count * 4) (length s)) where
      abbrev table : Read (List Row)
      table = rows_read element_limit kind 0 count (take (e - after) (drop after s)) 0

      pub below_refused : {r : Refusal} → mapped (put_all c) table ≡ refused r → w ≡ refused r
      unfolding mapped tables_read
      below_refused t =
          let stop = mapped_refused (put_all c) _ t in
          table_turn ∙ simp (← h, stretch_refused s after e (stretch_from c.total s at h end) (stretch_to c.total s at h end) element_limit kind count end stop)

      pub below_again : {d : Gathered} {last : ℕ} → ((i : ℕ) → Fits w8 (get_or s i 0)) → Sound d → mapped (put_all c) table ≡ got d last → Below w s k d (kind + 1) e
      unfolding tables_read
      below_again {d} bytes sound t =
          let (rs, i, kept) = mapped_got (put_all c) _ t in
          let (there, long) = stretch_got s after e (stretch_from c.total s at h end) (stretch_to c.total s at h end) element_limit kind count end (λ i. (bytes i).fits) i in
          let total : c.total + count ≡ d.total = omega (arith, added_total c rs, ap (λ (g : Gathered). g.total) kept) in
          let next : suc kind ≡ kind + 1 = omega arith in
          rw (← next) (record {
            sound = sound;
            rest =
                table_turn
                ∙ rw (← h, there, total) (mapped_bind (put_all c) (λ ts. rs ++ ts) (put_all d) (λ ts. added_append c rs ts ∙ ap (λ g. put_all g ts) kept) _);
          })
