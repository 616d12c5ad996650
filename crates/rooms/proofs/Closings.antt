-- The closure by sweeps, in a room: a row takes in, a sweep of them, and the sweeps in turn.
use Rattle.std.proofs.Common.{Option, MatchOption, is_some}
use Prim.Native.Nat.{ℕ, ◌+◌, ◌-◌, ◌≤◌, ◌<◌}
use mathlib.Core.Path.{◌≡◌, refl, sym, ap, ap₂, ◌∙◌, fun_ext}
use mathlib.Core.Bool.{Bool, false, ◌&&◌, ◌||◌, or_self, cond}
use mathlib.Core.List.{List}
use native.Mathlib.Omega.{arith}
use lib.Dec.{eqb, leb}
use lib.ListN.{length}
use Rattle.meaning.specs.Limits.{small, row_bits, room_bytes}
use Rattle.meaning.specs.Relations.{Relation, closure}
use Rattle.meaning.proofs.Sets.{any_cong}
use Rattle.rows.specs.declared.Mix.TheVariants.{Either, First}
use Rattle.rows.specs.Inside.Rows.{in_row, Bits, gathered, mixes, rows_at, OthersStay, NextIs, mixed_rows}
use Rattle.rows.proofs.Bytes.{kept_all, kept_inside}
use Rattle.rows.proofs.Searches.{some_passes, some_upto}
use Rattle.rooms.specs.Inside.Rooms.{up_to, changed, Places, RoomMade, TakenIn, Grown, Swept, Closable}
use Rattle.rooms.proofs.Changes.{changed_here, up_to_all}
use Rattle.rooms.proofs.Rooms.{room_on, operands_kept, places_kept, row_first, made_as, made_after}
use Rattle.rooms.proofs.Turns.{gathered_wide}
use Rattle.rooms.proofs.Sweeps.{Sweeping, sweeping_more, Closing, closing_one, closing_all, closing_more, closing_closed}

module _ (width : ℕ) where
  pub row_taken : {xs ys before row after added : List ℕ} {base a v : ℕ} (first : Option ℕ) → Places width (length xs) base a a (row_bits width)
      → Bits before (rows_at width xs base v) → Bits row (rows_at width xs a v) → Bits after (gathered (row_bits small.row) (rows_at small.row xs base) (in_row row) (in_row before))
      → RoomMade width xs ys base (changed v (in_row after) (rows_at width xs base)) → Bits added (λ w. mixes First (in_row after w) (in_row before w))
      → NextIs (row_bits small.row) (in_row added) 0 first → TakenIn width xs ys base a v (is_some first)
  unfolding gathered changed
  row_taken {xs} {ys} {before} {row} {after} {base = base} {a} {v} first p b r g k m n =
      let now = gathered_wide width xs base (in_row row) (in_row before) p.sized g in
      record {
        row = made_as width refl k λ u w. ap (λ (t : Bool). cond (eqb u v) t (rows_at width xs base u w))
            (now.bits w ∙ ap₂ ◌||◌ (b.bits w) (any_cong (row_bits width) _ _ (λ x h. ap (λ (t : Bool). t && rows_at width xs base x w) (r.bits x))));
        more = some_passes (row_bits width) _ first
            (row_first width first p.sized (record { bits = λ w. m.bits w ∙ ap₂ (mixes First) (sym (k.rows v w ∙ changed_here v (in_row after) (rows_at width xs base) refl w)) (b.bits w) }) n);
      }

  -- A sweep has come down to v.
  pub record Sweeps (old new : List ℕ) (base a size v : ℕ) (grew back : Bool) : Type 0 where
    pub places : Places width (length old) base a a size
    pub most : v ≤ size
    pub rows : Sweeping size (rows_at width old a) (rows_at width old base) (rows_at width new base) v grew back
    pub others : OthersStay old new base (room_bytes width)

  module _ {old xs : List ℕ} {base a size v : ℕ} {g k : Bool} (n : Sweeps old xs base a size v g k) where
    pub sweeps_more : {ys : List ℕ} {t behind : Bool} (first : Option ℕ) {Q : ℕ → Type 0} → 0 < v → TakenIn width xs ys base a (v - 1) t → NextIs (row_bits width) (rows_at width ys a (v - 1)) 0 first
        → MatchOption first (behind ≡ false) Q → ((w : ℕ) → Q w → behind ≡ leb w (v - 1)) → Sweeps old ys base a size (v - 1) (g || t) (k || behind)
    sweeps_more {ys} first l m e is up =
        let q : v ≡ v - 1 + 1 = omega arith in
        let small : v - 1 + 1 ≤ row_bits width = omega (arith, n.most, n.places.few) in
        let others = kept_inside (omega arith) (omega arith) n.others m.row.others in
        let back = some_upto (row_bits width) (v - 1) _ first (omega (arith, small)) e is up in
        record {
          places = n.places;
          most = omega (arith, n.most);
          rows = sweeping_more size (rows_at width old a) (v - 1) (rw q at n.rows) (room_on width old a)
              (rw (operands_kept width n.others n.places).0 at m.row.rows) (room_on width ys base) m.more (rw (operands_kept width others n.places).0 at back);
          others = others;
        }

  -- After some sweeps, as many as k steps are in.
  pub record Closes (old new : List ℕ) (base a size k : ℕ) : Type 0 where
    pub asked : Closable width old base a size
    pub some : 1 ≤ k
    pub most : k ≤ size
    pub rows : Closing size (rows_at width old a) (rows_at width new base) k
    pub others : OthersStay old new base (room_bytes width)

  module _ {old xs : List ℕ} {base a size k : ℕ} (n : Closes old xs base a size k) where
    module _ {ys : List ℕ} {g : Bool} (s : Swept width size xs ys base a g) where
      same : rows_at width xs a ≡ rows_at width old a
      same = (operands_kept width n.others n.asked.places).0

      swept : Grown size (rows_at width old a) (rows_at width xs base) (rows_at width ys base) 0
      swept = rw (← same) s.rows

      kept : OthersStay old ys base (room_bytes width)
      kept = kept_inside (omega arith) (omega arith) n.others s.others

      pub closes_more : k < size → Closes old ys base a size (k + 1)
      closes_more l = record {
        asked = n.asked;
        some = omega arith;
        most = omega arith;
        rows = closing_more size (rows_at width old a) n.asked.on n.rows n.some swept;
        others = kept;
      }

  -- The operand was copied first; old is the work area from there on.
  module _ {first old : List ℕ} {base a size : ℕ} (q : Closable width first base a size) (m : RoomMade width first old base (up_to size (mixed_rows Either (rows_at width first a) (rows_at width first a)))) where
    operand_kept : rows_at width old a ≡ rows_at width first a
    operand_kept = (operands_kept width m.others q.places).0

    operand_copied : rows_at width old base ≡ rows_at width first a
    unfolding mixed_rows mixes
    operand_copied =
        let r : Relation = rows_at width first a in
        fun_ext λ v. fun_ext λ w.
        m.rows v w ∙ up_to_all size (mixed_rows Either r r) (λ v w h. (q.on v w (sym (or_self (r v w)) ∙ h)).0) v w ∙ or_self (r v w)

    pub closes_one : Closes old old base a size 1
    closes_one = record {
      asked = record { places = places_kept width m.others q.places; some = q.some; on = rw operand_kept q.on };
      some = omega arith;
      most = q.some;
      rows = rw (operand_copied, operand_kept) (closing_one size (rows_at width first a) q.on);
      others = kept_all;
    }

    module _ {xs : List ℕ} {k : ℕ} (n : Closes old xs base a size k) where
      pub closes_all : size ≤ k → RoomMade width first xs base (closure size (rows_at width first a))
      closes_all l =
          rw (← operand_kept) (made_after width m record { rows = closing_all size (rows_at width old a) n.asked.on n.rows (omega (arith, n.most)); others = n.others })

      pub closes_still : {ys : List ℕ} {g : Bool} → Swept width size xs ys base a g → g ≡ false → RoomMade width first ys base (closure size (rows_at width first a))
      closes_still s e =
          rw (← operand_kept) (made_after width m record {
            rows = closing_closed size (rows_at width old a) n.asked.on n.rows n.some (swept n s) (rw (← (same n s)) (s.closed e));
            others = kept n s;
          })
