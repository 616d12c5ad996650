-- Laws of rooms: their bits, what stays of them, and a room that is made row by row or column by column.
use Rattle.std.proofs.Common.{Option}
use Prim.Native.Nat.{ℕ, ◌+◌, ◌*◌, ◌/◌, ◌%◌, ◌≤◌, ◌<◌}
use mathlib.Core.Path.{◌≡◌, sym, ap, ap₂, ◌∙◌, fun_ext}
use mathlib.Core.Bool.{Bool, false, ◌&&◌, ◌||◌, and-false, or-false, cond}
use mathlib.Core.List.{List}
use mathlib.Core.Logic.{inl, inr}
use native.Mathlib.Omega.{arith}
use borrow.Author.Tests.{eq-eqb, ne_eqb, lt-ltb, le-ltb}
use lib.Dec.{eqb, ltb}
use borrow.Rule.Slice.PartMut.{put_mid}
use lib.ListN.{length, get_or, replicate, length-replicate, get_or-replicate}
use Rattle.meaning.specs.Limits.{small, row_bits, room_bytes}
use Rattle.meaning.specs.Sets.{bit}
use Rattle.meaning.specs.Relations.{Relation, nothing}
use Rattle.meaning.proofs.Sets.{bit_none}
use Rattle.meaning.proofs.Tests.{never}
use Rattle.meaning.proofs.Closure.{On}
use Rattle.rows.specs.Inside.Rows.{in_row, in_bytes, Bits, Placed, including, stretch, rows_at, OthersStay, RowMade, BitPut, NextIs}
use Rattle.rows.proofs.Bytes.{kept_all, kept_inside, stretch_kept, stretch_at, put_there, put_others}
use Rattle.rows.proofs.Cases.{by_order, by_equal}
use Rattle.rows.proofs.Rows.{row_order, row_bit, row_past, row_read_lem}
use Rattle.rooms.specs.Inside.Rooms.{RowWidth, up_to, columns, changed, added, Places, RoomMade}
use Rattle.rooms.proofs.Changes.{changed_here, changed_else, row_next, column_next}

module _ (width : ℕ) where
  module _ (xs : List ℕ) (base : ℕ) where
    -- a row, and a bit, of a room
    row_is : (v w : ℕ) → v < row_bits width → in_bytes (stretch width xs (base + width * v)) w ≡ rows_at width xs base v w
    unfolding rows_at
    row_is v w l = sym (ap (λ (t : Bool). t && in_bytes (stretch width xs (base + width * v)) w) (lt-ltb v (row_bits width) l))

    pub room_bit : (v w : ℕ) → v < row_bits width → w / 8 < width → rows_at width xs base v w ≡ bit (get_or xs (base + width * v + w / 8) 0) (w % 8)
    room_bit v w l m = sym (row_is v w l) ∙ row_bit width xs (base + width * v) w m

    no_row : (v w : ℕ) → row_bits width ≤ v → rows_at width xs base v w ≡ false
    unfolding rows_at
    no_row v w l = ap (λ (t : Bool). t && in_bytes (stretch width xs (base + width * v)) w) (le-ltb v (row_bits width) l)

    pub no_column : (v w : ℕ) → width ≤ w / 8 → rows_at width xs base v w ≡ false
    unfolding rows_at
    no_column v w l = ap (λ (t : Bool). ltb v (row_bits width) && t) (row_past width xs (base + width * v) w l) ∙ and-false (ltb v (row_bits width))

    -- a room relates numbers below as many as a row has bits
    pub room_on : On (row_bits width) (rows_at width xs base)
    room_on v w h =
        by_order v (row_bits width)
        (λ l. by_order (w / 8) width (λ m. (l, omega arith)) (λ m. never (sym (no_column v w m) ∙ h)))
        (λ l. never (sym (no_row v w l) ∙ h))

  -- where the bytes of a row stay, so do its bits; and so those of a room
  row_kept : (xs ys : List ℕ) (base v : ℕ) → (v < row_bits width → stretch width ys (base + width * v) ≡ stretch width xs (base + width * v))
      → (w : ℕ) → rows_at width ys base v w ≡ rows_at width xs base v w
  unfolding rows_at
  row_kept xs ys base v h w =
      by_order v (row_bits width)
      (λ l. ap (λ (row : List ℕ). ltb v (row_bits width) && in_bytes row w) (h l))
      (λ l. no_row ys base v w l ∙ sym (no_row xs base v w l))

  pub room_kept : {xs ys : List ℕ} {from size : ℕ} (a : ℕ) → OthersStay xs ys from size → from ≤ length xs → a + room_bytes width ≤ from → rows_at width ys a ≡ rows_at width xs a
  room_kept {xs} {ys} a k l m = fun_ext λ v. fun_ext
      (row_kept xs ys a v λ h. let o = row_order width v (row_bits width) h in stretch_kept width (a + width * v) k (omega arith) (inl (omega arith)))

  -- A row that is read, written, or has a number put in.
  module _ {base v at : ℕ} (p : Placed width base v at) where
    pub row_got : (xs : List ℕ) {row : List ℕ} → RowWidth width → Bits row (in_bytes (stretch small.row xs at)) → Bits row (rows_at width xs base v)
    row_got xs e b = row_read_lem width xs base v p.below (rw (← p.is, e) b)

    module _ {xs ys : List ℕ} (r : base + room_bytes width ≤ length xs) where
      row_changed : {f : ℕ → Bool} → RowMade width xs ys at f → RoomMade width xs ys base (changed v f (rows_at width xs base))
      row_changed {f} m = record {
        rows = λ u w. by_equal u v
            (λ e. ap (λ (x : ℕ). rows_at width ys base x w) e ∙ sym (row_is ys base v w p.below) ∙ rw (← p.is) (m.bits w) ∙ sym (changed_here v f _ e w))
            (λ n. row_kept xs ys base u (elsewhere u n) w ∙ sym (changed_else v f _ n w));
        others = kept_inside (omega (arith, p.is)) p.inside kept_all m.others;
      }
        where
          elsewhere : (u : ℕ) → (u ≡ v → ⊥) → u < row_bits width → stretch width ys (base + width * u) ≡ stretch width xs (base + width * u)
          elsewhere u n l =
              let o = row_order width u (row_bits width) l in
              stretch_kept width (base + width * u) m.others (omega arith)
              (by_order u v (λ h. inl (omega (arith, row_order width u v h, p.is))) (λ h. inr (omega (arith, row_order width v u (omega arith), p.is))))

      pub row_written : {f : ℕ → Bool} → RowWidth width → RowMade small.row xs ys at f → RoomMade width xs ys base (changed v f (rows_at width xs base))
      row_written e m = row_changed (rw e m)

      pub row_put : {w : ℕ} {there : Bool} → w < row_bits width → BitPut xs ys at w there → RoomMade width xs ys base (added v w there (rows_at width xs base))
      unfolding including added
      row_put {w} {there} l m =
          let k = row_changed (m.row width l (omega (arith, p.inside))) in
          record {
            rows = λ u x. k.rows u x ∙ by_equal u v
                (λ e. changed_here v _ _ e x ∙ ap₂ (λ (s : Bool) (t : Bool). s || (there && (t && eqb w x))) (rw (← p.is) at (row_is xs base v x p.below) ∙ ap (λ (y : ℕ). rows_at width xs base y x) (sym e)) (sym (eq-eqb v u (sym e))))
                (λ n. changed_else v _ _ n x ∙ sym (ap (λ (t : Bool). rows_at width xs base u x || (there && (t && eqb w x))) (ne_eqb v u (λ e. n (sym e))) ∙ ap (λ (t : Bool). rows_at width xs base u x || t) (and-false there) ∙ or-false _));
            others = k.others;
          }

  -- the first number of a row
  pub row_first : {row : List ℕ} {f : ℕ → Bool} (first : Option ℕ) → RowWidth width → Bits row f → NextIs (row_bits small.row) (in_row row) 0 first → NextIs (row_bits width) f 0 first
  row_first {row} {f} first e b n =
      let same : in_row row ≡ f = fun_ext λ w. b.bits w in
      rw (e, ← same) n

  -- a room of zeros relates nothing
  pub cleared : (xs : List ℕ) (base : ℕ) {zeros : List ℕ} → base + room_bytes width ≤ length xs → zeros ≡ replicate (room_bytes width) 0
      → RoomMade width xs (put_mid base (room_bytes width) xs zeros) base nothing
  cleared xs base {zeros} l e = record {
    rows = λ v w. by_order v (row_bits width)
        (λ h. by_order (w / 8) width
        (λ n. let inside : width * v + w / 8 < room_bytes width = omega (arith, row_order width v (row_bits width) h) in
        room_bit ys base v w h n ∙ ap (λ (b : ℕ). bit b (w % 8)) (zero_at (width * v + w / 8) inside (omega arith)) ∙ bit_none (w % 8))
        (no_column ys base v w))
        (no_row ys base v w);
    others = put_others xs zeros base (room_bytes width) l long;
  }
    where
      long : length zeros ≡ room_bytes width
      long = ap length e ∙ length-replicate (room_bytes width) 0

      ys : List ℕ
      ys = put_mid base (room_bytes width) xs zeros

      zero_at : (i : ℕ) {j : ℕ} → i < room_bytes width → base + i ≡ j → get_or ys j 0 ≡ 0
      zero_at i h p =
          ap (λ (j : ℕ). get_or ys j 0) (sym p) ∙ sym (stretch_at (room_bytes width) ys base i h)
          ∙ ap (λ (zs : List ℕ). get_or zs i 0) (put_there xs zeros base (room_bytes width) l long ∙ e) ∙ get_or-replicate (room_bytes width) i 0 0 h

  pub made_as : {xs ys : List ℕ} {base at : ℕ} {r s : Relation} → base ≡ at → RoomMade width xs ys base r → ((v w : ℕ) → r v w ≡ s v w) → RoomMade width xs ys at s
  made_as e m h = rw (← e) record { rows = λ v w. m.rows v w ∙ h v w; others = m.others }

  -- What is made in a room after something else: it is blank at first, has a row more, or a column more with one number.
  module _ {old xs : List ℕ} {base : ℕ} {q : Relation} (m : RoomMade width old xs base q) where
    pub made_none : {r : Relation} → ((v w : ℕ) → r v w ≡ q v w) → RoomMade width xs xs base r
    made_none h = record { rows = λ v w. m.rows v w ∙ sym (h v w); others = kept_all }

    pub made_after : {ys : List ℕ} {r : Relation} → RoomMade width xs ys base r → RoomMade width old ys base r
    made_after k = record { rows = k.rows; others = kept_inside (omega arith) (omega arith) m.others k.others }

  -- the rooms that it is made of stay
  module _ {old xs : List ℕ} {base a b size : ℕ} (k : OthersStay old xs base (room_bytes width)) (p : Places width (length old) base a b size) where
    pub operands_kept : (rows_at width xs a ≡ rows_at width old a) × (rows_at width xs b ≡ rows_at width old b)
    operands_kept = let l : base ≤ length old = omega (arith, p.room) in (room_kept a k l p.left, room_kept b k l p.right)

    pub places_kept : Places width (length xs) base a b size
    places_kept = record { sized = p.sized; room = omega (arith, k.same, p.room); left = p.left; right = p.right; few = p.few }

  module _ {old xs ys : List ℕ} {base : ℕ} (r : Relation) where
    pub row_more : (v : ℕ) (f : ℕ → Bool) → RoomMade width old xs base (up_to v r) → RoomMade width xs ys base (changed v f (rows_at width xs base)) → ((w : ℕ) → f w ≡ r v w)
        → RoomMade width old ys base (up_to (v + 1) r)
    unfolding changed
    row_more v f m k h =
        made_after m record { rows = λ u w. k.rows u w ∙ ap₂ (cond (eqb u v)) (h w) (m.rows u w) ∙ row_next r v u w; others = k.others }

    pub column_more : (u w : ℕ) (there : Bool) → RoomMade width old xs base (columns w r) → RoomMade width xs ys base (added u w there (rows_at width xs base))
        → ((v : ℕ) → r v w ≡ there && eqb u v) → RoomMade width old ys base (columns (w + 1) r)
    unfolding added
    column_more u w there m k h =
        made_after m record {
          rows = λ v x. k.rows v x ∙ ap (λ (t : Bool). t || (there && (eqb u v && eqb w x))) (m.rows v x) ∙ column_next r u w there h v x;
          others = k.others;
        }
