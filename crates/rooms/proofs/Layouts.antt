-- Laws of the work area's layout: bytes that stand over the front of a buffer, and the bits of a step.
use Prim.Native.Nat.{ℕ, ◌+◌, ◌-◌, ◌*◌, ◌/◌, ◌%◌, ◌^◌, ◌≤◌, ◌<◌}
use mathlib.Core.Path.{◌≡◌, sym, ap, ap₂, ◌∙◌}
use mathlib.Core.List.{List}
use native.Mathlib.Nat.{zero-add, mul-pos, mod-lt, mod-eq_of_lt, div-eq_of_lt, div-add-mod', div-lt_iff_lt-mul, mul-add-div, mul-add-mod_self_left}
use native.Mathlib.Omega.{arith}
use lib.ListN.{length, get_or, take, get_or-append}
use lib.Seq.{get_or-append-add, get_or-drop}
use Rattle.meaning.specs.declared.Operation.{Operation}
use Rattle.meaning.specs.Limits.{row_bits, room_bytes}
use Rattle.meaning.specs.Sets.{bit}
use Rattle.meaning.specs.Relations.{at}
use Rattle.meaning.specs.Documents.{View}
use Rattle.meaning.specs.Operations.{run}
use Rattle.meaning.specs.Lists.{table}
use Rattle.meaning.proofs.Sets.{bit_mask}
use Rattle.meaning.proofs.Lists.{table_length, table_at}
use Rattle.writing.specs.Lent.{over}
use Rattle.writing.proofs.Puts.{over_front, over_length}
use Rattle.rooms.specs.Layout.{room_byte, work_byte, joined, overwritten}
use Rattle.rows.specs.Inside.Rows.{rows_at}
use Rattle.rows.proofs.Bits.{is_mask}
use Rattle.rows.proofs.Rows.{row_order}
use Rattle.rooms.proofs.Rooms.{room_bit}

module _ (bytes old : List ℕ) where
  pub over_at : (i : ℕ) → i < length bytes → get_or (over 0 bytes old) i 0 ≡ get_or bytes i 0
  unfolding over
  over_at i l = get_or-append bytes _ 0 i l

  pub over_past : (i : ℕ) → length bytes ≤ i → get_or (over 0 bytes old) i 0 ≡ get_or old i 0
  unfolding over
  over_past i l =
      let e : i ≡ length bytes + (i - length bytes) = omega arith in
      let far : 0 + length bytes + (i - length bytes) ≡ i = omega arith in
      ap (λ (j : ℕ). get_or (over 0 bytes old) j 0) e ∙ get_or-append-add bytes _ (i - length bytes) 0
      ∙ get_or-drop (0 + length bytes) old (i - length bytes) 0 ∙ ap (λ (j : ℕ). get_or old j 0) far

module _ (f : ℕ → ℕ) (n : ℕ) (old : List ℕ) where
  pub overwritten_front : (i : ℕ) → i < n → get_or (overwritten f n old) i 0 ≡ f i
  unfolding overwritten
  overwritten_front i l = over_at (table f 0 n) old i (omega (arith, table_length f 0 n)) ∙ table_at f 0 n i 0 l ∙ ap f (zero-add i)

  pub overwritten_past : (i : ℕ) → n ≤ i → get_or (overwritten f n old) i 0 ≡ get_or old i 0
  unfolding overwritten
  overwritten_past i l = over_past (table f 0 n) old i (omega (arith, table_length f 0 n))

  pub overwritten_length : n ≤ length old → length (overwritten f n old) ≡ length old
  unfolding overwritten
  overwritten_length l = over_length 0 (table f 0 n) old (omega (arith, table_length f 0 n))

  pub overwritten_taken : take n (overwritten f n old) ≡ table f 0 n
  unfolding overwritten
  overwritten_taken = ap (λ (m : ℕ). take m (over 0 (table f 0 n) old)) (sym (table_length f 0 n)) ∙ over_front (table f 0 n) old

-- the parts of a place: so many whole stretches, and the rest
parts : (m n r : ℕ) → r < m → ((m * n + r) / m ≡ n) × ((m * n + r) % m ≡ r)
parts m n r l = (mul-add-div (omega arith) n r ∙ omega (arith, div-eq_of_lt l), mul-add-mod_self_left m n r ∙ mod-eq_of_lt l)

module _ (width : ℕ) (some : 0 < width) where
  -- a byte of the work area is that of the room that it stands in
  pub byte_is : (xs : List ℕ) (i : ℕ) → get_or xs i 0 < 2 ^ 8 → get_or xs i 0 ≡ room_byte width (rows_at width xs (room_bytes width * (i / room_bytes width))) (i % room_bytes width)
  unfolding room_byte
  byte_is xs i small =
      is_mask 8 (get_or xs i 0) _ small λ b l.
      let r : ℕ = i % room_bytes width in
      let at : room_bytes width * (i / room_bytes width) + width * (r / width) + (r % width * 8 + b) / 8 ≡ i = omega (arith, div-add-mod' i (room_bytes width), div-add-mod' r width) in
      let low : (r % width * 8 + b) % 8 ≡ b = omega arith in
      let few : r / width < row_bits width = (div-lt_iff_lt-mul some).1 (omega (arith, mod-lt i {m = room_bytes width} (mul-pos some (omega arith)))) in
      sym (room_bit width xs (room_bytes width * (i / room_bytes width)) (r / width) (r % width * 8 + b) few (omega (arith, mod-lt r some)) ∙ ap₂ (λ (j k : ℕ). bit (get_or xs j 0) k) at low)

  -- every bit of every step stands at its place
  pub joined_is : (d : View) (os : List Operation) (n : ℕ) (old : List ℕ) (s v w : ℕ) → s < n → v < row_bits width → w < row_bits width
      → joined width (overwritten (work_byte width d os) (room_bytes width * n) old) s v w ≡ at (run d os) s v w
  unfolding work_byte room_byte
  joined_is d os n old s v w a b c =
      let r : ℕ = width * v + w / 8 in
      let i : room_bytes width * s + width * v + w / 8 ≡ room_bytes width * s + r = omega arith in
      let step = parts (room_bytes width) s r (omega (arith, row_order width v (row_bits width) b)) in
      let row = parts width v (w / 8) (omega arith) in
      let column : w / 8 * 8 + w % 8 ≡ w = omega arith in
      ap (λ (x : ℕ). bit (get_or (overwritten (work_byte width d os) (room_bytes width * n) old) x 0) (w % 8)) i
      ∙ ap (λ (x : ℕ). bit x (w % 8)) (overwritten_front (work_byte width d os) (room_bytes width * n) old (room_bytes width * s + r) (omega (arith, row_order width v (row_bits width) b, row_order (room_bytes width) s n a)))
      ∙ rw (step.0, step.1, row.0, row.1) (bit_mask 8 (λ x. at (run d os) s v (w / 8 * 8 + x)) (w % 8) (omega arith)) ∙ ap (at (run d os) s v) column
