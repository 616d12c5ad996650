-- A room that is made of two others, row by row: one law for each way that a row is made, each turn and each end.
use Rattle.std.proofs.Common.{Option, is_some}
use Prim.Native.Nat.{ℕ, ◌+◌, ◌≤◌, ◌<◌}
use mathlib.Core.Path.{◌≡◌, refl, sym, ap, ap₂, ◌∙◌}
use mathlib.Core.Bool.{Bool, false, ◌&&◌, ◌||◌}
use mathlib.Core.List.{List}
use native.Mathlib.Omega.{arith}
use borrow.Author.Tests.{lt-ltb, le-ltb, ltb-true}
use lib.Dec.{eqb, ltb}
use lib.ListN.{length}
use Rattle.meaning.specs.Limits.{small, row_bits}
use Rattle.meaning.specs.Sets.{any}
use Rattle.meaning.specs.Relations.{Relation, nothing, join}
use Rattle.meaning.proofs.Tests.{same, and_in, and_left, and_right}
use Rattle.meaning.proofs.Sets.{any_in, any_out, any_cong}
use Rattle.meaning.proofs.Closure.{On}
use Rattle.rows.specs.declared.Mix.{Mix}
use Rattle.rows.specs.declared.Mix.TheVariants.{Both}
use Rattle.rows.specs.Inside.Rows.{in_row, Bits, including, gathered, mixes, rows_at, NextIs, mixed_rows}
use Rattle.rows.proofs.Searches.{some_passes}
use Rattle.rows.specs.declared.Row.{Row}
use Rattle.rooms.specs.declared.relations.Way.{Way}
use Rattle.rooms.specs.declared.relations.Way.TheVariants.{Mixed, Joined}
use Rattle.rooms.specs.Inside.Rooms.{RowWidth, up_to, changed, starting, combined, Places, RoomMade}
use Rattle.rooms.proofs.Changes.{up_to_none, one_more}
use Rattle.rooms.proofs.Rooms.{room_on, made_as, made_none, made_after, operands_kept, places_kept, row_more}

pub gathered_wide : (width : ℕ) (xs : List ℕ) (base : ℕ) {row : List ℕ} (which f : ℕ → Bool) → RowWidth width → Bits row (gathered (row_bits small.row) (rows_at small.row xs base) which f)
    → Bits row (gathered (row_bits width) (rows_at width xs base) which f)
gathered_wide width xs base which f e b = rw e b

module _ (r : Relation) (v : ℕ) {row left : List ℕ} (a : Bits left (r v)) where
  pub row_mixed : (limit : ℕ) (s : Relation) (how : Mix) {right : List ℕ} → Bits right (s v) → Bits row (λ w. mixes how (in_row left w) (in_row right w))
      → Bits row (combined limit (Mixed how) r s v)
  unfolding combined
  row_mixed limit s how b m = record { bits = λ w. m.bits w ∙ ap₂ (mixes how) (a.bits w) (b.bits w) }

  pub row_joined : (limit : ℕ) (s : Relation) (there : Row) {which none : List ℕ} → Bits none (λ w. false) → Bits which (λ w. mixes Both (in_row left w) (in_row there.words w))
      → Bits row (gathered limit s (in_row which) (in_row none)) → Bits row (combined limit (Joined there) r s v)
  unfolding combined gathered mixes
  row_joined limit s there {which} none m g = record {
    bits = λ w. g.bits w ∙ ap₂ ◌||◌ (none.bits w) (any_cong limit _ _ (λ u l. ap (λ (t : Bool). t && s u w) (m.bits u ∙ ap (λ (t : Bool). t && in_row there.words u) (a.bits u))));
  }

-- the numbers from which there is a row, one after the other
module _ (limit : ℕ) (r : Relation) where
  pub starts_none : {none : List ℕ} → Bits none (λ w. false) → Bits none (starting limit 0 r)
  unfolding starting
  starts_none n = record { bits = λ u. n.bits u ∙ sym (ap (λ (t : Bool). t && any limit (r u)) (le-ltb u 0 (omega arith))) }

  pub starts_more : {all more : List ℕ} (first : Option ℕ) (v : ℕ) → Bits all (starting limit v r) → NextIs limit (r v) 0 first → Bits more (including (in_row all) v (is_some first)) → Bits more (starting limit (v + 1) r)
  unfolding including starting
  starts_more first v s n m = record {
    bits = λ u. m.bits u ∙ ap (λ (t : Bool). t || (is_some first && eqb v u)) (s.bits u) ∙ one_more (λ u. any limit (r u)) v u (sym (some_passes limit (r v) first n));
  }

-- Rows below v of the room at base are made of the rooms at a and b; old is the work area as it was when it had been cleared.
pub record Combining (width : ℕ) (old new : List ℕ) (base a b size : ℕ) (way : Way) (v : ℕ) : Type 0 where
  pub places : Places width (length old) base a b size
  pub most : v ≤ size
  pub made : RoomMade width old new base (up_to v (combined (row_bits width) way (rows_at width old a) (rows_at width old b)))

module _ (width : ℕ) {old xs : List ℕ} {base a b size : ℕ} {way : Way} where
  pub combining_none : Places width (length old) base a b size → RoomMade width old xs base nothing → Combining width xs xs base a b size way 0
  combining_none p c = record { places = places_kept width c.others p; most = omega arith; made = made_none width c (up_to_none _) }

  module _ {v : ℕ} (n : Combining width old xs base a b size way v) where
    pub combining_more : {ys row : List ℕ} → v < size → Bits row (combined (row_bits width) way (rows_at width xs a) (rows_at width xs b) v)
        → RoomMade width xs ys base (changed v (in_row row) (rows_at width xs base)) → Combining width old ys base a b size way (v + 1)
    combining_more l m k =
        let same = operands_kept width n.made.others n.places in
        record { places = n.places; most = omega arith; made = row_more width _ _ _ n.made k (rw (same.0, same.1) at m.bits) }

    pub combining_all : {first : List ℕ} → size ≤ v → Places width (length first) base a b size → RoomMade width first old base nothing
        → RoomMade width first xs base (up_to size (combined (row_bits width) way (rows_at width first a) (rows_at width first b)))
    combining_all l p c =
        let same = operands_kept width c.others p in
        let e : v ≡ size = omega (arith, n.most) in
        rw (← same.0, ← same.1) (made_after width c (rw e at n.made))

-- a number from which s has no row leads nowhere, so it may be left out
empty_left : {size limit : ℕ} {s : Relation} (f : ℕ → Bool) → size ≤ limit → On limit s → (w : ℕ)
    → any limit (λ u. (f u && (ltb u size && any limit (s u))) && s u w) ≡ any size (λ u. f u && s u w)
empty_left {size} {limit} {s} f l on w =
    same _ _
    (any_out limit _ λ u i h.
    let some = ltb u size && any limit (s u) in
    let named = and_left (f u && some) _ h in
    any_in size (λ u. f u && s u w) u (ltb-true u size (and_left (ltb u size) _ (and_right (f u) _ named))) (and_in (and_left (f u) _ named) (and_right (f u && some) _ h)))
    (any_out size _ λ u i h.
    let here = and_right (f u) _ h in
    any_in limit _ u (omega arith) (and_in (and_in (and_left (f u) _ h) (and_in (lt-ltb u size i) (any_in limit (s u) w (on u w here).1 here))) here))

-- the two ways
module _ (width : ℕ) {xs ys : List ℕ} {base : ℕ} (size : ℕ) where
  pub mix_made : (limit : ℕ) (r s : Relation) (how : Mix) → RoomMade width xs ys base (up_to size (combined limit (Mixed how) r s))
      → RoomMade width xs ys base (up_to size (mixed_rows how r s))
  unfolding up_to combined mixed_rows
  mix_made limit r s how k = made_as width refl k λ v w. refl

  pub join_made : (a b : ℕ) {there : Row} → Places width (length xs) base a b size → Bits there.words (starting (row_bits width) size (rows_at width xs b))
      → RoomMade width xs ys base (up_to size (combined (row_bits width) (Joined there) (rows_at width xs a) (rows_at width xs b)))
      → RoomMade width xs ys base (up_to size (join size (rows_at width xs a) (rows_at width xs b)))
  unfolding up_to combined starting join
  join_made a b p t k = made_as width refl k λ v w. ap (λ (x : Bool). ltb v size && x)
      (any_cong (row_bits width) _ _ (λ u l. ap (λ (x : Bool). (rows_at width xs a v u && x) && rows_at width xs b u w) (t.bits u)) ∙ empty_left (rows_at width xs a v) p.few (room_on width xs b) w)
