-- A step of a program: what each operation asks of the rooms that it reads, and what it makes of them.
use Prim.Native.Nat.{ℕ, ◌+◌, ◌*◌, ◌≤◌, ◌<◌}
use mathlib.Core.Path.{◌≡◌, refl, sym, ap, ap₂, ◌∙◌}
use mathlib.Core.Bool.{Bool, true, ◌&&◌}
use mathlib.Core.List.{List, []}
use native.Mathlib.Nat.{zero-add}
use native.Mathlib.Omega.{arith}
use borrow.Author.Rules.{rules}
use borrow.Author.Tests.{lt-ltb}
use lib.Dec.{eqb, ltb}
use lib.ListN.{length, get_or-eq_default}
use Rattle.meaning.specs.declared.Element.{Element}
use Rattle.meaning.specs.declared.Operation.{Operation}
use Rattle.meaning.specs.declared.Operation.TheVariants.{Table, Itself, Text, Join, Union, Closure, Has, Diff, Both}
use Rattle.meaning.specs.Limits.{room_bytes}
use Rattle.meaning.specs.Inside.Diagonal.{diagonal}
use Rattle.meaning.specs.Relations.{Relation, nothing, at, join, unite, has, difference, intersection, closure}
use Rattle.meaning.specs.Documents.{is_text, text_test, view}
use Rattle.meaning.specs.Operations.{LegalOperation, rows}
use Rattle.meaning.proofs.Lists.{table_length, table_at}
use Rattle.meaning.proofs.Tests.{never}
use Rattle.meaning.proofs.Runs.{OnNodes, rows_nodes}
use Rattle.meaning.proofs.Theorems.{text_0_has_no_rows}
use Rattle.rows.specs.declared.Mix.TheVariants.{Either, Both as Shared, First}
use Rattle.rows.specs.Inside.Rows.{mixes, rows_at, mixed_rows}
use Rattle.rows.proofs.Cases.{by_order}
use Rattle.rows.proofs.Rows.{row_order}
use Rattle.rooms.specs.declared.room.Room.{Room}
use Rattle.rooms.specs.declared.relations.Test.{Test}
use Rattle.rooms.specs.declared.relations.Test.TheVariants.{Always, Text as Texts, Related}
use Rattle.rooms.specs.Inside.Rooms.{up_to, columns, passing, Places, Testable, RoomMade, Closable}
use Rattle.rooms.specs.Inside.Steps.{rooms_in, Makeable}
use Rattle.rooms.proofs.Changes.{up_to_all, columns_all}
use Rattle.rooms.proofs.Rooms.{made_as}
use Rattle.rooms.proofs.Elements.{size_is, node_there, there_node}

-- what the room of an earlier step holds
pub room_of : (width : ℕ) (xs : List ℕ) (s a : ℕ) → a < s → at (rooms_in width xs s) a ≡ rows_at width xs (room_bytes width * a)
unfolding rooms_in
room_of width xs s a l = table_at _ 0 s a nothing l ∙ ap (λ (i : ℕ). rows_at width xs (room_bytes width * i)) (zero-add a)

module _ {width : ℕ} {es : List Element} {xs : List ℕ} {s : ℕ} {o : Operation} (m : Makeable width es xs s o) where
  size : length es + 1 ≡ (view es).size
  size = size_is es

  rooms_nodes : (i : ℕ) → OnNodes (view es) (at (rooms_in width xs s) i)
  unfolding rooms_in
  rooms_nodes i v w h =
      by_order i s
      (λ l. let on = m.on i l v w (sym (ap (λ (r : Relation). r v w) (room_of width xs s i l)) ∙ h) in
      (node_there es v (omega (arith, on.0, size)), node_there es w (omega (arith, on.1, size))))
      (λ l. never (sym (ap (λ (r : Relation). r v w) (get_or-eq_default (rooms_in width xs s) nothing {n = i} (omega (arith, table_length (λ s. rows_at width xs (room_bytes width * s)) 0 s)))) ∙ h))

  within : (v w : ℕ) → rows (view es) (rooms_in width xs s) o v w ≡ true → (v < length es + 1) × (w < length es + 1)
  within v w h =
      let on = rows_nodes (view es) m.nodes.parents (rooms_in width xs s) o rooms_nodes v w h in
      (omega (arith, there_node es v on.0), omega (arith, there_node es w on.1))

  -- an operand's room: where it ends, and what it holds
  operand_before : {a x base : ℕ} → a < s → x ≡ room_bytes width * a → base ≡ room_bytes width * s → x + room_bytes width ≤ base
  operand_before {a} l e b = omega (arith, e, b, row_order (room_bytes width) a s l)

  operand_is : {a x : ℕ} → a < s → x ≡ room_bytes width * a → rows_at width xs x ≡ at (rooms_in width xs s) a
  operand_is {a} l e = ap (rows_at width xs) e ∙ sym (room_of width xs s a l)

  module _ {base : ℕ} (b : base ≡ room_bytes width * s) where
    pub room_inside : base + room_bytes width ≤ length xs
    room_inside = omega (arith, b, m.room)

    -- What each operation asks of its operands' rooms: one that reads two steps, and one that reads one.
    two_places : {a c x y : ℕ} → (a < s) × (c < s) → x ≡ room_bytes width * a → y ≡ room_bytes width * c → Places width (length xs) base x y (length es + 1)
    two_places l e f = record {
      sized = m.sized;
      room = room_inside;
      left = operand_before l.0 e b;
      right = operand_before l.1 f b;
      few = let w = m.sized in omega (arith, m.nodes.few);
    }

    abbrev AsksTwo : (ℕ → ℕ → Operation) → Type 0
    AsksTwo op = (a c x y : ℕ) → o ≡ op a c → x ≡ room_bytes width * a → y ≡ room_bytes width * c → Places width (length xs) base x y (length es + 1)

    asks_two : (op : ℕ → ℕ → Operation) → ((k a c : ℕ) → LegalOperation k s (op a c) → (a < s) × (c < s)) → AsksTwo op
    asks_two op l a c x y e = two_places (l m.k a c (rw e at m.legal))

    pub join_places : AsksTwo Join
    unfolding LegalOperation
    join_places = asks_two Join (λ k a c l. l)

    pub union_places : AsksTwo Union
    unfolding LegalOperation
    union_places = asks_two Union (λ k a c l. l)

    pub diff_places : AsksTwo Diff
    unfolding LegalOperation
    diff_places = asks_two Diff (λ k a c l. l)

    pub both_places : AsksTwo Both
    unfolding LegalOperation
    both_places = asks_two Both (λ k a c l. l)

    pub closure_places : (a x : ℕ) → o ≡ Closure a → x ≡ room_bytes width * a → Closable width xs base x (length es + 1)
    unfolding LegalOperation
    closure_places a x e f =
        let l : a < s = rw e at m.legal in
        record {
          places = two_places (l, l) f f;
          some = omega arith;
          on = λ v w h. let on = m.on a l v w (sym (ap (λ (y : ℕ). rows_at width xs y v w) f) ∙ h) in (omega (arith, on.0, size), omega (arith, on.1, size));
        }

    pub has_asks : (a : ℕ) (x : Room) → o ≡ Has a → x.base ≡ room_bytes width * a → Testable width base es (Related x)
    unfolding LegalOperation
    has_asks a x e f =
        let l : a < s = rw e at m.legal in
        let w = m.sized in
        record { sized = m.sized; before = λ y h. let same : x ≡ y = cc in rw same at (operand_before l f b); few = omega (arith, m.nodes.few) }

    -- What each operation makes is its step's rows.
    module _ (ys : List ℕ) where
      abbrev Right : Type 0
      Right = RoomMade width xs ys (room_bytes width * s) (rows (view es) (rooms_in width xs s) o)

      of_rows : (r : Relation) → ((v w : ℕ) → r v w ≡ rows (view es) (rooms_in width xs s) o v w) → RoomMade width xs ys base (up_to (length es + 1) r) → Right
      unfolding up_to
      of_rows r h k = made_as width b k λ v w. ap (λ (t : Bool). ltb v (length es + 1) && t) (h v w) ∙ up_to_all (length es + 1) _ (λ v w e. (within v w e).0) v w

      of_tests : (test : Test) → ((v w : ℕ) → eqb v w && passing width (view es) xs test v ≡ rows (view es) (rooms_in width xs s) o v w)
          → RoomMade width xs ys base (columns (length es + 1) (diagonal (passing width (view es) xs test))) → Right
      unfolding columns diagonal
      of_tests test h k = made_as width b k λ v w. ap (λ (t : Bool). ltb w (length es + 1) && t) (h v w) ∙ columns_all (length es + 1) _ (λ v w e. (within v w e).1) v w

      pub table_made : (mask : ℕ) → o ≡ Table mask → RoomMade width xs ys base (rows (view es) [] (Table mask)) → Right
      unfolding rows
      table_made mask e k = rw e (made_as width b k λ v w. refl)

      pub itself_made : o ≡ Itself → RoomMade width xs ys base (columns (length es + 1) (diagonal (passing width (view es) xs Always))) → Right
      unfolding rows passing
      itself_made e = of_tests Always (λ v w. rw e)

      pub text_none_made : (number : ℕ) → o ≡ Text number → number ≡ 0 → RoomMade width xs ys base nothing → Right
      text_none_made number e z k = rw (e, z) (made_as width b k λ v w. sym (text_0_has_no_rows (view es) (rooms_in width xs s) v w))

      pub text_made : (number : ℕ) → o ≡ Text number → (number ≡ 0 → ⊥) → RoomMade width xs ys base (columns (length es + 1) (diagonal (passing width (view es) xs (Texts number)))) → Right
      unfolding rows passing text_test is_text
      text_made number e some = of_tests (Texts number) (λ v w. rw (e, lt-ltb 0 number (omega arith)))

      pub has_made : (a : ℕ) (x : Room) → o ≡ Has a → x.base ≡ room_bytes width * a → RoomMade width xs ys base (columns (length es + 1) (diagonal (passing width (view es) xs (Related x)))) → Right
      unfolding rows passing has LegalOperation
      has_made a x e f = of_tests (Related x) (λ v w. rw (e, operand_is (rw e at m.legal) f))

      pub closure_made : (a x : ℕ) → o ≡ Closure a → x ≡ room_bytes width * a → RoomMade width xs ys base (closure (length es + 1) (rows_at width xs x)) → Right
      unfolding rows LegalOperation
      closure_made a x e f k = rw e (made_as width b k λ v w. ap₂ (λ (n : ℕ) (r : Relation). closure n r v w) size (operand_is (rw e at m.legal) f))

      abbrev OfTwo : (ℕ → ℕ → Operation) → (Relation → Relation → Relation) → Type 0
      OfTwo op f = (a c x y : ℕ) → o ≡ op a c → x ≡ room_bytes width * a → y ≡ room_bytes width * c → RoomMade width xs ys base (up_to (length es + 1) (f (rows_at width xs x) (rows_at width xs y))) → Right

      of_two : (op : ℕ → ℕ → Operation) (f : Relation → Relation → Relation) → ((k a c : ℕ) → LegalOperation k s (op a c) → (a < s) × (c < s))
          → ((a c v w : ℕ) → f (at (rooms_in width xs s) a) (at (rooms_in width xs s) c) v w ≡ rows (view es) (rooms_in width xs s) (op a c) v w) → OfTwo op f
      of_two op f l r a c x y e p q k =
          let legal : (a < s) × (c < s) = l m.k a c (rw e at m.legal) in
          of_rows (f (at (rooms_in width xs s) a) (at (rooms_in width xs s) c)) (λ v w. r a c v w ∙ rw e) (rw (operand_is legal.0 p, operand_is legal.1 q) at k)

      pub join_made : OfTwo Join (join (length es + 1))
      unfolding rows LegalOperation
      join_made = of_two Join (join (length es + 1)) (λ k a c l. l) λ a c v w. ap (λ (n : ℕ). join n (at (rooms_in width xs s) a) (at (rooms_in width xs s) c) v w) size

      pub union_made : OfTwo Union (mixed_rows Either)
      unfolding rows LegalOperation unite mixed_rows mixes
      union_made = of_two Union (mixed_rows Either) (λ k a c l. l) λ a c v w. refl

      pub diff_made : OfTwo Diff (mixed_rows First)
      unfolding rows LegalOperation difference mixed_rows mixes
      diff_made = of_two Diff (mixed_rows First) (λ k a c l. l) λ a c v w. refl

      pub both_made : OfTwo Both (mixed_rows Shared)
      unfolding rows LegalOperation intersection mixed_rows mixes
      both_made = of_two Both (mixed_rows Shared) (λ k a c l. l) λ a c v w. refl

pub ruleset laws = (
  join_places,
  union_places,
  diff_places,
  both_places,
  closure_places,
  has_asks,
  table_made,
  itself_made,
  has_made,
  closure_made,
  join_made,
  union_made,
  diff_made,
  both_made,
  rules,
)
