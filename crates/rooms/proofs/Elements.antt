-- The rooms that are made of elements: a number that is tested, and the turns of the two loops that put numbers in.
use Rattle.std.proofs.Common.{Option, MatchOption}
use Prim.Native.Nat.{ℕ, zero, suc, ◌+◌, ◌-◌, ◌≤◌, ◌<◌}
use mathlib.Core.Path.{◌≡◌, refl, sym, ap, ap₂, ◌∙◌}
use mathlib.Core.Bool.{Bool, true, false, ◌&&◌, and-false, and_comm}
use mathlib.Core.List.{List, []}
use native.Mathlib.Numerals.{add-one}
use native.Mathlib.Omega.{arith}
use borrow.Author.Tests.{ne_eqb, lt-ltb, le-leb, leb-true}
use lib.Dec.{eqb, leb, ltb}
use lib.ListN.{length, get_or}
use Rattle.std.proofs.lemmas.List.{get_or_default}
use Rattle.meaning.specs.declared.Element.{Element}
use Rattle.meaning.specs.declared.Operation.TheVariants.{Table}
use Rattle.meaning.specs.Limits.{types, row_bits, room_bytes}
use Rattle.meaning.specs.Sets.{any, bit}
use Rattle.meaning.specs.Inside.Diagonal.{diagonal}
use Rattle.meaning.specs.Relations.{Relation, nothing}
use Rattle.meaning.specs.Documents.{View, is_element, is_parent, document_node, view, node}
use Rattle.meaning.specs.Operations.{rows}
use Rattle.meaning.proofs.Tests.{and_in, and_left}
use Rattle.meaning.proofs.Views.{element_there, parent_element}
use Rattle.rows.specs.Inside.Rows.{rows_at, OthersStay, NextIs}
use Rattle.rows.proofs.Cases.{by_equal}
use Rattle.rows.proofs.Searches.{some_upto}
use Rattle.rooms.specs.declared.room.Room.{Room}
use Rattle.rooms.specs.declared.relations.Test.{Test}
use Rattle.rooms.specs.declared.relations.Test.TheVariants.{Always, Text, Related}
use Rattle.rooms.specs.Inside.Rooms.{columns, added, passing, Testable, RoomMade}
use Rattle.rooms.specs.Inside.FitToRun.{Nodes}
use Rattle.rooms.proofs.Changes.{columns_none, columns_all}
use Rattle.rooms.proofs.Rooms.{room_kept, made_as, made_none, made_after, column_more}

module _ (es : List Element) where
  -- how many nodes there are, as the code counts them
  pub size_is : length es + 1 ≡ (view es).size
  unfolding view
  size_is = add-one (length es)

  pub node_there : (w : ℕ) → w ≤ length es → (view es).there w ≡ true
  unfolding view
  node_there w l = le-leb w _ l

  pub there_node : (w : ℕ) → (view es).there w ≡ true → w ≤ length es
  unfolding view
  there_node w h = leb-true w _ h

  is_element_lem : (w : ℕ) → w ≤ length es → 0 < w → is_element (view es) w ≡ true
  unfolding is_element
  is_element_lem w l some = and_in (node_there w l) (lt-ltb 0 w some)

  not_element : is_element (view es) 0 ≡ false
  unfolding is_element
  not_element = and-false ((view es).there 0)

  -- an element by its place, as the code reads it
  element_is : (w : ℕ) (d : Element) → 0 < w → w ≤ length es → node es w ≡ get_or es (w - 1) d
  unfolding node
  element_is zero d some l = absurd (omega arith)
  element_is (suc i) d some l = let e : suc i - 1 ≡ i = omega arith in rw e (get_or_default es i document_node d (omega arith))

-- the element after those at i places
pub element_next : (es : List Element) (i : ℕ) (d : Element) → i < length es → node es (i + 1) ≡ get_or es i d
unfolding node
element_next es i d l = rw (add-one i) (get_or_default es i document_node d l)

-- A number passes a test.
module _ (width : ℕ) (es : List Element) (xs : List ℕ) where
  pub pass_always : {v : ℕ} → v ≤ length es → true ≡ passing width (view es) xs Always v
  unfolding passing
  pass_always {v} l = sym (node_there es v l)

  pub pass_text : (number v : ℕ) (d : Element) → v ≤ length es → 0 < v → eqb (get_or es (v - 1) d).text number ≡ passing width (view es) xs (Text number) v
  unfolding passing view
  pass_text number v d l some = sym (ap₂ (λ (b : Bool) (e : Element). b && eqb e.text number) (is_element_lem es v l some) (element_is es v d some l))

  pub pass_root : (number : ℕ) {v : ℕ} → v ≡ 0 → false ≡ passing width (view es) xs (Text number) v
  unfolding passing
  pass_root number z = rw z (sym (ap (λ (b : Bool). b && eqb ((view es).text 0) number) (not_element es)))

  pub pass_related : (a : Room) (v : ℕ) (first : Option ℕ) {there : Bool} {Q : ℕ → Type 0} → length es < row_bits width → NextIs (row_bits width) (rows_at width xs a.base v) 0 first
      → MatchOption first (there ≡ false) Q → ((w : ℕ) → Q w → there ≡ leb w (length es)) → there ≡ passing width (view es) xs (Related a) v
  unfolding passing
  pass_related a v first l n is up = some_upto (row_bits width) (length es) _ first l n is up ∙ ap (λ (m : ℕ). any m (rows_at width xs a.base v)) (size_is es)

-- The numbers below v that pass are put in; old is the work area as it was when the room had been cleared.
pub record Testing (width : ℕ) (old new : List ℕ) (base : ℕ) (es : List Element) (test : Test) (v : ℕ) : Type 0 where
  pub room : base + room_bytes width ≤ length old
  pub asked : Testable width base es test
  pub most : v ≤ length es + 1
  pub made : RoomMade width old new base (columns v (diagonal (passing width (view es) old test)))

-- a test comes to the same while the room is made
passing_kept : (width : ℕ) (d : View) (test : Test) {old xs : List ℕ} {base : ℕ} → OthersStay old xs base (room_bytes width) → base + room_bytes width ≤ length old
    → ((a : Room) → test ≡ Related a → a.base + room_bytes width ≤ base) → (v : ℕ) → passing width d xs test v ≡ passing width d old test v
unfolding passing
passing_kept width d Always k r b v = refl
passing_kept width d (Text number) k r b v = refl
passing_kept width d (Related a) k r b v = ap (λ (x : Relation). any d.size (x v)) (room_kept width a.base k (omega arith) (b a refl))

module _ (width : ℕ) {old xs : List ℕ} {base : ℕ} {es : List Element} {test : Test} where
  pub testing_none : base + room_bytes width ≤ length old → Testable width base es test → RoomMade width old xs base nothing → Testing width xs xs base es test 0
  testing_none r t c = record { room = omega (arith, c.others.same); asked = t; most = omega arith; made = made_none width c (columns_none 0 _ λ v w l. absurd (omega arith)) }

  module _ {v : ℕ} (n : Testing width old xs base es test v) where
    pub testing_more : {ys : List ℕ} {there : Bool} → v ≤ length es → there ≡ passing width (view es) xs test v → RoomMade width xs ys base (added v v there (rows_at width xs base))
        → Testing width old ys base es test (v + 1)
    unfolding diagonal
    testing_more {there = there} l e k = record {
      room = n.room;
      asked = n.asked;
      most = omega arith;
      made = column_more width _ v v there n.made k λ u. by_equal u v
          (λ h. rw (h, ← (e ∙ passing_kept width _ test n.made.others n.room n.asked.before v)) (and_comm (eqb v v) there))
          (λ h. ap₂ ◌&&◌ (ne_eqb u v h) refl ∙ sym (ap (λ (b : Bool). there && b) (ne_eqb v u (λ q. h (sym q))) ∙ and-false there));
    }

    pub testing_all : {first : List ℕ} → length es < v → base + room_bytes width ≤ length first → RoomMade width first old base nothing
        → RoomMade width first xs base (columns (length es + 1) (diagonal (passing width (view es) first test)))
    unfolding columns diagonal
    testing_all l r c =
        let e : v ≡ length es + 1 = omega (arith, n.most) in
        made_as width refl (made_after width c (rw e at n.made)) λ u w.
        ap (λ (b : Bool). ltb w (length es + 1) && (eqb u w && b)) (passing_kept width _ test c.others r n.asked.before u)

-- The elements below w are put into the rows of their parents.
pub record Tabling (width : ℕ) (old new : List ℕ) (base : ℕ) (es : List Element) (mask w : ℕ) : Type 0 where
  pub room : base + room_bytes width ≤ length old
  pub some : 1 ≤ w
  pub made : RoomMade width old new base (columns w (rows (view es) [] (Table mask)))

module _ (width : ℕ) {old xs : List ℕ} {base : ℕ} {es : List Element} {mask : ℕ} where
  pub tabling_none : base + room_bytes width ≤ length old → RoomMade width old xs base nothing → Tabling width xs xs base es mask 1
  unfolding rows is_parent
  tabling_none r c = record {
    room = omega (arith, c.others.same);
    some = omega arith;
    made = made_none width c (columns_none 1 _ λ v w l.
        let e : w ≡ 0 = omega arith in
        rw e (ap (λ (t : Bool). (t && eqb ((view es).parent 0) v) && bit mask ((view es).kind 0)) (not_element es)));
  }

  module _ {w : ℕ} (n : Tabling width old xs base es mask w) where
    pub tabling_more : {ys : List ℕ} {p : ℕ} {there : Bool} (e : Element) → w ≤ length es → node es w ≡ e → p ≡ e.parent → there ≡ bit mask e.kind → RoomMade width xs ys base (added p w there (rows_at width xs base))
        → Tabling width old ys base es mask (w + 1)
    unfolding rows is_parent view
    tabling_more {p = p} {there} e l same h t k = record {
      room = n.room;
      some = omega arith;
      made = column_more width _ p w there n.made k λ v.
          rw (h, t) (ap₂ (λ (b : Bool) (x : Element). (b && eqb x.parent v) && bit mask x.kind) (is_element_lem es w l n.some) same ∙ and_comm (eqb e.parent v) (bit mask e.kind));
    }

    pub tabling_all : {first : List ℕ} → length es < w → RoomMade width first old base nothing → RoomMade width first xs base (rows (view es) [] (Table mask))
    unfolding rows
    tabling_all l c =
        made_as width refl (made_after width c n.made) (columns_all w _ λ v x h.
        omega (arith, there_node es x (element_there (view es) x (parent_element (view es) v x (and_left (is_parent (view es) v x) _ h)))))

-- an element's kind, and its parent, where nodes are few
module _ {es : List Element} (n : Nodes es) (w : ℕ) (some : 0 < w) (l : w ≤ length es) {e : Element} (same : node es w ≡ e) where
  pub child_kind_lem : e.kind < types
  unfolding view
  child_kind_lem = omega (arith, ap (λ (x : Element). x.kind) same, n.kinds w (is_element_lem es w l some))

  pub child_parent : e.parent ≤ length es
  unfolding view
  child_parent = omega (arith, ap (λ (x : Element). x.parent) same, there_node es _ (n.parents w (is_element_lem es w l some)))
