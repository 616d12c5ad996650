-- The steps of a program, made one after the other: what holds before each, and what the work area holds after the last.
use Prim.Native.Nat.{ℕ, ◌+◌, ◌*◌, ◌/◌, ◌%◌, ◌≤◌, ◌<◌}
use mathlib.Core.Path.{◌≡◌, refl, sym, ap, ap₂, ◌∙◌, fun_ext}
use mathlib.Core.Bool.{true}
use mathlib.Core.List.{List, [], ◌∷◌, ◌++◌}
use native.Mathlib.Nat.{zero-add, div-lt_iff_lt-mul, mul-pos}
use native.Mathlib.Numerals.{add-one}
use native.Mathlib.Omega.{arith}
use mir.Syntax.{w8}
use mir.Val.{Fits}
use lib.ListN.{length, get_or, take, length-map, length-take}
use lib.Seq.{take-suc, take_all, get_or-take, ext_get_or}
use Rattle.meaning.specs.declared.Element.{Element}
use Rattle.meaning.specs.declared.Operation.{Operation}
use Rattle.meaning.specs.declared.Operation.TheVariants.{Itself}
use Rattle.meaning.specs.declared.Program.{Program}
use Rattle.meaning.specs.declared.Step.{Step}
use Rattle.meaning.specs.Limits.{room_bytes}
use Rattle.meaning.specs.Lists.{table}
use Rattle.meaning.specs.Relations.{Relation, at}
use Rattle.meaning.specs.Documents.{View, view}
use Rattle.meaning.specs.Operations.{rows, results, run}
use Rattle.meaning.specs.Inside.Records.{operations_in}
use Rattle.meaning.proofs.Lists.{table_more, table_cong}
use Rattle.meaning.proofs.Records.{number_at, operation_at}
use Rattle.meaning.proofs.Results.{results_append}
use Rattle.meaning.proofs.Runs.{run_nodes}
use Rattle.rows.specs.Inside.Rows.{rows_at, OthersStay}
use Rattle.rows.proofs.Bytes.{kept_all, kept_wider, kept_inside}
use Rattle.rows.proofs.Cases.{by_order}
use Rattle.rows.proofs.Rows.{row_order}
use Rattle.rooms.specs.Layout.{room_byte, work_byte, overwritten}
use Rattle.rooms.specs.Inside.FitToRun.{Nodes, FitToRun}
use Rattle.rooms.specs.Inside.Rooms.{RowWidth, RoomMade}
use Rattle.rooms.specs.Inside.Steps.{rooms_in, Makeable}
use Rattle.rooms.proofs.Elements.{size_is, there_node}
use Rattle.rooms.proofs.Layouts.{byte_is, overwritten_front, overwritten_past, overwritten_length}
use Rattle.rooms.proofs.Rooms.{room_kept}
use Rattle.rooms.proofs.Steps.{room_of}

-- one operation more: its rows come last
run_more : (d : View) (os : List Operation) (o : Operation) → run d (os ++ (o ∷ [])) ≡ run d os ++ (rows d (run d os) o ∷ [])
unfolding run results
run_more d os o = results_append (rows d) [] os (o ∷ [])

-- the rows of every step join nodes
pub run_on : (es : List Element) → Nodes es → (os : List Operation) (s v w : ℕ) → at (run (view es) os) s v w ≡ true → (v < (view es).size) × (w < (view es).size)
run_on es n os s v w h =
    let e = run_nodes (view es) n.parents os s v w h in
    let size = size_is es in
    (omega (arith, there_node es v e.0), omega (arith, there_node es w e.1))

module _ (width : ℕ) where
  -- the rooms below one that is written stay
  rooms_kept : {xs ys : List ℕ} (s : ℕ) → OthersStay xs ys (room_bytes width * s) (room_bytes width) → room_bytes width * s ≤ length xs → rooms_in width ys s ≡ rooms_in width xs s
  unfolding rooms_in
  rooms_kept s k l = table_cong _ _ 0 s λ i h. room_kept width (room_bytes width * i) k l (row_order (room_bytes width) i s (omega arith))

  rooms_last : (xs : List ℕ) (s : ℕ) → rooms_in width xs (s + 1) ≡ rooms_in width xs s ++ (rows_at width xs (room_bytes width * s) ∷ [])
  unfolding rooms_in
  rooms_last xs s =
      ap (table (λ i. rows_at width xs (room_bytes width * i)) 0) (add-one s) ∙ table_more _ 0 s
      ∙ ap (λ (i : ℕ). table (λ i. rows_at width xs (room_bytes width * i)) 0 s ++ (rows_at width xs (room_bytes width * i) ∷ [])) (zero-add s)

-- the steps below s are made
pub record Performed (width : ℕ) (es : List Element) (p : Program) (old new : List ℕ) (s : ℕ) : Type 0 where
  pub most : s ≤ p.count
  pub rooms : rooms_in width new s ≡ run (view es) (take s (operations_in p))
  pub others : OthersStay old new 0 (room_bytes width * s)
  pub bytes : (i : ℕ) → Fits w8 (get_or new i 0)

-- the steps that a program counts are all there
steps_taken : {es : List Element} {p : Program} → FitToRun es p → length (take p.count p.steps) ≡ p.count
unfolding operations_in
steps_taken {p = p} r = sym (length-map (take p.count p.steps) (λ (y : Step). y.operation)) ∙ r.whole

module _ {width : ℕ} {es : List Element} {p : Program} where
  pub performed_none : {xs : List ℕ} → ((i : ℕ) → Fits w8 (get_or xs i 0)) → Performed width es p xs xs 0
  unfolding rooms_in table run results
  performed_none f = record { most = omega arith; rooms = refl; others = kept_all; bytes = f }

  -- Step s is to be made.
  module _ {old xs : List ℕ} {s : ℕ} (x : Step) (sized : RowWidth width) (r : FitToRun es p) (n : Performed width es p old xs s) (l : s < length (take p.count p.steps))
      (fits : room_bytes width * p.count ≤ length old) where
    abbrev step : Step
    step = get_or (take p.count p.steps) s x

    held : p.count ≤ length p.steps
    held = omega (arith, steps_taken r, length-take p.count p.steps)

    below : s < p.count
    below = omega (arith, steps_taken r)

    step_is : step ≡ get_or p.steps s x
    step_is = get_or-take p.count p.steps s x below

    operation_is : get_or (operations_in p) s Itself ≡ step.operation
    operation_is = operation_at p s x below held ∙ sym (ap (λ (y : Step). y.operation) step_is)

    number_is : step.number ≡ s
    number_is = ap (λ (y : Step). y.number) step_is ∙ number_at p s x r.numbered below held

    room : room_bytes width * s + room_bytes width ≤ length xs
    room = omega (arith, n.others.same, row_order (room_bytes width) s p.count below)

    makeable_here : Makeable width es xs s step.operation
    makeable_here = record {
      sized = sized;
      nodes = r.nodes;
      k = r.k;
      legal = rw operation_is at (r.legal.operations s (omega (arith, r.whole, below)));
      few = omega (arith, r.whole, below, r.legal.most_steps);
      room = room;
      on = λ i m v w h. run_on es r.nodes (take s (operations_in p)) i v w
          (ap (λ (rs : List Relation). at rs i v w) (sym n.rooms) ∙ ap (λ (q : Relation). q v w) (room_of width xs s i m) ∙ h);
    }

    -- its number is its place
    pub makeable : Makeable width es xs step.number step.operation
    makeable = rw number_is makeable_here

    abbrev MadeAt : List ℕ → ℕ → Type 0
    MadeAt ys number = RoomMade width xs ys (room_bytes width * number) (rows (view es) (rooms_in width xs number) step.operation)

    performed_here : {ys : List ℕ} → MadeAt ys s → ((i : ℕ) → Fits w8 (get_or ys i 0)) → Performed width es p old ys (s + 1)
    performed_here {ys} m f = record {
      most = omega (arith, below);
      rooms = rooms_more;
      others = kept_inside (omega arith) (omega arith) (kept_wider (omega arith) n.others) m.others;
      bytes = f;
    }
      where
        rooms_more : rooms_in width ys (s + 1) ≡ run (view es) (take (s + 1) (operations_in p))
        rooms_more =
            let o : Operation = step.operation in
            let made : rows_at width ys (room_bytes width * s) ≡ rows (view es) (rooms_in width xs s) o = fun_ext λ v. fun_ext λ w. m.rows v w in
            let next : take (s + 1) (operations_in p) ≡ take s (operations_in p) ++ (o ∷ []) = rw (add-one s, take-suc (operations_in p) s Itself (omega (arith, r.whole, below)), operation_is) in
            rooms_last width ys s ∙ ap₂ (λ (rs : List Relation) (q : Relation). rs ++ (q ∷ [])) (rooms_kept width s m.others (omega (arith, room))) made
            ∙ ap (λ (rs : List Relation). rs ++ (rows (view es) rs o ∷ [])) n.rooms
            ∙ sym (ap (run (view es)) next ∙ run_more (view es) (take s (operations_in p)) o)

    pub performed_more : {ys : List ℕ} → MadeAt ys step.number → ((i : ℕ) → Fits w8 (get_or ys i 0)) → Performed width es p old ys (s + 1)
    performed_more {ys} made f = performed_here (rw number_is at made) f

  -- after the last step, every byte is as the layout says
  pub performed_all : {old new : List ℕ} {s : ℕ} → RowWidth width → FitToRun es p → Performed width es p old new s → length (take p.count p.steps) ≤ s → room_bytes width * p.count ≤ length old
      → new ≡ overwritten (work_byte width (view es) (operations_in p)) (room_bytes width * p.count) old
  unfolding work_byte
  performed_all {old} {new} {s} sized r n l fits =
      ext_get_or 0 new (overwritten f size old) (n.others.same ∙ sym (overwritten_length f size old fits)) λ i m.
      by_order i size
      (λ h. byte_is width some new i (n.bytes i).fits ∙ ap (λ (q : Relation). room_byte width q (i % room_bytes width)) (room_is (i / room_bytes width) ((div-lt_iff_lt-mul (mul-pos some (omega arith))).1 (omega arith)))
      ∙ sym (overwritten_front f size old i h))
      (λ h. n.others.after i (rw (same, zero-add) h) ∙ sym (overwritten_past f size old i h))
    where
      f : ℕ → ℕ
      f = work_byte width (view es) (operations_in p)

      size : ℕ
      size = room_bytes width * p.count

      some : 0 < width
      some = omega arith

      same : s ≡ p.count
      same = omega (arith, steps_taken r, n.most)

      all : take s (operations_in p) ≡ operations_in p
      all = take_all s (operations_in p) (omega (arith, r.whole, same))

      room_is : (i : ℕ) → i < p.count → rows_at width new (room_bytes width * i) ≡ at (run (view es) (operations_in p)) i
      room_is i h = sym (room_of width new s i (omega (arith, same))) ∙ ap (λ (rs : List Relation). at rs i) n.rooms ∙ ap (λ (os : List Operation). at (run (view es) os) i) all
