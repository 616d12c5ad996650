-- The laws of the descent: what is due at each call, and what is done when the calls have returned.
use Prim.Native.Nat.{ℕ, ◌+◌, ◌-◌, ◌^◌, ◌≤◌, ◌<◌}
use mathlib.Core.Path.{◌≡◌, refl, sym, ap, ap₂, ◌∙◌}
use mathlib.Core.List.{List, [], ◌∷◌, ◌++◌, append_assoc}
use native.Mathlib.Omega.{arith}
use lib.ListN.{length, get_or, drop, length-append, length-drop}
use lib.Seq.{get_or-drop, drop-drop, drop-append_seam}
use mir.Syntax.{w8}
use mir.Val.{Fits}
use Rattle.meaning.specs.declared.Graph.{Graph}
use Rattle.meaning.specs.Limits.{kinds}
use Rattle.meaning.proofs.Runs.{longer_length}
use Rattle.meaning.proofs.Counts.{path_length, path_longer, qualifier_length, qualifier_longer}
use Rattle.steps.specs.declared.Place.{Place}
use Rattle.steps.specs.declared.Operator.{Operator}
use Rattle.steps.specs.Inside.Writes.{applied, onto, Goes, StepsFit, Behind}
use Rattle.steps.proofs.Laws.{onto_goes, after_goes, goes_as, room_less}
use Rattle.descent.specs.declared.rows.Leaf.{Leaf}
use Rattle.descent.specs.declared.rows.Ending.{Ending}
use Rattle.descent.specs.declared.rows.Second.{Second}
use Rattle.descent.specs.declared.rows.Row.{Row}
use Rattle.descent.specs.Inside.Rows.{row_of, LeafDue, Leads, ending_count, Finishes, between_steps, second_kinds, Between, Begins, led, Ended, Combines}
use Rattle.descent.specs.Inside.Dues.{Part, path, qualifier, bytes_of, adds, weight, kinds_behind, Due, Done}
use Rattle.descent.proofs.KindMasks.{out_small, or_reachable_small}
use Rattle.descent.proofs.Facts.{Fact, part_coded}

-- the place behind the code
abbrev ahead : Place → Place
ahead from = record { kinds = from.kinds; at = from.at + 1; steps = from.steps }

-- past what stands at a place stands what follows
past : (s : List ℕ) (at : ℕ) (a : List ℕ) {b : List ℕ} → drop at s ≡ a ++ b → drop (at + length a) s ≡ b
past s at a {b} e = sym (drop-drop (length a) at s) ∙ ap (drop (length a)) e ∙ drop-append_seam a b

some_weight : (g : Graph) (p : Part g.k) → 1 ≤ weight p
some_weight g (path p h) = omega (arith, path_length g 0 p [], longer_length (path_longer g 0 p []))
some_weight g (qualifier q h) = omega (arith, qualifier_length g 0 q [], longer_length (qualifier_longer g 0 q []))

part_small : (g : Graph) (C : ℕ) → C < 2 ^ kinds → (p : Part g.k) → kinds_behind g C p < 2 ^ kinds
part_small g C l (path p h) = out_small g C l p
part_small g C l (qualifier q h) = l

under_small : (second : Second) (g : Graph) (C K : ℕ) → C < 2 ^ kinds → K < 2 ^ kinds → second_kinds second g C K < 2 ^ kinds
under_small Second.After g C K c k = k
under_small Second.Beside g C K c k = c
under_small Second.Deeper g C K c k = or_reachable_small g K

-- Where a part is due its code stands, and what follows that is as the row says.
record Found (row : Row) (g : Graph) (s : List ℕ) (at : ℕ) (p : Part g.k) (rest : List ℕ) : Type 0 where
  more : List ℕ
  behind : drop (at + 1) s ≡ more ++ rest
  long : length (bytes_of p) ≡ 1 + length more
  inside : at + 1 + length more ≤ length s
  fact : Fact row g p more

found : {g : Graph} {s : List ℕ} {n : ℕ} {from : Place} {row : Row} (d : Due g s n from) → row ≡ row_of (get_or s from.at 0) → Found row g s from.at d.part d.rest
found {g} {s} {from = from} d r =
    let at = from.at in
    let K = part_coded g d.part in
    let there : drop at s ≡ K.code ∷ (K.more ++ d.rest) = d.stands ∙ ap (λ l. l ++ d.rest) K.bytes in
    let code : get_or s at 0 ≡ K.code = ap (λ i. get_or s i 0) (omega arith) ∙ sym (get_or-drop at s 0 0) ∙ ap (λ l. get_or l 0 0) there in
    record {
      more = K.more;
      behind = past s at (K.code ∷ []) there;
      long = ap length K.bytes ∙ omega arith;
      inside = omega (arith, ap length there, length-drop at s, length-append K.more d.rest);
      fact = rw (r ∙ ap row_of code) K.fact;
    }

module _ {g : Graph} {s : List ℕ} {n : ℕ} {from : Place} (d : Due g s n from) where
  pub due_inside : from.at < length s
  due_inside = omega (arith, (found d refl).inside)

  pub due_fits : Fits w8 (from.at + 1)
  due_fits = record { fits = omega (arith, due_inside, d.short) }

  pub first_falls : {t : ℕ} → length s - from.at ≡ t → length s - (from.at + 1) < t
  first_falls e = omega (arith, due_inside)

-- A part that stands where another was due before is due there too.
abbrev due_part : {g : Graph} {s : List ℕ} {room n : ℕ} {from : Place} → Due g s room from → (to : Place) (p : Part g.k) (rest : List ℕ)
    → drop to.at s ≡ bytes_of p ++ rest → to.kinds < 2 ^ kinds → StepsFit (weight p) n to.steps → Due g s n to
due_part d to p rest S k r = record { graph = d.graph; short = d.short; kinds = k; part = p; rest = rest; stands = S; enough = r }

-- No part.
module _ {g : Graph} {s : List ℕ} {from : Place} (leaf : Leaf) (r : Row.Leaf leaf ≡ row_of (get_or s from.at 0)) where
  alone : {n : ℕ} (d : Due g s n from) → Found (Row.Leaf leaf) g s from.at d.part d.rest
  alone d = found d r

  pub leaf_stands : {n : ℕ} → Due g s n from → LeafDue leaf g s n (ahead from)
  leaf_stands d =
      let F = alone d in
      record {
        graph = d.graph;
        short = d.short;
        here = omega (arith, F.inside);
        inside = omega (arith, F.inside, F.fact.ends (from.at + 1));
        type = rw F.behind (F.fact.type d.rest);
        enough = room_less d.enough (omega (arith, F.fact.counts)) refl;
      }

  pub leaf_done : {old new : List ℕ} {to : Place} → Leads leaf g s old new (ahead from) to → Done g s old new from to
  leaf_done p = record {
    done = λ d.
        let F = alone d in
        let A = F.fact in
        let q = rw F.behind at p in
        goes_as (sym (A.made from.kinds d.rest)) (sym A.counts) (sym (A.leads from.kinds d.rest)) (A.ends (from.at + 1) ∙ omega (arith, F.long)) q;
  }

-- One part.
module _ {g : Graph} {s : List ℕ} {from : Place} (ending : Ending) (r : Row.One ending ≡ row_of (get_or s from.at 0)) where
  single : {n : ℕ} (d : Due g s n from) → Found (Row.One ending) g s from.at d.part d.rest
  single d = found d r

  pub one_due : {n : ℕ} → Due g s n from → Due g s n (ahead from)
  one_due d =
      let F = single d in
      let A = F.fact in
      due_part d (ahead from) A.inner d.rest (F.behind ∙ ap (λ l. l ++ d.rest) A.bytes) d.kinds (room_less d.enough (omega (arith, A.counts)) refl)

  module _ {old x : List ℕ} {inner : Place} (L : Done g s old x (ahead from) inner) where
    inner_goes : (d : Due g s (length old) from) → let A = (single d).fact in
        Goes (adds g from.kinds A.inner) (weight A.inner) (kinds_behind g from.kinds A.inner) (from.at + 1 + length (bytes_of A.inner)) old x from.steps inner
    unfolding one_due
    inner_goes d = L.done (one_due d)

    pub one_behind : {n : ℕ} → Due g s (length old) from → n ≡ length x → Behind (ending_count ending) n inner inner
    one_behind d h =
        let A = (single d).fact in
        let G = inner_goes d in
        record {
          some = omega (arith, G.steps, some_weight g A.inner);
          later = omega arith;
          enough = room_less d.enough (omega (arith, G.steps, A.counts)) (h ∙ G.same);
        }

    pub one_done : {new : List ℕ} {to : Place} → Finishes ending from.kinds x new inner to → Done g s old new from to
    one_done p = record {
      done = λ d.
          let F = single d in
          let A = F.fact in
          let G = inner_goes d in
          goes_as (sym (A.made from.kinds)) (sym A.counts) (sym (A.leads from.kinds)) (G.at ∙ omega (arith, F.long, ap length A.bytes)) (after_goes G p);
    }

-- Two parts.
module _ {g : Graph} {s : List ℕ} {from : Place} (second : Second) (operator : Operator) (r : Row.Two second operator ≡ row_of (get_or s from.at 0)) where
  pair : {n : ℕ} (d : Due g s n from) → Found (Row.Two second operator) g s from.at d.part d.rest
  pair d = found d r

  pub two_due : {n : ℕ} → Due g s n from → Due g s n (ahead from)
  two_due d =
      let F = pair d in
      let A = F.fact in
      let right = bytes_of A.right in
      due_part d (ahead from) A.left (right ++ d.rest)
      (F.behind ∙ ap (λ l. l ++ d.rest) A.bytes ∙ append_assoc (bytes_of A.left) right d.rest) d.kinds (room_less d.enough (omega (arith, A.counts)) refl)

  module _ {old x : List ℕ} {left : Place} (L : Done g s old x (ahead from) left) where
    left_goes : (d : Due g s (length old) from) → let A = (pair d).fact in
        Goes (adds g from.kinds A.left) (weight A.left) (kinds_behind g from.kinds A.left) (from.at + 1 + length (bytes_of A.left)) old x
        from.steps left
    unfolding two_due
    left_goes d = L.done (two_due d)

    left_small : Due g s (length old) from → left.kinds < 2 ^ kinds
    left_small d =
        let A = (pair d).fact in
        rw (left_goes d).kinds (part_small g from.kinds d.kinds A.left)

    left_some : Due g s (length old) from → 1 ≤ left.steps
    left_some d = let A = (pair d).fact in omega (arith, (left_goes d).steps, some_weight g A.left)

    pub two_between : {n : ℕ} → Due g s (length old) from → n ≡ length x → Between second g n left
    two_between d h =
        let A = (pair d).fact in
        let G = left_goes d in
        record {
          graph = d.graph;
          kinds = left_small d;
          behind = record { some = left_some d; later = omega arith; enough = room_less d.enough (omega (arith, G.steps, A.counts)) (h ∙ G.same) };
        }

    module _ {y : List ℕ} {begun : Place} (B : Begins second g from.kinds x y left begun) where
      right_due : {n : ℕ} → Due g s (length old) from → n ≡ length y → Due g s n begun
      unfolding two_due
      right_due d h =
          let A = (pair d).fact in
          let G = left_goes d in
          due_part d begun A.right d.rest
          (ap (λ i. drop i s) (B.at ∙ G.at) ∙ past s (from.at + 1) (bytes_of A.left) (two_due d).stands)
          (rw B.kinds (under_small second g from.kinds left.kinds d.kinds (left_small d)))
          (room_less d.enough (omega (arith, G.steps, B.steps, A.counts)) (h ∙ B.same ∙ G.same))

      pub two_second : {n t : ℕ} → Due g s (length old) from → length s - from.at ≡ t → n ≡ length y → (length s - begun.at < t) × Due g s n begun
      two_second d i h = (omega (arith, due_inside d, B.at, (left_goes d).at), right_due d h)

      module _ {z : List ℕ} {right : Place} (R : Done g s y z begun right) where
        right_goes : (d : Due g s (length old) from) → let A = (pair d).fact in
            Goes (adds g begun.kinds A.right) (weight A.right) (kinds_behind g begun.kinds A.right) (begun.at + length (bytes_of A.right)) y z
            begun.steps right
        unfolding right_due
        right_goes d = R.done (right_due d refl)

        pub two_ended : {n : ℕ} → Due g s (length old) from → n ≡ length z → Ended left.kinds n begun right
        two_ended d h =
            let A = (pair d).fact in
            let G = left_goes d in
            let H = right_goes d in
            record {
              first = left_small d;
              second = rw H.kinds (part_small g begun.kinds (right_due d refl).kinds A.right);
              behind = record {
                some = omega (arith, left_some d, B.steps);
                later = omega (arith, H.steps);
                enough = room_less d.enough (omega (arith, G.steps, B.steps, H.steps, A.counts)) (h ∙ H.same ∙ B.same ∙ G.same);
              };
            }

        pub two_done : {new : List ℕ} {to : Place} → Combines second operator left.kinds z new begun right to → Done g s old new from to
        two_done p = record {
          done = λ d.
              let F = pair d in
              let A = F.fact in
              let C = from.kinds in
              let G = left_goes d in
              let H = right_goes d in
              let U : begun.kinds ≡ second_kinds second g C (kinds_behind g C A.left) = B.kinds ∙ ap (second_kinds second g C) G.kinds in
              goes_as
              (ap₂ (λ K L os. onto (applied operator) (adds g L A.right) (between_steps second g K (adds g C A.left os))) G.kinds U ∙ sym (A.made C))
              (omega (arith, A.counts))
              (ap₂ (led second) G.kinds (H.kinds ∙ ap (λ L. kinds_behind g L A.right) U) ∙ sym (A.leads C))
              (omega (arith, H.at, B.at, G.at, F.long, ap length A.bytes, length-append (bytes_of A.left) (bytes_of A.right)))
              (after_goes (after_goes G B) (onto_goes H (applied operator) p));
        }
