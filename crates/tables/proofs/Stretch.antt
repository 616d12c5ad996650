-- Reading the rows of one type in their stretch is reading them in the file, also where the file ends inside of it.
use Prim.Native.Nat.{ℕ, zero, suc, ◌+◌, ◌*◌, ◌-◌, ◌≤◌, ◌<◌, min}
use mathlib.Core.Path.{◌≡◌, refl, sym, ◌∙◌}
use mathlib.Core.Bool.{Bool, true, false}
use mathlib.Core.List.{List, [], ◌∷◌}
use native.Mathlib.Omega.{arith}
use native.Mathlib.Nat.{add-zero, add_assoc}
use lib.Dec.{ltb, leb}
use lib.ListN.{length, get_or, take, drop, length-take, length-drop}
use lib.Seq.{get_or-take, get_or-drop}
use borrow.Author.Tests.{lt-ltb, le-ltb, le-leb, lt-leb, ltb-true, ltb-false, leb-true, leb-false}
use Rattle.meaning.specs.declared.Reason.{Reason}
use Rattle.meaning.specs.declared.Reason.TheVariants.{Number}
use Rattle.meaning.specs.declared.Refusal.{Refusal}
use Rattle.fields.specs.Read.{Read, Reader, got, refused, bind, give, judge, judged, ◌>>=◌, byte, word}
use Rattle.fields.specs.Write.{Bytes}
use Rattle.fields.proofs.Formats.{got_same, bind_out, pick_out, judge_out}
use Rattle.edg.specs.declared.Row.{Row}
use Rattle.edg.specs.Edg.{row_fields, row_rule, row_read, rows_read}
use Rattle.edg.proofs.Rows.{takes_rows}

-- the same, in a file in which so many bytes stand before
shifted : {A : Type 0} → ℕ → Read A → Read A
shifted a (got x n) = got x (a + n)
shifted a (refused r) = refused r

-- what was read passed its test
pub judged_out : {A : Type 0} (m : Reader A) (test : A → Bool) (r : Reason) (s : List ℕ) (at : ℕ) {x : A} {n : ℕ} → judged m test r s at ≡ got x n
    → (m s at ≡ got x n) × (test x ≡ true)
unfolding judged
judged_out m test r s at h =
    let (y, k, p, q) = bind_out (m s at) _ h in
    let (_, l, v, w) = bind_out (judge at (test y) r s k) _ q in
    let (t, e) = judge_out at (test y) r s k v in
    let (same, next) = got_same w in
    (p ∙ simp (same, e, next), rw same at t)

module _ (s : List ℕ) (a e : ℕ) (from : a ≤ e) (to : e ≤ length s) where
  abbrev part : List ℕ
  part = take (e - a) (drop a s)

  part_long : length part ≡ e - a
  part_long = length-take (e - a) (drop a s) ∙ omega (arith, length-drop a s)

  part_byte : (i : ℕ) → i < e - a → get_or part i 0 ≡ get_or s (a + i) 0
  part_byte i h = get_or-take (e - a) (drop a s) i 0 h ∙ get_or-drop a s i 0

  -- m reads n bytes, and reads the same in the stretch as in the file where the stretch has as many of them as the file
  record Moves {A : Type 0} (m : Reader A) (n : ℕ) : Type 0 where
    size : {i k : ℕ} {x : A} → m part i ≡ got x k → k ≡ i + n
    moves : (i : ℕ) → min (a + i + n) (length s) ≤ e → m s (a + i) ≡ shifted a (m part i)

  moves_give : {A : Type 0} (x : A) → Moves (give x) 0
  unfolding shifted
  moves_give x = record { size = λ {i} h. let (_, same) = got_same h in omega arith; moves = λ i h. refl }

  moves_byte : Moves byte 1
  unfolding byte shifted
  moves_byte = record { size = λ {i} h. sym (got_same (pick_out (ltb i (length part)) _ _ h).1).1; moves = λ i h. go i h (ltb i (length part)) refl }
    where
      go : (i : ℕ) → min (a + i + 1) (length s) ≤ e → (b : Bool) → ltb i (length part) ≡ b → byte s (a + i) ≡ shifted a (byte part i)
      go i h true p = let l = ltb-true i _ p in let long = part_long in simp (p, lt-ltb (a + i) (length s) (omega arith), part_byte i (omega arith), ← (add_assoc a i 1))
      go i h false p = let l = ltb-false i _ p in let long = part_long in simp (p, le-ltb (a + i) (length s) (omega arith))

  moves_word : Moves word 2
  unfolding word shifted
  moves_word = record { size = λ {i} h. sym (got_same (pick_out (leb 2 (length part - i)) _ _ h).1).1; moves = λ i h. go i h (leb 2 (length part - i)) refl }
    where
      go : (i : ℕ) → min (a + i + 2) (length s) ≤ e → (b : Bool) → leb 2 (length part - i) ≡ b → word s (a + i) ≡ shifted a (word part i)
      go i h true p =
          let l = leb-true 2 (length part - i) p in
          let long = part_long in
          simp (p, le-leb 2 (length s - (a + i)) (omega arith), part_byte i (omega arith), part_byte (i + 1) (omega arith), ← (add_assoc a i 1), ← (add_assoc a i 2))
      go i h false p = let l = leb-false 2 (length part - i) p in let long = part_long in simp (p, lt-leb 2 (length s - (a + i)) (omega arith))

  module _ {A B : Type 0} {m : Reader A} {n : ℕ} (p : Moves m n) where
    moves_bind : (f : A → Reader B) {k : ℕ} → ((x : A) → Moves (f x) k) → Moves (m >>= f) (n + k)
    unfolding shifted
    moves_bind f {k} q = record {
      size = λ {i} h. let (x, j, u, v) = bind_out (m part i) _ h in omega (arith, p.size u, (q x).size v);
      moves = λ i h. rw (p.moves i (omega arith)) (go i h (m part i) refl);
    }
      where
        go : (i : ℕ) → min (a + i + (n + k)) (length s) ≤ e → (r : Read A) → m part i ≡ r → bind (shifted a r) (λ x at. f x s at) ≡ shifted a (bind r (λ x at. f x part at))
        go i h (got x j) u = (q x).moves j (omega (arith, p.size u))
        go i h (refused r) u = refl

  moves_judged : {A : Type 0} {m : Reader A} {n : ℕ} (test : A → Bool) (r : Reason) → Moves m n → Moves (judged m test r) n
  unfolding judged shifted
  moves_judged {A} {m} test r p = record {
    size = λ {i} h. p.size (judged_out m test r part i h).0;
    moves = λ i h. rw (p.moves i h) (go i (m part i));
  }
    where
      told : (b : Bool) (i k : ℕ) (x : A) → bind (judge (a + i) b r s (a + k)) (λ _ at. got x at) ≡ shifted a (bind (judge i b r part k) (λ _ at. got x at))
      told true i k x = refl
      told false i k x = refl

      go : (i : ℕ) (e : Read A) → bind (shifted a e) (λ x at. bind (judge (a + i) (test x) r s at) (λ _ at'. got x at'))
          ≡ shifted a (bind e (λ x at. bind (judge i (test x) r part at) (λ _ at'. got x at')))
      go i (got x k) = told (test x) i k x
      go i (refused q) = refl

  -- the stretch of n rows of type t
  module _ (limit t : ℕ) where
    rows_move : (n before : ℕ) → Moves (rows_read limit t before n) (n * 4)
    unfolding rows_read row_read row_fields
    rows_move zero before = moves_give []
    rows_move (suc n) before =
        let four : suc n * 4 ≡ 1 + (1 + (2 + 0)) + (n * 4 + 0) = omega arith in
        rw four
        (moves_bind (moves_judged (row_rule limit before) Number (moves_bind moves_byte _ λ from. moves_bind moves_byte _ λ to. moves_bind moves_word _ λ x. moves_give _)) _ λ r.
        moves_bind (rows_move n r.number) _ λ rs. moves_give (r ∷ rs))

    module _ (n : ℕ) (h : e ≡ min (a + n * 4) (length s)) where
      whole_stretch : rows_read limit t 0 n s a ≡ shifted a (rows_read limit t 0 n part 0)
      whole_stretch = rw (add-zero a) at ((rows_move n 0).moves 0 (omega (arith, h)))

      pub stretch_refused : {r : Refusal} → rows_read limit t 0 n part 0 ≡ refused r → rows_read limit t 0 n s a ≡ refused r
      unfolding shifted
      stretch_refused q = whole_stretch ∙ simp q

      pub stretch_got : {rs : List Row} {m : ℕ} → Bytes s → rows_read limit t 0 n part 0 ≡ got rs m → (rows_read limit t 0 n s a ≡ got rs e) × (length rs ≡ n)
      unfolding shifted
      stretch_got {rs} {m} bytes q =
          let there : rows_read limit t 0 n s a ≡ got rs (a + m) = whole_stretch ∙ simp q in
          let span = (takes_rows limit t 0 n).accepts bytes (omega arith) there in
          let end : a + m ≡ e = omega (arith, span.inside, (rows_move n 0).size q) in
          (rw end at there, span.holds.1.0)
