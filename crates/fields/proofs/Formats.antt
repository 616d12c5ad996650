-- The two laws of a file, as an algebra over readers: what is written reads back, and what is read is what would be written.
use Prim.Native.Nat.{ℕ, ◌+◌, ◌*◌, ◌-◌, ◌/◌, ◌%◌, ◌≤◌, ◌<◌}
use mathlib.Core.Bool.{Bool, true, false, ◌&&◌}
use mathlib.Core.List.{List, [], ◌∷◌, ◌++◌, append_assoc, append-nil}
use mathlib.Core.Path.{◌≡◌, refl, sym, ap, subst, ◌∙◌}
use lib.Dec.{eqb, ltb, leb}
use lib.ListN.{length, get_or, drop, length-drop, length-append, drop_of_length-le}
use lib.Seq.{drop-cons, drop-drop, get_or-drop, drop-append_seam, drop-length}
use native.Mathlib.Nat.{div-add-mod', add-zero, zero-add, add_assoc}
use native.Mathlib.Numerals.{add-one}
use native.Mathlib.Omega.{arith}
use borrow.Author.Tests.{lt-ltb, le-leb, eq-eqb, ltb-true, leb-true, eqb-true}
use Rattle.meaning.specs.declared.Reason.{Reason}
use Rattle.meaning.specs.declared.Reason.TheVariants.{Ended, Mark, Version, Extra}
use Rattle.meaning.specs.declared.Refusal.{Refusal}
use Rattle.meaning.proofs.Tests.{and_in, and_left, and_right}
use Rattle.fields.specs.Read.{Read, Reader, got, refused, bind, pick, give, refuse, judge, judged, ◌>>=◌, ◌>>◌, byte, word, mark, header, end}
use Rattle.fields.specs.Write.{Bytes, byte_of, word_of, header_of}

-- wherever m meets the bytes e, it gives x and goes on behind them
pub record Reads {A : Type 0} (m : Reader A) (e : List ℕ) (x : A) : Type 0 where
  pub reads : (s : List ℕ) (at : ℕ) (after : List ℕ) → drop at s ≡ e ++ after → m s at ≡ got x (at + length e)

-- the bytes of s from at to n, of which Q holds
pub record Span (s : List ℕ) (at n : ℕ) (Q : List ℕ → Type 0) : Type 0 where
  pub bytes : List ℕ
  pub stand : drop at s ≡ bytes ++ drop n s
  pub next : n ≡ at + length bytes
  pub inside : n ≤ length s
  pub holds : Q bytes

-- whenever m accepts, Q holds of the value and of the bytes that were read for it
pub record Accepts {A : Type 0} (m : Reader A) (Q : A → List ℕ → Type 0) : Type 0 where
  pub accepts : {s : List ℕ} {at n : ℕ} {x : A} → Bytes s → at ≤ length s → m s at ≡ got x n → Span s at n (Q x)

-- whenever m accepts, the value is ok and the bytes are what e would write for it
abbrev pub Takes : {A : Type 0} → Reader A → (A → List ℕ) → (A → Type 0) → Type 0
Takes m e ok = Accepts m (λ x b. (b ≡ e x) × ok x)

-- What a reading that was accepted has passed.
pub got_same : {A : Type 0} {a b : A} {n m : ℕ} → got a n ≡ got b m → (a ≡ b) × (n ≡ m)
got_same h = (cc, cc)

pub refused_out : {A P : Type 0} {r : Refusal} {x : A} {n : ℕ} → refused r ≡ got x n → P
refused_out h = let z : ◌≡◌ {A = ℕ} 0 1 = cc in absurd (omega arith)

pub bind_out : {A B : Type 0} (r : Read A) (f : A → ℕ → Read B) {x : B} {n : ℕ} → bind r f ≡ got x n
    → (a : A) × (at : ℕ) × (r ≡ got a at) × (f a at ≡ got x n)
bind_out (got a at) f h = (a, at, refl, h)
bind_out (refused r) f h = refused_out h

pub pick_out : {A : Type 0} (b : Bool) (y : Read A) (r : Refusal) {x : A} {n : ℕ} → pick b y (refused r) ≡ got x n → (b ≡ true) × (y ≡ got x n)
pick_out true y r h = (refl, h)
pick_out false y r h = refused_out h

pub judge_out : (place : ℕ) (b : Bool) (r : Reason) (s : List ℕ) (at : ℕ) {u : Unit {0}} {n : ℕ} → judge place b r s at ≡ got u n → (b ≡ true) × (at ≡ n)
judge_out place true r s at h = (refl, cc)
judge_out place false r s at h = refused_out h

pub end_out : (s : List ℕ) (at : ℕ) {u : Unit {0}} {n : ℕ} → end s at ≡ got u n → (length s ≤ at) × (at ≡ n)
unfolding end
end_out s at h = let (t, e) = judge_out at (leb (length s) at) Extra s at h in (leb-true _ _ t, e)

pub end_in : (s : List ℕ) → end s (length s) ≡ got tt (length s)
unfolding end
end_in s = simp (le-leb (length s) (length s) (omega arith))

-- e is all that s has from at on
module _ (s : List ℕ) (at : ℕ) {e : List ℕ} (h : drop at s ≡ e) where
  room : length s - at ≡ length e
  room = sym (length-drop at s) ∙ ap length h

  there : (i : ℕ) → get_or s (at + i) 0 ≡ get_or e i 0
  there i = sym (get_or-drop at s i 0) ∙ ap (λ l. get_or l i 0) h

  here : get_or s at 0 ≡ get_or e 0 0
  here = ap (λ i. get_or s i 0) (sym (add-zero at)) ∙ there 0

first : (s : List ℕ) (at : ℕ) → at < length s → drop at s ≡ get_or s at 0 ∷ drop (at + 1) s
first s at h = rw (add-one, drop-cons s at 0)

later : (s : List ℕ) (at k : ℕ) → at + k < length s → drop (at + k) s ≡ get_or s (at + k) 0 ∷ drop (at + (k + 1)) s
later s at k h = rw (← add_assoc at k 1) (first s (at + k) h)

span : {s : List ℕ} {at n : ℕ} {Q : List ℕ → Type 0} (e : List ℕ) → at ≤ length s → at + length e ≡ n → drop at s ≡ e ++ drop n s → Q e → Span s at n Q
span {s} {at} {n} e le h d q = record { bytes = e; stand = d; next = sym h; inside = omega (arith, room s at d, length-append e (drop n s), length-drop n s); holds = q }

span_append : {s : List ℕ} {at k n : ℕ} {P Q : List ℕ → Type 0} → Span s at k P → ((e : List ℕ) → P e → Span s k n (λ b. Q (e ++ b))) → Span s at n Q
span_append {s} {n = n} u f =
    let v = f u.bytes u.holds in
    record {
      bytes = u.bytes ++ v.bytes;
      stand = u.stand ∙ ap (λ l. u.bytes ++ l) v.stand ∙ sym (append_assoc u.bytes v.bytes (drop n s));
      next = omega (arith, length-append u.bytes v.bytes);
      inside = v.inside;
      holds = v.holds;
    }

-- from the beginning to the end, they are s
span_whole : {s : List ℕ} {n : ℕ} {Q : List ℕ → Type 0} → Span s 0 n Q → length s ≤ n → Q s × (n ≡ length s)
span_whole {s} {Q = Q} u h =
    let e : s ≡ u.bytes = u.stand ∙ ap (λ l. u.bytes ++ l) (drop_of_length-le s h) ∙ append-nil u.bytes in
    (subst Q (sym e) u.holds, omega arith)

-- One after the other. These serve `m >> n` too, which is `m >>= λ _. n`.
module _ {A B : Type 0} {m : Reader A} where
  pub reads_bind : (f : A → Reader B) {e e' : List ℕ} {a : A} {x : B} → Reads m e a → Reads (f a) e' x → Reads (m >>= f) (e ++ e') x
  reads_bind f {e} {e'} p q =
      record {
        reads = λ s at after h.
            let h1 : drop at s ≡ e ++ (e' ++ after) = h ∙ append_assoc e e' after in
            let h2 : drop (at + length e) s ≡ e' ++ after = sym (drop-drop (length e) at s) ∙ ap (drop (length e)) h1 ∙ drop-append_seam e (e' ++ after) in
            simp (p.reads s at (e' ++ after) h1, q.reads s (at + length e) after h2, length-append, add_assoc);
      }

  -- what follows reads nothing
  pub reads_last : (f : A → Reader B) {e : List ℕ} {a : A} {x : B} → Reads m e a → Reads (f a) [] x → Reads (m >>= f) e x
  reads_last f {e} p q = rw (← append-nil e) (reads_bind f p q)

  module _ {f : A → Reader B} {Q : B → List ℕ → Type 0} where
    pub accepts_bind : {P : A → List ℕ → Type 0} → Accepts m P → ((a : A) (e : List ℕ) → P a e → Accepts (f a) (λ x b. Q x (e ++ b))) → Accepts (m >>= f) Q
    accepts_bind p q =
        record {
          accepts = λ {s} {at} bs le h.
              let (a, k, i, j) = bind_out (m s at) (λ a at'. f a s at') h in
              let u = p.accepts bs le i in
              span_append u (λ e w. (q a e w).accepts bs u.inside j);
        }

    pub takes_bind : {e : A → List ℕ} {ok : A → Type 0} → Takes m e ok → ((a : A) → ok a → Accepts (f a) (λ x b. Q x (e a ++ b))) → Accepts (m >>= f) Q
    takes_bind p q = accepts_bind p (λ a b h. rw h.0 (q a h.1))

module _ {A : Type 0} {m : Reader A} {Q : A → List ℕ → Type 0} where
  pub accepts_weaken : {P : A → List ℕ → Type 0} → Accepts m P → ((x : A) (e : List ℕ) → P x e → Q x e) → Accepts m Q
  accepts_weaken p f = record { accepts = λ {x = x} bs le h. let u = p.accepts bs le h in span u.bytes le (sym u.next) u.stand (f x u.bytes u.holds) }

  pub takes_weaken : {e : A → List ℕ} {ok : A → Type 0} → Takes m e ok → ((x : A) → ok x → Q x (e x)) → Accepts m Q
  takes_weaken p f = accepts_weaken p (λ x b h. rw h.0 (f x h.1))

-- What reads nothing.
pub reads_give : {A : Type 0} (x : A) → Reads (give x) [] x
reads_give x = record { reads = λ s at after h. simp add-zero }

pub reads_judge : (place : ℕ) {b : Bool} (r : Reason) → b ≡ true → Reads (judge place b r) [] tt
reads_judge place r h = rw h (reads_give tt)

module _ {A : Type 0} {Q : A → List ℕ → Type 0} where
  pub accepts_give : {x : A} → Q x [] → Accepts (give x) Q
  accepts_give {x} q =
      record {
        accepts = λ {at = at} {n} {x = y} bs le h.
            let hx : x ≡ y = cc in
            let hn : at ≡ n = cc in
            span [] le (add-zero at ∙ hn) (rw hn) (rw hx at q);
      }

  pub accepts_refuse : (r : Reason) → Accepts (refuse r) Q
  accepts_refuse r = record { accepts = λ bs le h. refused_out h }

  pub accepts_pick : (b : Bool) {m n : Reader A} → (b ≡ true → Accepts m Q) → (b ≡ false → Accepts n Q) → Accepts (pick b m n) Q
  accepts_pick true p q = p refl
  accepts_pick false p q = q refl

pub takes_judge : (place : ℕ) (b : Bool) (r : Reason) → Takes (judge place b r) (λ _. []) (λ _. b ≡ true)
takes_judge place true r = accepts_give (refl, refl)
takes_judge place false r = record { accepts = λ bs le h. refused_out h }

-- What is judged when it has been read.
module _ {A : Type 0} {m : Reader A} (test : A → Bool) (r : Reason) where
  pub reads_judged : {e : List ℕ} {x : A} → Reads m e x → test x ≡ true → Reads (judged m test r) e x
  unfolding judged
  reads_judged p t = record { reads = λ s at after h. simp (p.reads s at after h, t) }

  pub takes_judged : {e : A → List ℕ} {ok : A → Type 0} → Takes m e ok → Takes (judged m test r) e (λ x. ok x × (test x ≡ true))
  unfolding judged
  takes_judged {e} {ok} p =
      record {
        accepts = λ {s} {at} bs le h.
            let (a, k, i, j) = bind_out (m s at) (λ a next. bind (judge at (test a) r s next) λ _ next'. got a next') h in
            let (u, l, v, w) = bind_out (judge at (test a) r s k) (λ _ next'. got a next') j in
            let (t, same) = judge_out at (test a) r s k v in
            let ha = got_same w in
            let q = p.accepts bs le i in
            let good : A → Type 0 = λ y. ok y × (test y ≡ true) in
            span q.bytes le (sym q.next ∙ same ∙ ha.1) (q.stand ∙ ap (λ n. q.bytes ++ drop n s) (same ∙ ha.1)) (subst (λ y. (q.bytes ≡ e y) × good y) ha.0 (q.holds.0, (q.holds.1, t)));
      }

-- The fields.
pub reads_byte : (n : ℕ) → Reads byte (byte_of n) n
unfolding byte
reads_byte n = record { reads = λ s at after h. simp (lt-ltb at (length s) (omega (arith, room s at h)), here s at h) }

pub takes_byte : Takes byte byte_of (λ n. n < 256)
unfolding byte
takes_byte =
    record {
      accepts = λ {s} {at} {n} {x} bs le h.
          let (t, g) = pick_out (ltb at (length s)) (got (get_or s at 0) (at + 1)) (record { reason = Ended }) h in
          let hx : get_or s at 0 ≡ x = cc in
          let hn : at + 1 ≡ n = cc in
          span (byte_of x) le hn (rw (← hx, ← hn) (first s at (ltb-true _ _ t))) (refl, rw hx at (bs at));
    }

pub reads_word : (n : ℕ) → Reads word (word_of n) n
unfolding word
reads_word n = record { reads = λ s at after h. simp (le-leb 2 (length s - at) (omega (arith, room s at h)), here s at h, there s at h 1, div-add-mod') }

pub takes_word : Takes word word_of (λ n. n < 65536)
unfolding word
takes_word =
    record {
      accepts = λ {s} {at} {n} {x} bs le h.
          let (t, g) = pick_out (leb 2 (length s - at)) (got (get_or s at 0 * 256 + get_or s (at + 1) 0) (at + 2)) (record { reason = Ended }) h in
          let l = leb-true 2 (length s - at) t in
          let high = bs at in
          let low = bs (at + 1) in
          let hx : get_or s at 0 * 256 + get_or s (at + 1) 0 ≡ x = cc in
          let hn : at + 2 ≡ n = cc in
          let hh : x / 256 ≡ get_or s at 0 = omega arith in
          let hl : x % 256 ≡ get_or s (at + 1) 0 = omega arith in
          span (word_of x) le hn (rw (hh, hl, ← hn, first s at (omega arith), later s at 1 (omega arith))) (refl, omega arith);
    }

reads_mark : (a b c : ℕ) → Reads (mark a b c) (a ∷ b ∷ c ∷ []) tt
unfolding mark
reads_mark a b c =
    record {
      reads = λ s at after h.
          simp
          (le-leb 3 (length s - at) (omega (arith, room s at h)), here s at h, there s at h 1, there s at h 2, eq-eqb a a refl, eq-eqb b b refl, eq-eqb c c refl);
    }

takes_mark : (a b c : ℕ) → Takes (mark a b c) (λ _. a ∷ b ∷ c ∷ []) (λ _. Unit {0})
unfolding mark
takes_mark a b c =
    record {
      accepts = λ {s} {at} {n} bs le h.
          let i = eqb (get_or s at 0) a in
          let j = eqb (get_or s (at + 1) 0) b in
          let k = eqb (get_or s (at + 2) 0) c in
          let (t, g) = pick_out (leb 3 (length s - at)) (pick (i && (j && k)) (got tt (at + 3)) (refused (record { reason = Mark }))) (record { reason = Ended }) h in
          let (u, f) = pick_out (i && (j && k)) (got tt (at + 3)) (record { reason = Mark }) g in
          let l = leb-true 3 (length s - at) t in
          let hn : at + 3 ≡ n = cc in
          let ha : get_or s at 0 ≡ a = eqb-true _ _ (and_left i (j && k) u) in
          let hb : get_or s (at + 1) 0 ≡ b = eqb-true _ _ (and_left j k (and_right i (j && k) u)) in
          let hc : get_or s (at + 2) 0 ≡ c = eqb-true _ _ (and_right j k (and_right i (j && k) u)) in
          span (a ∷ b ∷ c ∷ []) le hn (rw (← hn, first s at (omega arith), later s at 1 (omega arith), later s at 2 (omega arith), ha, hb, hc)) (refl, tt);
    }

module _ (a b c latest : ℕ) where
  pub reads_header : (v : ℕ) → 1 ≤ v → v ≤ latest → Reads (header a b c latest) (header_of a b c v) v
  unfolding header
  reads_header v l h = reads_bind _ (reads_mark a b c) (reads_judged _ Version (reads_word v) (and_in (le-leb 1 v l) (le-leb v latest h)))

  pub takes_header : Takes (header a b c latest) (header_of a b c) (λ v. (1 ≤ v) × (v ≤ latest))
  unfolding header
  takes_header =
      takes_bind (takes_mark a b c) λ _ _. takes_weaken (takes_judged _ Version takes_word)
      λ v h. (refl, (leb-true 1 v (and_left (leb 1 v) _ h.1), leb-true v latest (and_right (leb 1 v) _ h.1)))

-- a file that has one version
pub takes_first : (a b c : ℕ) → Takes (header a b c 1) (λ _. header_of a b c 1) (λ v. v ≡ 1)
takes_first a b c = takes_weaken (takes_header a b c 1) λ v h. let e : v ≡ 1 = omega arith in (rw e, e)

-- A file is r and the end; what f still judges after it reads nothing.
module _ {A B : Type 0} {r : Reader A} where
  pub reads_ended : (f : A → Reader B) {e : List ℕ} {a : A} {x : B} → Reads r e a → Reads (f a) [] x → (r >>= λ b. end >> f b) e 0 ≡ got x (length e)
  reads_ended f {e} p q = simp (p.reads e 0 [] (sym (append-nil e)), zero-add, end_in, q.reads e (length e) [] (drop-length e), add-zero)

  pub accepts_ended : {f : A → Reader B} {P : A → List ℕ → Type 0} {Q : B → List ℕ → Type 0} (s : List ℕ) {x : B} {n : ℕ}
      → Accepts r P → ((a : A) (e : List ℕ) → P a e → Accepts (f a) (λ y _. Q y e)) → Bytes s
      → (r >>= λ b. end >> f b) s 0 ≡ got x n → Q x s × (n ≡ length s)
  accepts_ended {f} s p q bs h =
      let (a, k, i, j) = bind_out (r s 0) (λ a at'. (end >> f a) s at') h in
      let (_, l, v, w) = bind_out (end s k) (λ _ at'. f a s at') j in
      let (le, e) = end_out s k v in
      let (holds, whole) = span_whole (p.accepts bs (omega arith) i) le in
      let u = (q a s holds).accepts bs (omega arith) w in
      (u.holds, omega arith)

-- A file is r and the end.
module _ {A : Type 0} {r : Reader A} where
  pub reads_file : {e : List ℕ} {x : A} → Reads r e x → (r >>= λ y. end >> give y) e 0 ≡ got x (length e)
  reads_file p = reads_ended give p (reads_give _)

  pub takes_file : {e : A → List ℕ} {ok : A → Type 0} (s : List ℕ) {x : A} {n : ℕ} → Takes r e ok → Bytes s
      → (r >>= λ y. end >> give y) s 0 ≡ got x n → (s ≡ e x) × ok x × (n ≡ length s)
  takes_file {e} {ok} s p bs h = let (q, l) = accepts_ended {f = give} {Q = λ x b. (b ≡ e x) × ok x} s p (λ a b q. accepts_give q) bs h in (q.0, q.1, l)
