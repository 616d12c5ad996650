-- Laws of the answer: how many pass, by words, and the list of them, written one by one.
use Rattle.std.proofs.Common.{Option, unwrap_or}
use Prim.Native.Nat.{ℕ, zero, suc, ◌+◌, ◌*◌, ◌/◌, ◌%◌, ◌^◌, ◌≤◌, ◌<◌, min}
use mathlib.Core.Path.{◌≡◌, refl, ap, ◌∙◌}
use mathlib.Core.Bool.{Bool, true, false, cond}
use mathlib.Core.List.{List, [], ◌∷◌, ◌++◌}
use native.Mathlib.Nat.{add-zero, add-suc, pow-suc}
use native.Mathlib.Numerals.{one-add}
use native.Mathlib.Omega.{arith}
use lib.Dec.{eqb}
use lib.Count.{ones, ones_step}
use lib.ListN.{length, get_or, set, length-append, length-set}
use Rattle.meaning.specs.Sets.{bit, listed}
use Rattle.meaning.proofs.Sets.{listed_cong}
use Rattle.writing.specs.Inside.Put.{Put}
use Rattle.writing.proofs.Puts.{put_nothing, put_then, put_byte}
use Rattle.rows.specs.Inside.Rows.{in_row, Next, NextIs}
use Rattle.rows.proofs.Bits.{digit, word_bit}
use Rattle.rows.proofs.Searches.{listed_still, next_is}

-- how many below n pass
abbrev tally : ℕ → (ℕ → Bool) → ℕ
tally n f = length (listed n f)

one_more : (n : ℕ) (f : ℕ → Bool) → tally (suc n) f ≡ tally n f + cond (f n) 1 0
unfolding listed
one_more n f = length-append (listed n f) _ ∙ ap (λ (k : ℕ). tally n f + k) (counted (f n))
  where
    counted : (b : Bool) → length (cond b (n ∷ []) []) ≡ cond b 1 0
    counted true = refl
    counted false = refl

pub tally_most : (n : ℕ) (f : ℕ → Bool) → tally n f ≤ n
unfolding listed
tally_most zero f = omega arith
tally_most (suc n) f = omega (arith, one_more n f, tally_most n f, most (f n))
  where
    most : (b : Bool) → cond b 1 0 ≤ 1
    most true = omega arith
    most false = omega arith

-- those below m, and the n from m on
tally_split : (m n : ℕ) (f : ℕ → Bool) → tally (m + n) f ≡ tally m f + tally n (λ i. f (m + i))
unfolding listed
tally_split m zero f = rw (add-zero m, add-zero (tally m f))
tally_split m (suc n) f =
    ap (λ (k : ℕ). tally k f) (add-suc m n) ∙ one_more (m + n) f
    ∙ omega (arith, tally_split m n f, one_more n (λ i. f (m + i)))

-- the ones of a number are its bits that are set
pub ones_tally : (n b : ℕ) → b < 2 ^ n → ones b ≡ tally n (bit b)
unfolding bit listed ones
ones_tally zero b l = let e : b ≡ 0 = omega arith in ap ones e
ones_tally (suc n) b l =
    let low : b % 2 ≡ tally 1 (bit b) = digit (λ x. x ≡ length {A = ℕ} (cond (eqb x 1) (0 ∷ []) [])) refl refl (b % 2) (omega arith) in
    let high : tally n (λ i. bit b (1 + i)) ≡ tally n (bit (b / 2)) = ap length (listed_cong n _ _ (λ i k. ap (bit b) (one-add i))) in
    omega (arith, ones_step b, low, ones_tally n (b / 2) (omega (arith, pow-suc 2 n)), high, tally_split 1 n (bit b), ap (λ (k : ℕ). tally k (bit b)) (one-add n))

-- one word more of a row is counted
pub count_more : (row : List ℕ) (k : ℕ) {n r : ℕ} → n ≡ tally (64 * k) (in_row row) → r ≡ tally 64 (bit (get_or row k 0)) → n + r ≡ tally (64 * (k + 1)) (in_row row)
count_more row k {n} {r} a b =
    let next : 64 * (k + 1) ≡ 64 * k + 64 = omega arith in
    let bits : tally 64 (λ i. in_row row (64 * k + i)) ≡ tally 64 (bit (get_or row k 0)) =
    ap length (listed_cong 64 _ _ (word_bit row k)) in
    omega (arith, a, b, bits, tally_split (64 * k) 64 (in_row row), ap (λ (x : ℕ). tally x (in_row row)) next)

-- The numbers written so far are those below w, which is the next that passes.
pub record Listing (limit size : ℕ) (f : ℕ → Bool) (old new : List ℕ) (m w : ℕ) : Type 0 where
  pub few : m ≤ w
  pub most : w ≤ limit
  pub found : w < limit → f w ≡ true
  pub same : length new ≡ length old
  pub put : Put 0 (listed (min w size) f) old new m

module _ {limit size : ℕ} {f : ℕ → Bool} {old : List ℕ} where
  pub listing_none : (o : Option ℕ) → NextIs limit f 0 o → Listing limit size f old old 0 (unwrap_or o limit)
  unfolding listed
  listing_none o is =
      let w : ℕ = unwrap_or o limit in
      let n : Next limit f 0 w = next_is o is in
      let e : listed (min w size) f ≡ [] = listed_still 0 (min w size) f (omega arith) (λ x l m. n.none x l (omega arith)) in
      record { few = omega arith; most = n.most; found = n.found; same = refl; put = rw e (put_nothing 0 old) }

  module _ {new : List ℕ} {m w : ℕ} (s : Listing limit size f old new m w) (fits : size ≤ limit) (room : size ≤ length old) where
    pub listing_more : w < size → (o : Option ℕ) → NextIs limit f (w + 1) o → Listing limit size f old (set new m w) (m + 1) (unwrap_or o limit)
    unfolding listed
    listing_more l o is =
        let v : ℕ = unwrap_or o limit in
        let n : Next limit f (w + 1) v = next_is o is in
        let at-w : min w size ≡ w = omega arith in
        let vs : List ℕ = listed w f in
        let now : Put 0 vs old new m = rw at-w at s.put in
        let past : listed (min v size) f ≡ vs ++ (w ∷ []) =
        listed_still (suc w) (min v size) f (omega (arith, n.ahead)) (λ x p q. n.none x (omega arith) (omega arith)) ∙ ap (λ (b : Bool). vs ++ cond b (w ∷ []) []) (s.found (omega arith)) in
        record {
          few = omega (arith, s.few, n.ahead);
          most = n.most;
          found = n.found;
          same = length-set new m w ∙ s.same;
          put = rw past (put_then now (put_byte m w new (omega (arith, s.few, s.same))));
        }
