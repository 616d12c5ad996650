-- What the field readers' own proofs cite, and what is known of a field that was judged.
use Rattle.std.proofs.Common.{ℕ, List, Bool, leb, ◌≡◌, ◌*◌, ◌/◌, ◌^◌, ◌<◌, ◌≤◌, sym, arith, true, eqb, ltb, eq-eqb, lt-ltb, rules, w16, Fits}
use native.Mathlib.Nat.{div-eq_of_lt, div-lt_iff_lt-mul, one-le-pow, pow-le-pow_right, lt_of_lt_of_le}
use borrow.Author.Tests.{ltb-true, leb-true, eqb-true}
use Rattle.meaning.proofs.Tests.{same, and_right}
use Rattle.meaning.specs.declared.Reason.{Reason}
use Rattle.fields.specs.Read.{Reader, got, judge, judged, byte_up_to}
use Rattle.fields.proofs.Formats.{bind_out, judge_out, got_same}

-- what was judged has passed
module _ (r : Reason) (s : List ℕ) (at : ℕ) {v n : ℕ} where
  pub judged_true : (m : Reader ℕ) (test : ℕ → Bool) → got v n ≡ judged m test r s at → test v ≡ true
  unfolding judged
  judged_true m test h =
      let (a, k, _, j) = bind_out (m s at) _ (sym h) in
      let (_, _, i, w) = bind_out (judge at (test a) r s k) _ j in
      rw (got_same w).0 at (judge_out at (test a) r s k i).0

  pub up_to_limit : (limit : ℕ) → got v n ≡ byte_up_to limit r s at → v ≤ limit
  up_to_limit limit h = leb-true v limit (and_right (leb 1 v) _ (judged_true _ _ h))

-- Nothing is left of a mask after a shift by k exactly where it has no bit of k or more.
module _ (m k : ℕ) where
  pub shifted_out : eqb (m / 2 ^ k) 0 ≡ ltb m (2 ^ k)
  shifted_out =
      same (eqb (m / 2 ^ k) 0) (ltb m (2 ^ k))
      (λ h. lt-ltb m (2 ^ k) (below (eqb-true _ _ h)))
      (λ h. eq-eqb _ _ (div-eq_of_lt (ltb-true m (2 ^ k) h)))
    where
      below : m / 2 ^ k ≡ 0 → m < 2 ^ k
      below e = let h : m < 1 * 2 ^ k = (div-lt_iff_lt-mul (one-le-pow k 2 (omega arith))).0 (omega arith) in omega arith

  pub all_within : 16 ≤ k → Fits w16 m → true ≡ ltb m (2 ^ k)
  all_within l f = let p : 0 < 2 = omega arith in sym (lt-ltb m (2 ^ k) (lt_of_lt_of_le f.fits (pow-le-pow_right p l)))

pub ruleset laws = (shifted_out, all_within, rules)
