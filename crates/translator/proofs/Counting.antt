-- Counting the steps over the bytes of a query: one law for each turn and return, and what is counted.
use Prim.Native.Nat.{ℕ, zero, suc, ◌+◌, ◌*◌, ◌<◌, ◌≤◌}
use mathlib.Core.Path.{◌≡◌, refl, sym, ap, ◌∙◌}
use mathlib.Core.List.{List, [], ◌∷◌, ◌++◌, append_assoc}
use native.Mathlib.Omega.{arith}
use lib.ListN.{length, get_or, drop, drop_of_length-le}
use lib.Seq.{drop-nil, drop-cons, drop-drop}
use Rattle.meaning.specs.Limits.{step_limit}
use Rattle.meaning.specs.Queries.{XPath, Qualifier, self, child, any_child, slash, slashes, union, filter, reached, text_is, is_not, both, either, path_count, qualifier_count}
use Rattle.query.specs.Qry.{path_bytes, qualifier_bytes}
use Rattle.translator.specs.Inside.Count.{fields_of, own_steps, steps_in, CountedSteps}

skipped : (n : ℕ) (s : List ℕ) → steps_in n s ≡ steps_in 0 (drop n s)
unfolding steps_in
skipped n [] = ap (steps_in 0) (sym (drop-nil n))
skipped zero (c ∷ s) = refl
skipped (suc n) (c ∷ s) = skipped n s

-- what is counted before a place, and what is there from it on
pub record Upto (s : List ℕ) (at steps : ℕ) : Type 0 where
  pub sum : steps + steps_in 0 (drop at s) ≡ steps_in 0 (drop 5 s)
  pub near : at ≤ 5 + 3 * steps
  pub few : steps ≤ step_limit

pub upto_none : (s : List ℕ) → Upto s 5 0
upto_none s = record { sum = omega arith; near = omega arith; few = omega arith }

module _ {s : List ℕ} {at steps : ℕ} (u : Upto s at steps) where
  pub upto_all : length s ≤ at → CountedSteps s steps
  unfolding steps_in
  upto_all l =
      let e : steps_in 0 (drop at s) ≡ 0 = ap (steps_in 0) (drop_of_length-le s l) in
      record { all = omega (arith, u.sum); few = u.few; short = omega (arith, u.near) }

  -- the node at a place
  module _ {f w : ℕ} (i : at < length s) (e : f ≡ fields_of (get_or s at 0)) (o : w ≡ own_steps (get_or s at 0)) where
    one_more : steps_in 0 (drop at s) ≡ w + steps_in 0 (drop (at + (1 + f)) s)
    unfolding steps_in
    one_more =
        let c = get_or s at 0 in
        let here : steps_in 0 (drop at s) ≡ own_steps c + steps_in (fields_of c) (drop (suc at) s) = ap (steps_in 0) (drop-cons s at 0 i) in
        let next : suc at + fields_of c ≡ at + (1 + f) = omega arith in
        let there : steps_in (fields_of c) (drop (suc at) s) ≡ steps_in 0 (drop (at + (1 + f)) s) =
        skipped (fields_of c) (drop (suc at) s) ∙ ap (steps_in 0) (drop-drop (fields_of c) (suc at) s ∙ ap (λ n. drop n s) next) in
        omega (arith, here, there, o)

    pub upto_many : step_limit < steps + w → step_limit < steps_in 0 (drop 5 s)
    upto_many l = omega (arith, u.sum, one_more)

    pub upto_more : f ≤ 2 → 1 ≤ w → steps + w ≤ step_limit → Upto s (at + (1 + f)) (steps + w)
    upto_more f2 w1 l = record { sum = omega (arith, u.sum, one_more); near = omega (arith, u.near); few = l }

-- The bytes of a path or a qualifier hold its steps.
two_parts : (m n : ℕ) (a b s : List ℕ) → steps_in 0 (a ++ (b ++ s)) ≡ m + steps_in 0 (b ++ s) → steps_in 0 (b ++ s) ≡ n + steps_in 0 s → steps_in 0 ((a ++ b) ++ s) ≡ m + n + steps_in 0 s
two_parts m n a b s p q = ap (steps_in 0) (append_assoc a b s) ∙ omega arith

mutual
  unfolding steps_in path_bytes qualifier_bytes path_count qualifier_count

  pub path_steps : (p : XPath) (s : List ℕ) → steps_in 0 (path_bytes p ++ s) ≡ path_count 5 1 p + steps_in 0 s
  path_steps self s = refl
  path_steps (child t) s = refl
  path_steps any_child s = refl
  path_steps (slash p q) s = omega (arith, two_parts (path_count 5 1 p) (path_count 5 1 q) (path_bytes p) (path_bytes q) s (path_steps p _) (path_steps q s))
  path_steps (slashes p q) s = omega (arith, two_parts (path_count 5 1 p) (path_count 5 1 q) (path_bytes p) (path_bytes q) s (path_steps p _) (path_steps q s))
  path_steps (union p q) s = omega (arith, two_parts (path_count 5 1 p) (path_count 5 1 q) (path_bytes p) (path_bytes q) s (path_steps p _) (path_steps q s))
  path_steps (filter p q) s = omega (arith, two_parts (path_count 5 1 p) (qualifier_count 5 1 q) (path_bytes p) (qualifier_bytes q) s (path_steps p _) (qualifier_steps q s))

  qualifier_steps : (q : Qualifier) (s : List ℕ) → steps_in 0 (qualifier_bytes q ++ s) ≡ qualifier_count 5 1 q + steps_in 0 s
  qualifier_steps (reached p) s = omega (arith, path_steps p s)
  qualifier_steps (text_is c) s = refl
  qualifier_steps (is_not q) s = omega (arith, qualifier_steps q s)
  qualifier_steps (both q r) s = omega (arith, two_parts (qualifier_count 5 1 q) (qualifier_count 5 1 r) (qualifier_bytes q) (qualifier_bytes r) s (qualifier_steps q _) (qualifier_steps r s))
  qualifier_steps (either q r) s = omega (arith, two_parts (qualifier_count 5 1 q) (qualifier_count 5 1 r) (qualifier_bytes q) (qualifier_bytes r) s (qualifier_steps q _) (qualifier_steps r s))
