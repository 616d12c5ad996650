-- The loop over the steps: the array holds the steps that are done, and the rest is still to be read.
use Prim.Native.Nat.{ℕ, suc, ◌+◌, ◌-◌, ◌<◌, ◌≤◌}
use mathlib.Core.Path.{◌≡◌, refl, sym, ap, ◌∙◌}
use mathlib.Core.List.{List, [], ◌∷◌, ◌++◌, append_assoc, append-nil}
use native.Mathlib.Nat.{zero-add, sub-zero}
use native.Mathlib.Omega.{arith}
use native.Mathlib.Numerals.{add-one}
use lib.ListN.{length, set, replicate, length-append}
use lib.Seq.{set_at}
use Rattle.meaning.specs.declared.Operation.{Operation}
use Rattle.meaning.specs.declared.Step.{Step}
use Rattle.meaning.specs.declared.Refusal.{Refusal}
use Rattle.meaning.specs.Limits.{step_limit}
use Rattle.meaning.specs.Inside.Records.{blank_step, steps_from, program_of}
use Rattle.meaning.proofs.Records.{steps_length}
use Rattle.fields.specs.Read.{Read, got, refused, bind, mapped}
use Rattle.rel.specs.Rel.{step_read, steps_read}

-- the places of a program's operations, the others blank
abbrev places : List Operation → List Step
places os = steps_from 0 os ++ replicate (step_limit - length os) blank_step

-- what is read behind the operations os
abbrev behind : List Operation → Read (List Operation) → Read (List Operation)
behind os e = bind e λ more next. got (os ++ more) next

-- n operations are done and stand in xs, and the rest is read from at on
pub record Upto (s : List ℕ) (k count from : ℕ) (xs : List Step) (n at : ℕ) : Type 0 where
  pub done : List Operation
  pub many : length done ≡ n
  pub held : xs ≡ places done
  pub rest : steps_read k 0 count s from ≡ behind done (steps_read k n (count - n) s at)

steps_append : (n : ℕ) (os : List Operation) (o : Operation) → steps_from n (os ++ (o ∷ [])) ≡ steps_from n os ++ (record { number = n + length os; operation = o } ∷ [])
unfolding steps_from
steps_append n [] o = ap (λ (i : ℕ). record { number = i; operation = o } ∷ []) (omega arith)
steps_append n (p ∷ os) o =
    ap (λ l. record { number = n; operation = p } ∷ l)
    (steps_append (suc n) os o ∙ ap (λ (i : ℕ). steps_from (suc n) os ++ (record { number = i; operation = o } ∷ [])) (omega arith))

one_more : (os : List Operation) (o : Operation) → length (os ++ (o ∷ [])) ≡ length os + 1
one_more os o = length-append os (o ∷ [])

placed : (os : List Operation) (o : Operation) → length os < step_limit → set (places os) (length os) (record { number = length os; operation = o }) ≡ places (os ++ (o ∷ []))
placed os o l =
    let m = step_limit - suc (length os) in
    let one : step_limit - length os ≡ suc m = omega arith in
    let longer : length (os ++ (o ∷ [])) ≡ suc (length os) = one_more os o ∙ add-one (length os) in
    simp (one, longer, steps_append 0 os o, zero-add, append_assoc, set_at (steps_from 0 os) blank_step (replicate m blank_step) (record { number = length os; operation = o }) (length os) (steps_length 0 os))

behind_none : (e : Read (List Operation)) → behind [] e ≡ e
behind_none (got more at) = refl
behind_none (refused r) = refl

behind_more : (os : List Operation) (o : Operation) (e : Read (List Operation)) → behind os (behind (o ∷ []) e) ≡ behind (os ++ (o ∷ [])) e
behind_more os o (got more at) = simp append_assoc
behind_more os o (refused r) = refl

module _ (s : List ℕ) (k count from : ℕ) where
  pub upto_start : Upto s k count from (replicate step_limit blank_step) 0 from
  unfolding steps_from
  upto_start = record { done = []; many = refl; held = refl; rest = sym (rw sub-zero (behind_none (steps_read k 0 count s from))) }

  module _ {xs : List Step} {n at : ℕ} (u : Upto s k count from xs n at) where
    -- a step is next
    next : n < count → steps_read k 0 count s from ≡ behind u.done (steps_read k n (suc (count - suc n)) s at)
    next l = let e : count - n ≡ suc (count - suc n) = omega arith in rw e at u.rest

    pub upto_stop : {r : Refusal} → n < count → refused r ≡ step_read k n s at → refused r ≡ mapped program_of (steps_read k 0 count s from)
    unfolding steps_read mapped
    upto_stop l h = simp (next l, ← h)

    pub upto_step : {o : Operation} {to : ℕ} → n < count → count ≤ step_limit → got o to ≡ step_read k n s at
        → Upto s k count from (set xs n (record { number = n; operation = o })) (n + 1) to
    unfolding steps_read
    upto_step {o} {to} l m h = record {
      done = u.done ++ (o ∷ []);
      many = one_more u.done o ∙ omega (arith, u.many);
      held = rw (u.held, ← u.many) (placed u.done o (omega (arith, u.many)));
      rest = next l ∙ simp (← h, add-one) (behind_more u.done o (steps_read k (suc n) (count - suc n) s to));
    }

    pub upto_all : n ≡ count → got (record { count = n; steps = xs }) at ≡ mapped program_of (steps_read k 0 count s from)
    unfolding steps_read mapped program_of
    upto_all e =
        let none : count - n ≡ 0 = omega arith in
        let all = rw none at u.rest in
        simp (all, append-nil, u.held, u.many)
