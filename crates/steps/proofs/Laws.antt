-- Steps behind steps: what each writer leaves in the buffer, as the steps of the translation.
use Prim.Native.Nat.{ℕ, ◌+◌, ◌*◌, ◌-◌, ◌≤◌}
use mathlib.Core.Path.{◌≡◌, refl, sym, ap, subst, ◌∙◌}
use mathlib.Core.List.{List, [], ◌∷◌, ◌++◌, append_assoc, append-nil}
use native.Mathlib.Omega.{arith}
use lib.Bits.{bit_or}
use lib.ListN.{length, length-append}
use Rattle.meaning.specs.declared.Operation.{Operation}
use Rattle.meaning.specs.declared.Operation.TheVariants.{Table, Itself, Join, Union, Closure}
use Rattle.meaning.specs.Operations.{last}
use Rattle.meaning.specs.Translation.{Adds, step, then, then_both, descend}
use Rattle.rel.specs.Rel.{step_bytes, steps_bytes}
use Rattle.rel.proofs.Encoded.{step_length, steps_length}
use Rattle.writing.specs.Lent.{over}
use Rattle.writing.specs.Inside.Put.{Put}
use Rattle.writing.proofs.Puts.{over_more, put_length}
use Rattle.steps.specs.declared.Place.{Place}
use Rattle.steps.specs.declared.Operator.{Operator}
use Rattle.steps.specs.Inside.Writes.{applied, onto, Holds, WritesSteps, Goes, StepsFit}

steps_more : (os : List Operation) (o : Operation) → steps_bytes (os ++ (o ∷ [])) ≡ steps_bytes os ++ step_bytes o
unfolding steps_bytes
steps_more [] o = append-nil (step_bytes o)
steps_more (p ∷ os) o = ap (λ l. step_bytes p ++ l) (steps_more os o) ∙ sym (append_assoc (step_bytes p) (steps_bytes os) (step_bytes o))

-- One step.
step_writes : (o : Operation) (n : ℕ) {old new : List ℕ} → new ≡ over (6 + 3 * n) (step_bytes o) old → WritesSteps (step o) n (n + 1) old new
unfolding step
step_writes o n {old} {new} e = record {
  writes = λ base os h. record {
    header = h.header;
    there =
        e
        ∙ ap (λ l. over (6 + 3 * n) (step_bytes o) l) h.there
        ∙ ap (λ i. over i (step_bytes o) (over 6 (steps_bytes os) base)) (omega (arith, h.count, steps_length os))
        ∙ over_more 6 (steps_bytes os) (step_bytes o) base
        ∙ ap (λ l. over 6 l base) (sym (steps_more os o));
    count = omega (arith, h.count, length-append os (o ∷ []));
  };
}

-- What add writes.
pub add_goes : (o : Operation) {w next : ℕ} {old new : List ℕ} {from : Place} → StepsFit 1 (length old) from.steps → w ≡ from.steps → Put (6 + 3 * w) (step_bytes o) old new next
    → Goes (step o) 1 from.kinds from.at old new from.steps (record { kinds = from.kinds; at = from.at; steps = from.steps + 1 })
add_goes o {w} {old = old} {from = from} room q put = record {
  writes = step_writes o from.steps (put.there ∙ ap (λ k. over (6 + 3 * k) (step_bytes o) old) q);
  steps = refl;
  kinds = refl;
  at = refl;
  same = put_length (omega (arith, room.fits, step_length o)) put;
}

-- no step: the kinds may be others
pub stays : (from : Place) (K : ℕ) (old : List ℕ) → Goes (λ os. os) 0 K from.at old old from.steps (record { kinds = K; at = from.at; steps = from.steps })
stays from K old = record { writes = record { writes = λ base os h. h }; steps = omega arith; kinds = refl; at = refl; same = refl }

-- The steps of a, and what follows them: an operation on what was last before them and the last of them, or the steps of b.
module _ {a : Adds} {m K e n : ℕ} {old x : List ℕ} {left : Place} (p : Goes a m K e old x n left) where
  pub onto_goes : (f : ℕ → ℕ → Operation) {C next : ℕ} {new : List ℕ} {to : Place}
      → Goes (step (f (n - 1) (left.steps - 1))) 1 C next x new left.steps to → Goes (onto f a) (m + 1) C next old new n to
  unfolding onto then last
  onto_goes f {new = new} {to} q = record {
    writes = record {
      writes = λ base os h.
          let i = p.writes.writes base os h in
          subst (λ (k : ℕ). Holds base (step (f (k - 1) (last (a os))) (a os)) to.steps new) h.count
          (subst (λ (k : ℕ). Holds base (step (f (n - 1) (k - 1)) (a os)) to.steps new) i.count (q.writes.writes base (a os) i));
    };
    steps = omega (arith, p.steps, q.steps);
    kinds = q.kinds;
    at = q.at;
    same = q.same ∙ p.same;
  }

  pub after_goes : {b : Adds} {l C next : ℕ} {new : List ℕ} {to : Place} → Goes b l C next x new left.steps to → Goes (λ os. b (a os)) (m + l) C next old new n to
  after_goes q = record {
    writes = record { writes = λ base os h. q.writes.writes base (a os) (p.writes.writes base os h) };
    steps = omega (arith, p.steps, q.steps);
    kinds = q.kinds;
    at = q.at;
    same = q.same ∙ p.same;
  }

-- the same steps, number, kinds and place, put otherwise
pub goes_as : {a b : Adds} {m l C D e f n : ℕ} {old new : List ℕ} {to : Place} → a ≡ b → m ≡ l → C ≡ D → e ≡ f → Goes a m C e old new n to → Goes b l D f old new n to
goes_as h i j k p = rw (h, i, j, k) at p

-- The writers of several steps.
module _ {K next n : ℕ} {old x new : List ℕ} {mid to : Place} where
  pub itself_goes : (operator : Operator) → Goes (step Itself) 1 K next old x n mid
      → Goes (step (applied operator (n - 1) (mid.steps - 1))) 1 mid.kinds mid.at x new mid.steps to → Goes (onto (applied operator) (step Itself)) 2 K next old new n to
  itself_goes operator p q = goes_as refl refl p.kinds p.at (onto_goes p (applied operator) q)

  pub closed_goes : (types : ℕ) → Goes (step (Table types)) 1 K next old x n mid → Goes (step (Closure (mid.steps - 1))) 1 mid.kinds mid.at x new mid.steps to
      → Goes (then Closure (step (Table types))) 2 K next old new n to
  unfolding onto
  closed_goes types p q = goes_as refl refl p.kinds p.at (onto_goes p (λ _ b. Closure b) q)

pub below_goes : (types : ℕ) {old x y new : List ℕ} {left closed either joined : Place}
    → Goes (then Closure (step (Table types))) 2 left.kinds left.at old x left.steps closed
    → Goes (onto Union (step Itself)) 2 closed.kinds closed.at x y closed.steps either
    → Goes (step (Join (left.steps - 1) (either.steps - 1))) 1 either.kinds either.at y new either.steps joined
    → let K = bit_or left.kinds types in Goes (onto Join (descend types)) 5 K left.at old new left.steps (record { kinds = K; at = joined.at; steps = joined.steps })
unfolding descend then_both onto
below_goes types p q r =
    let s = onto_goes (after_goes p q) Join r in
    record { writes = s.writes; steps = s.steps; kinds = refl; at = s.at ∙ q.at ∙ p.at; same = s.same }

-- room for some of the steps that there is room for
pub room_less : {m n room o from to : ℕ} → StepsFit m room from → to + n ≤ from + m → o ≡ room → StepsFit n o to
room_less r l e = record { few = omega (arith, r.few); fits = omega (arith, r.fits) }
