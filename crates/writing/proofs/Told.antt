-- A refusal is told by the number of its answer, which is never 0.
use Rattle.std.proofs.Common.{ℕ, ◌≡◌, refl, sym, ap, ◌∙◌, arith, cond, eqb}
use Rattle.meaning.specs.declared.Reason.{Reason}
use Rattle.meaning.specs.declared.Reason.TheVariants.{Ended, Mark, Version, Bound, Code, Kind, Edge, Number, Operand, Extra, Steps, Room}
use Rattle.meaning.specs.Refused.{number_of}

abbrev reason_of : ℕ → Reason
reason_of n =
    cond (eqb n 1) Ended
    (cond (eqb n 2) Mark
    (cond (eqb n 3) Version
    (cond (eqb n 4) Bound
    (cond (eqb n 5) Code
    (cond (eqb n 6) Kind
    (cond (eqb n 7) Edge
    (cond (eqb n 8) Number
    (cond (eqb n 9) Operand
    (cond (eqb n 10) Extra
    (cond (eqb n 11) Steps Room))))))))))

told : (r : Reason) → reason_of (number_of r) ≡ r
told Ended = refl
told Mark = refl
told Version = refl
told Bound = refl
told Code = refl
told Kind = refl
told Edge = refl
told Number = refl
told Operand = refl
told Extra = refl
told Steps = refl
told Room = refl

pub same_number : (a b : Reason) → number_of a ≡ number_of b → a ≡ b
same_number a b e = sym (told a) ∙ ap reason_of e ∙ told b

pub some_number : (r : Reason) → number_of r ≡ 0 → ⊥
some_number Ended e = omega (arith, e)
some_number Mark e = omega (arith, e)
some_number Version e = omega (arith, e)
some_number Bound e = omega (arith, e)
some_number Code e = omega (arith, e)
some_number Kind e = omega (arith, e)
some_number Edge e = omega (arith, e)
some_number Number e = omega (arith, e)
some_number Operand e = omega (arith, e)
some_number Extra e = omega (arith, e)
some_number Steps e = omega (arith, e)
some_number Room e = omega (arith, e)
