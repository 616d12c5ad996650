-- A program file is turned away with a number from 1 to 10.
use Prim.Native.Nat.{ℕ, zero, suc, ◌≤◌}
use mathlib.Core.List.{List}
use mathlib.Core.Path.{◌≡◌}
use native.Mathlib.Omega.{arith}
use Rattle.meaning.specs.declared.Reason.TheVariants.{Bound, Code, Kind, Operand, Extra}
use Rattle.meaning.specs.declared.Refusal.{Refusal}
use Rattle.meaning.specs.Refused.{number_of}
use Rattle.fields.specs.Read.{refused}
use Rattle.fields.proofs.Reasons.{OfFile, reason_low, of_give, of_bind, of_judged, of_byte, of_word, of_header, of_ended}
use Rattle.rel.specs.declared.Layout.{Layout}
use Rattle.rel.specs.declared.Layout.TheVariants.{Zeros, Single, Pair, Number, Mask}
use Rattle.rel.specs.Rel.{layout_of, unused, operand, read_x, read_y, step_read, steps_read, program, program_file}

of_unused : OfFile unused
of_unused = of_judged Extra (omega arith) _ of_byte

of_operand : (s : ℕ) → OfFile (operand s)
of_operand s = of_judged Operand (omega arith) _ of_byte

of_x : (k s : ℕ) (l : Layout) → OfFile (read_x k s l)
of_x k s Zeros = of_unused
of_x k s Single = of_operand s
of_x k s Pair = of_operand s
of_x k s Number = of_word
of_x k s Mask = of_judged Kind (omega arith) _ of_word

of_y : (s : ℕ) (l : Layout) → OfFile (read_y s l)
of_y s Zeros = of_unused
of_y s Single = of_unused
of_y s Pair = of_operand s
of_y s Number = of_give
of_y s Mask = of_give

of_step : (k s : ℕ) → OfFile (step_read k s)
unfolding step_read
of_step k s = of_bind (of_judged Code (omega arith) _ of_byte) λ code. of_bind (of_x k s (layout_of code)) λ x. of_bind (of_y s (layout_of code)) λ y. of_give

of_steps : (k s n : ℕ) → OfFile (steps_read k s n)
unfolding steps_read
of_steps k s zero = of_give
of_steps k s (suc n) = of_bind (of_step k s) λ o. of_bind (of_steps k (suc s) n) λ os. of_give

of_program : (k : ℕ) → OfFile (program k)
unfolding program
of_program k = of_bind (of_header 0x52 0x45 0x4C 1) λ _. of_bind (of_judged Bound (omega arith) _ of_byte) λ n. of_steps k 0 n

pub program_reason : (k : ℕ) (s : List ℕ) {r : Refusal} → program_file k s 0 ≡ refused r → number_of r.reason ≤ 10
unfolding program_file
program_reason k s h = reason_low (of_ended (of_program k)) s h
