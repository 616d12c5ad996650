-- The file of a program: how long it is, and that it is bytes.
use Prim.Native.Nat.{ℕ, suc, ◌+◌, ◌*◌, ◌≤◌, ◌<◌, ◌^◌}
use mathlib.Core.Path.{◌≡◌, refl}
use mathlib.Core.List.{List, [], ◌∷◌, ◌++◌}
use native.Mathlib.Omega.{arith}
use lib.Pow.{pow_mono}
use lib.ListN.{length, length-append}
use Rattle.meaning.specs.declared.Operation.{Operation}
use Rattle.meaning.specs.declared.Operation.TheVariants.{Table, Itself, Text, Join, Union, Closure, Has, Diff, Both}
use Rattle.meaning.specs.Limits.{types, step_limit}
use Rattle.meaning.specs.Operations.{LegalProgram}
use Rattle.fields.specs.Write.{Bytes, byte_of, header_of}
use Rattle.fields.proofs.Bytes.{bytes_more, bytes_none, bytes_append, bytes_byte, bytes_word, bytes_header}
use Rattle.rel.specs.declared.Layout.{Layout}
use Rattle.rel.specs.declared.Layout.TheVariants.{Zeros, Single, Pair, Number, Mask}
use Rattle.rel.specs.Rel.{layouts, layout_of, laid, coded, step_bytes, steps_bytes, program_bytes}
use Rattle.rel.proofs.File.{Fit, Known, Legal, range_out, by_row, legal_first, legal_rest, all_legal}

pub step_length : (o : Operation) → length (step_bytes o) ≡ 3
unfolding coded
step_length (Table m) = refl
step_length Itself = refl
step_length (Text c) = refl
step_length (Join a b) = refl
step_length (Union a b) = refl
step_length (Closure a) = refl
step_length (Has a) = refl
step_length (Diff a b) = refl
step_length (Both a b) = refl

pub steps_length : (os : List Operation) → length (steps_bytes os) ≡ 3 * length os
unfolding steps_bytes
steps_length [] = refl
steps_length (o ∷ os) = omega (arith, length-append (step_bytes o) (steps_bytes os), step_length o, steps_length os)

pub program_length : (os : List Operation) → length (program_bytes os) ≡ 6 + 3 * length os
unfolding program_bytes
program_length os = omega (arith, length-append (header_of 0x52 0x45 0x4C 1 ++ byte_of (length os)) (steps_bytes os), steps_length os)

two : {x y : ℕ} → x < 256 → y < 256 → Bytes (byte_of x ++ byte_of y)
two {x} {y} l m = bytes_more x (byte_of y) l (bytes_byte y m)

-- operands are below a step's number, which is a byte
module _ (k s : ℕ) (l : k ≤ types) (b : s ≤ 256) (x y : ℕ) where
  laid_bytes : (l : Layout) → Fit k s l x y → Bytes (laid l x x y)
  laid_bytes Zeros h = two (omega arith) (omega arith)
  laid_bytes Single h = two (omega arith) (omega arith)
  laid_bytes Pair h = two (omega arith) (omega arith)
  laid_bytes Number h = bytes_word x h.0
  laid_bytes Mask h = let room : 2 ^ k ≤ 2 ^ types = pow_mono l in bytes_word x (omega arith)

  coded_bytes : (code : ℕ) → Known code → Fit k s (layout_of code) x y → Bytes (coded code x x y)
  unfolding coded
  coded_bytes code t i = let r = range_out code (length layouts) t in bytes_more code (laid (layout_of code) x x y) (omega arith) (laid_bytes (layout_of code) i)

steps_bytes_lem : (k s : ℕ) → k ≤ types → (os : List Operation) → s + length os ≤ 256 → Legal k s os → Bytes (steps_bytes os)
unfolding steps_bytes
steps_bytes_lem k s l [] b h = bytes_none
steps_bytes_lem k s l (o ∷ os) b h =
    bytes_append (step_bytes o) (steps_bytes os)
    (by_row k s (λ _ e. Bytes e) (λ code x y. coded_bytes k s l (omega arith) x y code) o (legal_first k s o os h))
    (steps_bytes_lem k (suc s) l os (omega arith) (legal_rest k s o os h))

pub program_bytes_lem : {k : ℕ} {os : List Operation} → k ≤ types → LegalProgram step_limit k os → Bytes (program_bytes os)
unfolding program_bytes
program_bytes_lem {k} {os} l legal =
    let few = legal.most_steps in
    bytes_append (header_of 0x52 0x45 0x4C 1 ++ byte_of (length os)) (steps_bytes os)
    (bytes_append (header_of 0x52 0x45 0x4C 1) (byte_of (length os)) (bytes_header 0x52 0x45 0x4C 1 (omega arith) (omega arith) (omega arith) (omega arith)) (bytes_byte (length os) (omega arith)))
    (steps_bytes_lem k 0 l os (omega arith) (all_legal legal))
