-- The program file: how many steps there are, and the steps, each the code of an operation and two bytes more, x and y.
use Rattle.std.specs.Prelude.{ℕ, zero, suc, ◌-◌, List, [], ◌∷◌, ◌++◌, get_or, length}
use Rattle.meaning.specs.declared.Operation.{Operation}
use Rattle.meaning.specs.declared.Operation.TheVariants.{Table, Itself, Text, Join, Union, Closure, Has, Diff, Both}
use Rattle.meaning.specs.declared.Reason.TheVariants.{Bound, Code, Operand, Extra}
use Rattle.meaning.specs.Limits.{step_limit}
use Rattle.fields.specs.Read.{Reader, ◌>>=◌, ◌>>◌, give, byte_below, byte_up_to, mask_below, word, header, ended}
use Rattle.fields.specs.Write.{byte_of, word_of, header_of}
use Rattle.rel.specs.declared.Layout.{Layout}
use Rattle.rel.specs.declared.Layout.TheVariants.{Zeros, Single, Pair, Number, Mask}

-- the layouts of the operations, by their codes
abbrev pub layouts : List Layout
layouts = Mask ∷ Zeros ∷ Number ∷ Pair ∷ Pair ∷ Single ∷ Single ∷ Pair ∷ Pair ∷ []

abbrev pub layout_of : ℕ → Layout
layout_of code = get_or layouts (code - 1) Zeros

-- an unused byte is 0
abbrev pub unused : Reader ℕ
unused = byte_below 1 Extra

-- an operand of step s is an earlier step
abbrev pub operand : ℕ → Reader ℕ
operand s = byte_below s Operand

-- x of step s; a number or a mask fills y too
abbrev pub read_x : ℕ → ℕ → Layout → Reader ℕ
read_x k s Zeros = unused
read_x k s Single = operand s
read_x k s Pair = operand s
read_x k s Number = word
read_x k s Mask = mask_below k

abbrev pub read_y : ℕ → Layout → Reader ℕ
read_y s Zeros = unused
read_y s Single = unused
read_y s Pair = operand s
read_y s Number = give 0
read_y s Mask = give 0

-- the operations of x and y, by their codes
abbrev pub operations : ℕ → ℕ → List Operation
operations x y = Table x ∷ Itself ∷ Text x ∷ Join x y ∷ Union x y ∷ Closure x ∷ Has x ∷ Diff x y ∷ Both x y ∷ []

abbrev pub operation_of : ℕ → ℕ → ℕ → Operation
operation_of code x y = get_or (operations x y) (code - 1) Itself

-- step s of a program
unfoldable pub step_read : ℕ → ℕ → Reader Operation
step_read k s = do
  code ← byte_up_to (length layouts) Code
  x ← read_x k s (layout_of code)
  y ← read_y s (layout_of code)
  give (operation_of code x y)

-- n steps, from step s on
unfoldable pub steps_read : ℕ → ℕ → ℕ → Reader (List Operation)
steps_read k s zero = give []
steps_read k s (suc n) = do
  o ← step_read k s
  os ← steps_read k (suc s) n
  give (o ∷ os)

unfoldable pub program : ℕ → Reader (List Operation)
program k = do
  header 0x52 0x45 0x4C 1
  n ← byte_up_to step_limit Bound
  steps_read k 0 n

unfoldable pub program_file : ℕ → Reader (List Operation)
program_file k = ended (program k)

-- the number n, or the operands a and b, as the layout has them
abbrev pub laid : Layout → ℕ → ℕ → ℕ → List ℕ
laid Zeros n a b = byte_of 0 ++ byte_of 0
laid Single n a b = byte_of a ++ byte_of 0
laid Pair n a b = byte_of a ++ byte_of b
laid Number n a b = word_of n
laid Mask n a b = word_of n

-- a step: its code, and the number or the operands
unfoldable pub coded : ℕ → ℕ → ℕ → ℕ → List ℕ
coded code n a b = byte_of code ++ laid (layout_of code) n a b

abbrev pub step_bytes : Operation → List ℕ
step_bytes (Table m) = coded 1 m 0 0
step_bytes Itself = coded 2 0 0 0
step_bytes (Text t) = coded 3 t 0 0
step_bytes (Join a b) = coded 4 0 a b
step_bytes (Union a b) = coded 5 0 a b
step_bytes (Closure a) = coded 6 0 a 0
step_bytes (Has a) = coded 7 0 a 0
step_bytes (Diff a b) = coded 8 0 a b
step_bytes (Both a b) = coded 9 0 a b

unfoldable pub steps_bytes : List Operation → List ℕ
steps_bytes [] = []
steps_bytes (o ∷ os) = step_bytes o ++ steps_bytes os

-- the file of a program
unfoldable pub program_bytes : List Operation → List ℕ
program_bytes os = header_of 0x52 0x45 0x4C 1 ++ byte_of (length os) ++ steps_bytes os
