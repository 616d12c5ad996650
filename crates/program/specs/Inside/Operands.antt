-- What the maker of an operation asks for.
use Rattle.std.specs.Prelude.{ℕ, ◌<◌, ◌≤◌, length}
use Rattle.meaning.specs.Limits.{words}
use Rattle.rel.specs.declared.Layout.{Layout}
use Rattle.rel.specs.declared.Layout.TheVariants.{Zeros, Single, Pair, Number, Mask}
use Rattle.rel.specs.Rel.{layouts, layout_of}

-- the numbers that x has room for
abbrev pub x_limit : Layout → ℕ
x_limit Zeros = 256
x_limit Single = 256
x_limit Pair = 256
x_limit Number = words
x_limit Mask = words

-- an operation's code, and x as its layout may have it
pub record FitsLayout (code x : ℕ) : Type 0 where
  pub first : 1 ≤ code
  pub last : code ≤ length layouts
  pub x_room : x < x_limit (layout_of code)
