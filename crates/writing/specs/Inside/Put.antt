-- What a call that writes from a place of a buffer on leaves there, and where it ends.
use Rattle.std.specs.Prelude.{ℕ, ◌+◌, ◌≡◌, List, length}
use Rattle.writing.specs.Lent.{over}

-- the bytes stand at the place, all others stay, and writing goes on behind them
pub record Put (at : ℕ) (bytes old new : List ℕ) (next : ℕ) : Type 0 where
  pub there : new ≡ over at bytes old
  pub behind : next ≡ at + length bytes
