-- What a writer does by writing bytes.
use Rattle.std.specs.Prelude.{ℕ, ◌+◌, ◌≡◌, List, length}
use Rattle.writing.specs.Lent.{over}
use Rattle.writing.specs.declared.Writer.{Writer}

-- the bytes stand where the writer was, all others stay, and it goes on behind them in the same buffer
pub record Wrote (bytes : List ℕ) (old new : Writer) : Type 0 where
  pub there : new.out.now ≡ over old.at bytes old.out.now
  pub behind : new.at ≡ old.at + length bytes
  pub long : length new.out.now ≡ length old.out.now
  pub same : new.out.ghost_name ≡ old.out.ghost_name
