-- Each number below v is in where its row has a first number.
use Rattle.meaning.specs.Limits.{small, row_bits}
use Rattle.rows.specs.Inside.Rows.{Bits, rows_at}
use Rattle.rooms.specs.Inside.Rooms.{starting}
use Rattle.rooms.proofs.room.Room.starts.Given as goal

abbrev pub invariant-loop-v : goal.invariant-loop-v
invariant-loop-v l = Bits l.all.words (starting (row_bits small.row) l.v (rows_at small.row l.work l.self.base))
