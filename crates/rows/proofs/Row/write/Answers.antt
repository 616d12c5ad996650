-- Each word is written to its eight bytes, and the second leaves the first as it is.
use Rattle.std.proofs.Common.{rules}
use Rattle.rows.proofs.Words.{row_stored}
use Rattle.rows.proofs.Row.write.Goals as goal

pub returns : goal.returns
returns c = row_stored c.args.self.words (search rules) c.requires c.write_word.ensures c.write_word-2.ensures
