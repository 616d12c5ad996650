-- The word, and its number behind it.
use Rattle.writing.proofs.Writing.{wrote_then}
use Rattle.text.proofs.word_line.Goals as goal

pub returns : goal.returns
returns c = wrote_then c.bytes.ensures c.field.ensures
