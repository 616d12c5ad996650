-- The number, and the byte behind it.
use Rattle.writing.proofs.Writing.{wrote_then}
use Rattle.text.proofs.field.Goals as goal

pub returns : goal.returns
returns c = wrote_then c.decimal.ensures c.byte.ensures
