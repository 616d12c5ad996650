-- Three letters, then the version.
use Rattle.writing.proofs.Writing.{wrote_then}
use Rattle.writing.proofs.Writer.header.Goals as goal

pub returns : goal.returns
returns c = wrote_then c.bytes.ensures c.word.ensures
