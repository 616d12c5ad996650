-- The header, and the number behind it.
use Rattle.std.proofs.Common.{rules}
use Rattle.writing.proofs.Writing.{wrote_then}
use Rattle.translator.proofs.write_head.Goals as goal

pub returns : goal.returns
returns c = let p = wrote_then c.header.ensures c.byte.ensures in search rules
