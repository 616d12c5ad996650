-- The first line, and the others behind it.
use Rattle.std.proofs.Common.{rules}
use Rattle.writing.proofs.Writing.{wrote_then}
use Rattle.text.specs.Listing.{first_line, listing}
use Rattle.text.proofs.write.Goals as goal

pub returns : goal.returns
unfolding listing first_line
returns c = let written = wrote_then c.word_line.ensures c.lines.ensures in search rules
