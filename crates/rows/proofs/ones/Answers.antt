-- The ones of a word are its bits that are set.
use lib.Count.{ones-le}
use Rattle.rows.proofs.Tallies.{ones_tally}
use Rattle.rows.proofs.ones.Goals as goal

pub returns : goal.returns
returns c = (ones_tally 64 c.args.word c.ranges.word.fits, ones-le 64 c.args.word c.ranges.word.fits)
