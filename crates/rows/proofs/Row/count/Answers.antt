-- The bits of both words are counted.
use Rattle.std.proofs.Common.{refl, zero-add}
use Rattle.meaning.specs.Sets.{listed}
use Rattle.rows.proofs.Tallies.{count_more}
use Rattle.rows.proofs.Row.count.Goals as goal

pub returns : goal.returns
unfolding listed
returns c = count_more _ 1 (rw zero-add at (count_more c.args.self.words 0 {n = 0} refl c.ones.ensures.0)) c.ones-2.ensures.0
