-- A test of each number is the definition's, which counts from the other end.
use Rattle.std.proofs.Common.{rules}
use Rattle.tables.proofs.Elements.{ones_where}
use Rattle.tables.proofs.each_once.Goals as goal

pub returns : goal.returns
returns c = ones_where _ c.args.times.now (search rules)
