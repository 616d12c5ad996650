-- At each call fewer bytes of the query are left.
use Rattle.std.proofs.Common.{◌-◌, length}
use Rattle.descent.proofs.+part.Given as goal

abbrev pub decreases-part : goal.decreases-part
decreases-part l = length l.qry.now - l.from.at
