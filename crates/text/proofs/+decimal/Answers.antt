-- A digit alone, or the digits of a tenth and the last one behind them.
use Rattle.text.proofs.Numbers.{laws}
use Rattle.text.proofs.+decimal.Goals.{then-n-ge10, else-n-ge10}
use Rattle.text.proofs.+decimal.Goals as goal

pub returns : goal.returns
returns t c =
    elim c.if-n-ge10.branch [
      | then-n-ge10 w ↦ let wrote = rw w.w-is at c.byte.ensures in search laws
      | else-n-ge10 w ↦ let wrote = rw w.w-is at c.byte.ensures in search laws
    ]
