-- A tenth of a number that isn't a digit is smaller.
use Rattle.text.proofs.+decimal.Given as goal

abbrev pub decreases-decimal : goal.decreases-decimal
decreases-decimal l = l.n
