-- A shift leaves nothing of a mask exactly where it has no bit of k or more.
use Rattle.fields.proofs.Laws.{laws, shifted_out}
use Rattle.fields.proofs.within.Goals as goal

pub returns-then-k-ge16 : goal.returns-then-k-ge16
returns-then-k-ge16 c = search laws

pub returns-else-k-ge16 : goal.returns-else-k-ge16
returns-else-k-ge16 c = shifted_out _ _
