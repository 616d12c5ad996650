-- The reason's number, and no pairs at any step.
use Rattle.announce.proofs.Checking.{answers}
use Rattle.announce.proofs.refused.Goals as goal

pub returns : goal.returns
returns c = search answers
