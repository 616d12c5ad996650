-- A refusal is answered; else what is announced of the program.
use Rattle.std.proofs.Common.{◌∙◌}
use Rattle.announce.proofs.Checking.{check_away, check_all, check_legal}
use Rattle.announce.proofs.check.Goals as goal

pub announce-requires : goal.announce-requires
announce-requires c = check_legal _ _ _ c.in-Ok.ensures

pub returns-in-Ok : goal.returns-in-Ok
returns-in-Ok c = check_all _ _ _ c.in-Ok.ensures c.announce.ensures

pub returns-in-Err : goal.returns-in-Err
returns-in-Err c = c.refused.ensures ∙ check_away _ _ c.in-Err.ensures
