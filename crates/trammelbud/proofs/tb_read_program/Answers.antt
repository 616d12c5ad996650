-- The program counts its steps.
use Rattle.std.proofs.Common.{rules, ◌∙◌, length}
use Rattle.trammelbud.specs.Calls.{read_program}
use Rattle.trammelbud.proofs.Counts.{counted, steps_whole}
use Rattle.trammelbud.proofs.tb_read_program.Goals as goal

pub returns : goal.returns
unfolding read_program
returns c = c.answer.ensures ∙ counted _ (λ x. length x.1) _ c.program.ensures _ c.map.ensures.cases (λ v a n w q. let counts = steps_whole w in search rules)
