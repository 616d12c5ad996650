-- A refusal is handed on; else the program is run over the elements that are kept.
use Rattle.fields.proofs.Outcomes.{handed_on}
use Rattle.runner.proofs.Files.{run_away, run_ready, run_on}
use Rattle.runner.proofs.run.Goals as goal

pub returns-in_err-opened : goal.returns-in_err-opened
returns-in_err-opened c = rw (handed_on c.from_residual.result c.from_residual.ensures.1) (run_away _ _ _ _ _ c.in_err-opened.ensures)

pub run_over-requires : goal.run_over-requires
run_over-requires c = run_ready _ _ _ _ _ c.in_ok-opened.ensures

pub returns : goal.returns
returns c = run_on _ _ _ _ _ c.in_ok-opened.ensures _ _ c.run_over.ensures
