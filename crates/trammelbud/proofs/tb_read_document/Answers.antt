-- The document counts its elements.
use Rattle.std.proofs.Common.{rules, ◌∙◌, length}
use Rattle.trammelbud.specs.Calls.{read_document}
use Rattle.trammelbud.proofs.Counts.{counted, elements_whole}
use Rattle.trammelbud.proofs.tb_read_document.Goals as goal

pub returns : goal.returns
unfolding read_document
returns c = c.answer.ensures ∙ counted _ (λ x. length x.1) _ c.document.ensures _ c.map.ensures.cases (λ v a n w q. let counts = elements_whole w in search rules)
