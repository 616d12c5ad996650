-- The first of the two files that is refused ends the call.
use Rattle.fields.proofs.Outcomes.{handed_on}
use Rattle.meaning.specs.Limits.{element_limit}
use Rattle.tre.specs.Tre.{document_file}
use Rattle.elements.proofs.Keeping.{kept_away}
use Rattle.files.proofs.Opening.{graph_away, file_away, document_there}
use Rattle.files.proofs.document.Goals as goal

pub returns-in_err-graph : goal.returns-in_err-graph
returns-in_err-graph c = rw (handed_on c.from_residual.result c.from_residual.ensures.1) (graph_away _ (λ g. document_file element_limit g c.args.tre.now 0) c.in_err-graph.ensures)

pub returns-in_err-read : goal.returns-in_err-read
returns-in_err-read c = rw (handed_on c.from_residual-in_err-read.result c.from_residual-in_err-read.ensures.1) (file_away _ (λ g. document_file element_limit g c.args.tre.now 0) c.in_ok-graph.ensures (kept_away _ _ c.in_err-read.ensures))

pub returns : goal.returns
returns c = document_there _ c.in_ok-graph.ensures c.type_inv.gra _ c.type_inv.tre _ _ c.in_ok-read.ensures
