-- The graph counts its types.
use Rattle.std.proofs.Common.{rules, ◌∙◌}
use Rattle.trammelbud.specs.Calls.{read_graph}
use Rattle.trammelbud.proofs.Counts.{counted, graph_opens}
use Rattle.trammelbud.proofs.tb_read_graph.Goals as goal

pub returns : goal.returns
unfolding read_graph
returns c = c.answer.ensures ∙ counted _ (λ g. g.k) _ (graph_opens _ _ c.read.ensures) _ c.map.ensures.cases (λ v a n w q. search rules)
