-- The query counts its nodes.
use Rattle.std.proofs.Common.{rules, ◌∙◌, ◌-◌}
use Rattle.meaning.specs.Limits.{query_limit}
use Rattle.trammelbud.specs.Calls.{read_query}
use Rattle.trammelbud.proofs.Counts.{counted}
use Rattle.trammelbud.proofs.tb_read_query.Goals as goal

pub returns : goal.returns
unfolding read_query
returns c = c.answer.ensures ∙ counted _ (λ x. query_limit - x.1.1) _ c.query.ensures _ c.map.ensures.cases (λ v a n w q. let counts = w.counts in search rules)
