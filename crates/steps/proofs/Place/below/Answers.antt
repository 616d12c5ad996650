-- The steps that // puts between its parts are those of the translation.
use borrow.Author.Rules.{rules}
use Rattle.steps.proofs.Laws.{below_goes}
use Rattle.steps.proofs.Place.below.Goals as goal

pub returns : goal.returns
returns c = search (below_goes, rules)
