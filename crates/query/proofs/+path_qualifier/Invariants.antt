-- At each call fewer nodes are allowed.
use Rattle.query.proofs.+path_qualifier.Given as goal

abbrev pub decreases-path : goal.decreases-path
decreases-path l = l.left

abbrev pub decreases-qualifier : goal.decreases-qualifier
decreases-qualifier l = l.left
