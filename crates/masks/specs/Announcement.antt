-- The announcement of a program: every step has 17 sets of kinds, one per kind.
use Rattle.std.specs.Prelude.{◌-◌, List, ◌++◌, map, length, get_or, replicate}
use Rattle.meaning.specs.declared.Graph.{Graph}
use Rattle.meaning.specs.declared.Operation.{Operation}
use Rattle.meaning.specs.Limits.{kinds, step_limit}
use Rattle.meaning.specs.Sets.{bit, mask}
use Rattle.meaning.specs.Lists.{table}
use Rattle.meaning.specs.Relations.{Relation, nothing}
use Rattle.meaning.specs.Announcements.{announced}
use Rattle.masks.specs.declared.Announced.{Announced}

-- for each kind A, the set of the kinds B with (A, B) in the relation
unfoldable pub announced_sets : Relation → Announced
announced_sets r = record { pairs = table (λ A. mask kinds (λ B. r A B)) 0 kinds }

-- steps past the end have empty sets
unfoldable pub announcement : Graph → List Operation → List Announced
announcement g os = map announced_sets (announced g os) ++ replicate (step_limit - length os) (announced_sets nothing)

-- (A, B) is announced when mask A has bit B
unfoldable pub rel_of : Announced → Relation
rel_of a A B = bit (get_or a.pairs A 0) B
