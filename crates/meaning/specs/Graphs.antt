-- Kinds, and the graph of which kind may be a child of which.
use Rattle.std.specs.Prelude.{ℕ, ◌<◌, ◌≤◌, ◌≡◌, Bool, true, ◌||◌, cond, eqb, get_or, length}
use Rattle.meaning.specs.declared.Graph.{Graph}
use Rattle.meaning.specs.Limits.{types, document, kinds}
use Rattle.meaning.specs.Sets.{bit}
use Rattle.meaning.specs.Relations.{Relation, closure}

pub record LegalGraph (g : Graph) : Type 0 where
  pub some_type : 1 ≤ g.k
  pub most_types : g.k ≤ types
  pub root_type : g.root < g.k
  pub masks : length g.children ≡ types
  pub edges : (A B : ℕ) → bit (get_or g.children A 0) B ≡ true → (A < g.k) × (B < g.k)

-- B may stand under A; under the document node that is the root type alone
unfoldable pub child_kind : Graph → Relation
child_kind g A B = cond (eqb A document) (eqb B g.root) (bit (get_or g.children A 0) B)

-- B is reachable from A by one or more edges
unfoldable pub reachable : Graph → Relation
reachable g = closure kinds (child_kind g)

-- 16, the root type, or reachable from the root type
unfoldable pub live : Graph → ℕ → Bool
live g A = eqb A document || (eqb A g.root || reachable g g.root A)
