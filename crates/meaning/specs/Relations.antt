-- Relations: sets of rows (v, w), over the nodes of a document or over kinds.
use Rattle.std.specs.Prelude.{ℕ, zero, suc, ◌≡◌, Bool, true, false, not, ◌&&◌, ◌||◌, List, eqb, get_or}
use Rattle.meaning.specs.Sets.{any}

abbrev pub Relation : Type 0
Relation = ℕ → ℕ → Bool

-- no row
abbrev pub nothing : Relation
nothing v w = false

-- some u below n with (v, u) in r and (u, w) in s
unfoldable pub join : ℕ → Relation → Relation → Relation
join n r s v w = any n (λ u. r v u && s u w)

unfoldable pub unite : Relation → Relation → Relation
unite r s v w = r v w || s v w

-- (v, v) where r has a row from v
unfoldable pub has : ℕ → Relation → Relation
has n r v w = eqb v w && any n (λ u. r v u)

unfoldable pub difference : Relation → Relation → Relation
difference r s v w = r v w && not (s v w)

unfoldable pub intersection : Relation → Relation → Relation
intersection r s v w = r v w && s v w

-- one or more steps of r lead from v to w
pub data OneOrMore (r : Relation) (v : ℕ) : ℕ → Type 0 where
  one : {w : ℕ} → r v w ≡ true → OneOrMore r v w
  more : {u w : ℕ} → OneOrMore r v u → r u w ≡ true → OneOrMore r v w

-- one to k steps of r lead from v to w, through numbers below n
unfoldable pub within : ℕ → ℕ → Relation → Relation
within zero n r v w = false
within (suc k) n r v w = r v w || any n (λ u. r u w && within k n r v u)

-- one or more steps, computed: among n numbers, n steps are enough
unfoldable pub closure : ℕ → Relation → Relation
closure n r = within n n r

-- result s of a list of results; past the end there are no rows
abbrev pub at : List Relation → ℕ → Relation
at results s = get_or results s nothing
