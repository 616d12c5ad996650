-- The table of codes: what each row says of the part that begins with its code.
use Prim.Native.Nat.{ℕ, ◌+◌, ◌*◌, ◌/◌, ◌%◌}
use mathlib.Core.Path.{◌≡◌, refl, ap}
use mathlib.Core.List.{List, ◌∷◌, ◌++◌}
use native.Mathlib.Omega.{arith}
use lib.ListN.{length}
use Rattle.meaning.specs.declared.Graph.{Graph}
use Rattle.meaning.specs.declared.Operation.TheVariants.{Text}
use Rattle.meaning.specs.Queries.{self, child, any_child, slash, slashes, union, filter, reached, text_is, is_not, both, either, path_count, qualifier_count, LegalPath, LegalQualifier}
use Rattle.meaning.specs.Translation as translation
use Rattle.meaning.specs.Translation.{step, then, then_both}
use Rattle.query.specs.Qry.{path_bytes, qualifier_bytes}
use Rattle.steps.specs.declared.Operator.{Operator}
use Rattle.steps.specs.Inside.Writes.{applied, onto}
use Rattle.descent.specs.declared.rows.Leaf.{Leaf}
use Rattle.descent.specs.declared.rows.Ending.{Ending}
use Rattle.descent.specs.declared.rows.Second.{Second}
use Rattle.descent.specs.declared.rows.Row.{Row}
use Rattle.descent.specs.Inside.Rows.{row_of, leaf_end, leaf_kinds, leaf_step, Typed, ending_steps, ending_count, between_steps, between_count, second_kinds, led}
use Rattle.descent.specs.Inside.Dues.{Part, path, qualifier, bytes_of, adds, weight, kinds_behind}

-- no part: its fields are all that follows
pub record Alone (leaf : Leaf) (g : Graph) (p : Part g.k) (more : List ℕ) : Type 0 where
  pub ends : (at : ℕ) → leaf_end leaf at ≡ at + length more
  pub type : (rest : List ℕ) → Typed leaf g.k (more ++ rest)
  pub counts : weight p ≡ 1
  pub made : (C : ℕ) (rest : List ℕ) → adds g C p ≡ step (leaf_step leaf g (more ++ rest) C)
  pub leads : (C : ℕ) (rest : List ℕ) → kinds_behind g C p ≡ leaf_kinds leaf g (more ++ rest) C

-- one
pub record One (ending : Ending) (g : Graph) (p : Part g.k) (more : List ℕ) : Type 0 where
  pub inner : Part g.k
  pub bytes : more ≡ bytes_of inner
  pub counts : weight p ≡ weight inner + ending_count ending
  pub made : (C : ℕ) → adds g C p ≡ λ os. ending_steps ending (adds g C inner os)
  pub leads : (C : ℕ) → kinds_behind g C p ≡ C

-- two
pub record Two (second : Second) (operator : Operator) (g : Graph) (p : Part g.k) (more : List ℕ) : Type 0 where
  pub left : Part g.k
  pub right : Part g.k
  pub bytes : more ≡ bytes_of left ++ bytes_of right
  pub counts : weight p ≡ weight left + between_count second + weight right + 1
  pub made : (C : ℕ) → let K = kinds_behind g C left in adds g C p ≡ λ os. onto (applied operator) (adds g (second_kinds second g C K) right) (between_steps second g K (adds g C left os))
  pub leads : (C : ℕ) → let K = kinds_behind g C left in kinds_behind g C p ≡ led second K (kinds_behind g (second_kinds second g C K) right)

abbrev pub Fact : Row → (g : Graph) → Part g.k → List ℕ → Type 0
Fact (Row.Leaf leaf) g p more = Alone leaf g p more
Fact (Row.One ending) g p more = One ending g p more
Fact (Row.Two second operator) g p more = Two second operator g p more

-- a part begins with its code, and what follows is as the row says
pub record Coded (g : Graph) (p : Part g.k) : Type 0 where
  pub code : ℕ
  pub more : List ℕ
  pub bytes : bytes_of p ≡ code ∷ more
  pub fact : Fact (row_of code) g p more

row : {g : Graph} {p : Part g.k} (code : ℕ) {more : List ℕ} → bytes_of p ≡ code ∷ more → Fact (row_of code) g p more → Coded g p
row code {more} e f = record { code = code; more = more; bytes = e; fact = f }

pub part_coded : (g : Graph) (p : Part g.k) → Coded g p
unfolding row_of path_bytes qualifier_bytes path_count qualifier_count LegalPath LegalQualifier translation.path translation.qualifier translation.out then then_both onto
part_coded g (path self h) = row 0x01 refl (record { ends = omega arith; type = λ _. tt; counts = refl; made = λ _ _. refl; leads = λ _ _. refl })
part_coded g (path (child t) h) = row 0x02 refl (record { ends = omega arith; type = λ _. h; counts = refl; made = λ _ _. refl; leads = λ _ _. refl })
part_coded g (path any_child h) = row 0x03 refl (record { ends = omega arith; type = λ _. tt; counts = refl; made = λ _ _. refl; leads = λ _ _. refl })
part_coded g (path (slash p q) h) = row 0x04 refl (record { left = path p h.0; right = path q h.1; bytes = refl; counts = omega arith; made = λ _. refl; leads = λ _. refl })
part_coded g (path (slashes p q) h) = row 0x05 refl (record { left = path p h.0; right = path q h.1; bytes = refl; counts = omega arith; made = λ _. refl; leads = λ _. refl })
part_coded g (path (union p q) h) = row 0x06 refl (record { left = path p h.0; right = path q h.1; bytes = refl; counts = omega arith; made = λ _. refl; leads = λ _. refl })
part_coded g (path (filter p q) h) = row 0x07 refl (record { left = path p h.0; right = qualifier q h.1; bytes = refl; counts = omega arith; made = λ _. refl; leads = λ _. refl })
part_coded g (qualifier (reached p) h) = row 0x11 refl (record { inner = path p h; bytes = refl; counts = omega arith; made = λ _. refl; leads = λ _. refl })
part_coded g (qualifier (text_is v) h) =
    let word : v ≡ v / 256 * 256 + v % 256 = omega arith in
    row 0x12 refl (record { ends = omega arith; type = λ _. tt; counts = refl; made = λ _ _. ap (λ n. step (Text n)) word; leads = λ _ _. refl })
part_coded g (qualifier (is_not q) h) = row 0x13 refl (record { inner = qualifier q h; bytes = refl; counts = omega arith; made = λ _. refl; leads = λ _. refl })
part_coded g (qualifier (both q r) h) = row 0x14 refl (record { left = qualifier q h.0; right = qualifier r h.1; bytes = refl; counts = omega arith; made = λ _. refl; leads = λ _. refl })
part_coded g (qualifier (either q r) h) = row 0x15 refl (record { left = qualifier q h.0; right = qualifier r h.1; bytes = refl; counts = omega arith; made = λ _. refl; leads = λ _. refl })
