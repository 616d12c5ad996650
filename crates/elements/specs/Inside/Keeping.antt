-- How elements that were read are kept in places that are lent for them.
use Rattle.std.specs.Prelude.{ℕ, ◌≡◌, List, length, take, Result, Ok, Err}
use Rattle.meaning.specs.declared.Element.{Element}
use Rattle.meaning.specs.declared.Refusal.{Refusal}
use Rattle.fields.specs.Read.{Read, got, refused}

-- e was read: its elements are kept from the first place on, and counted; or the refusal was met
abbrev pub Keeps : Read (List Element) → List Element → Result ℕ Refusal → Type 0
Keeps (got es at) kept r = (r ≡ Ok (length es)) × (take (length es) kept ≡ es)
Keeps (refused q) kept r = r ≡ Err q
