-- The listing of the example's query C5 (docs/RULES.md), computed from the definitions; node 0's line; and a refusal.
use Prim.Native.Nat.{ℕ}
use mathlib.Core.Path.{◌≡◌, refl}
use mathlib.Core.List.{List, [], ◌∷◌, ◌++◌}
use Rattle.meaning.specs.declared.Element.{Element}
use Rattle.meaning.specs.Documents.{node, view}
use Rattle.text.specs.Listing.{digits, decimal, first_line, line, lines, listing, refusal}

element : ℕ → ℕ → ℕ → Element
element p t x = record { parent = p; kind = t; text = x }

elements : List Element
elements = element 0 0 0 ∷ element 1 1 0 ∷ element 2 1 0 ∷ element 3 2 7 ∷ element 4 3 9 ∷ element 5 2 8 ∷ element 2 2 7 ∷ element 1 1 0 ∷ []

-- `selected 3`, `4 2 7`, `6 2 8`, `7 2 7`
for_c5 : listing (view elements) (4 ∷ 6 ∷ 7 ∷ [])
    ≡ (115 ∷ 101 ∷ 108 ∷ 101 ∷ 99 ∷ 116 ∷ 101 ∷ 100 ∷ 32 ∷ 51 ∷ 10 ∷ [])
    ++ (52 ∷ 32 ∷ 50 ∷ 32 ∷ 55 ∷ 10 ∷ [])
    ++ (54 ∷ 32 ∷ 50 ∷ 32 ∷ 56 ∷ 10 ∷ [])
    ++ (55 ∷ 32 ∷ 50 ∷ 32 ∷ 55 ∷ 10 ∷ [])
unfolding element elements node view digits decimal first_line line lines listing
for_c5 = refl

-- `0 16 0`
for_node_0 : line (view elements) 0 ≡ 48 ∷ 32 ∷ 49 ∷ 54 ∷ 32 ∷ 48 ∷ 10 ∷ []
unfolding element elements node view digits decimal line
for_node_0 = refl

-- `refused 12`
for_room : refusal 12 ≡ (114 ∷ 101 ∷ 102 ∷ 117 ∷ 115 ∷ 101 ∷ 100 ∷ 32 ∷ 49 ∷ 50 ∷ 10 ∷ [])
unfolding digits decimal refusal
for_room = refl
