-- The worked example of docs/RULES.md: one document, fourteen queries, computed from the definitions.
use Prim.Native.Nat.{ℕ, zero, suc}
use mathlib.Core.Path.{◌≡◌, refl}
use mathlib.Core.List.{List, [], ◌∷◌, map}
use Rattle.meaning.specs.declared.Graph.{Graph}
use Rattle.meaning.specs.declared.Element.{Element}
use Rattle.meaning.specs.declared.Operation.TheVariants.{Table, Itself, Join, Union, Closure}
use Rattle.meaning.specs.Sets.{any, listed, bit, mask}
use Rattle.meaning.specs.Relations.{join, unite, has, difference, intersection, within, closure, at}
use Rattle.meaning.specs.Graphs.{child_kind, reachable, live}
use Rattle.meaning.specs.Documents.{View, some, is_element, is_parent, above, below, is_text, text_test, node, view}
use Rattle.meaning.specs.Queries.{XPath, self, child, any_child, slash, slashes, union, filter, reached, text_is, is_not, both, either, or_below, reaches, holds, selected, path_count, query_nodes}
use Rattle.meaning.specs.Operations.{last, rows, results, run, answer}
use Rattle.meaning.specs.Announcements.{pairs, announced}
use Rattle.meaning.specs.Translation.{image, only, together, or_reachable, out, step, then, then_both, descend, path, translated, step_count}

-- 0 archive, 1 group, 2 station, 3 remark: groups nest and hold stations, a station has remarks, and a remark stations
graph : Graph
graph = record { k = 4; root = 0; children = 2 ∷ 6 ∷ 8 ∷ 4 ∷ 0 ∷ 0 ∷ 0 ∷ 0 ∷ 0 ∷ 0 ∷ 0 ∷ 0 ∷ 0 ∷ 0 ∷ 0 ∷ 0 ∷ [] }

element : ℕ → ℕ → ℕ → Element
element p t x = record { parent = p; kind = t; text = x }

document : View
unfolding element
document =
    view (element 0 0 0 ∷ element 1 1 0 ∷ element 2 1 0 ∷ element 3 2 7 ∷ element 4 3 9 ∷ element 5 2 8 ∷ element 2 2 7 ∷ element 1 1 0 ∷ [])

abbrev archive : XPath
archive = child 0

abbrev group : XPath
group = child 1

abbrev station : XPath
station = child 2

abbrev remark : XPath
remark = child 3

-- A query; what it selects; what its program, run, answers; the kinds announced from 16 for the last step.
record Row : Type 0 where
  query : XPath
  selects : List ℕ
  answers : List ℕ
  kinds_announced : List ℕ

computed : XPath → Row
computed q = let os = translated graph q in record {
  query = q;
  selects = selected document q;
  answers = answer document os;
  kinds_announced = listed 17 (λ B. at (announced graph os) (last os) 16 B);
}

row : XPath → List ℕ → List ℕ → Row
row q nodes ks = record { query = q; selects = nodes; answers = nodes; kinds_announced = ks }

table : List Row
unfolding row
table =
    row self (0 ∷ []) (16 ∷ [])
    ∷ row archive (1 ∷ []) (0 ∷ [])
    ∷ row station [] []
    ∷ row (slash archive group) (2 ∷ 8 ∷ []) (1 ∷ [])
    ∷ row (slashes self station) (4 ∷ 6 ∷ 7 ∷ []) (2 ∷ [])
    ∷ row (slashes archive group) (2 ∷ 3 ∷ 8 ∷ []) (1 ∷ [])
    ∷ row (slashes self (filter station (text_is 7))) (4 ∷ 7 ∷ []) (2 ∷ [])
    ∷ row (slashes self (filter station (is_not (reached remark)))) (6 ∷ 7 ∷ []) (2 ∷ [])
    ∷ row (slashes self (filter group (both (reached station) (reached group)))) (2 ∷ []) (1 ∷ [])
    ∷ row (slashes self (filter group (either (reached station) (reached group)))) (2 ∷ 3 ∷ []) (1 ∷ [])
    ∷ row (slashes archive self) (1 ∷ 2 ∷ 3 ∷ 4 ∷ 5 ∷ 6 ∷ 7 ∷ 8 ∷ []) (0 ∷ 1 ∷ 2 ∷ 3 ∷ [])
    ∷ row (slashes self any_child) (1 ∷ 2 ∷ 3 ∷ 4 ∷ 5 ∷ 6 ∷ 7 ∷ 8 ∷ []) (0 ∷ 1 ∷ 2 ∷ 3 ∷ [])
    ∷ row (slashes (slashes self station) station) (6 ∷ []) (2 ∷ [])
    ∷ row (union group archive) (1 ∷ []) (0 ∷ [])
    ∷ []

-- C1 to C14: each row is what is computed from its query.
fourteen : map (λ r. computed r.query) table ≡ table
unfolding graph element document computed row table any listed bit mask join unite has difference intersection within closure child_kind reachable live some is_element is_parent above below is_text text_test node view or_below reaches holds selected last rows results run answer pairs announced image only together or_reachable out step then then_both descend path translated
fourteen = refl

-- C5 takes eight steps.
eight_steps : translated graph (slashes self station)
    ≡ Itself ∷ Table 0x000F ∷ Closure 1 ∷ Itself ∷ Union 2 3 ∷ Join 0 4 ∷ Table 0x0004 ∷ Join 5 6 ∷ []
unfolding graph any bit mask within closure child_kind reachable last image only together or_reachable out step then then_both descend path translated
eight_steps = refl

-- n + 1 child tests in a chain
chain : (XPath → XPath → XPath) → ℕ → XPath
chain f zero = station
chain f (suc n) = f (chain f n) station

-- At the edges: three // take 22 steps, four 29; 24 nodes with one not take 25.
three_slashes : step_count (chain slashes 3) ≡ 22
unfolding step_count path_count chain
three_slashes = refl

four_slashes : step_count (chain slashes 4) ≡ 29
unfolding step_count path_count chain
four_slashes = refl

one_not : XPath
one_not = filter (chain slash 10) (is_not (text_is 7))

one_not_nodes : query_nodes one_not ≡ 24
unfolding query_nodes path_count chain one_not
one_not_nodes = refl

one_not_steps : step_count one_not ≡ 25
unfolding step_count path_count chain one_not
one_not_steps = refl
