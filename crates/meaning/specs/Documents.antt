-- What a document shows: node 0 stands for the document itself, the other nodes are its elements, numbered as they open. And
-- which documents are accepted.
use Rattle.std.specs.Prelude.{ℕ, zero, suc, ◌-◌, ◌<◌, ◌≤◌, ◌≡◌, Bool, true, false, ◌&&◌, ◌||◌, cond, List, eqb, ltb, leb, get_or, length}
use Rattle.meaning.specs.declared.Graph.{Graph}
use Rattle.meaning.specs.declared.Element.{Element}
use Rattle.meaning.specs.Limits.{document, words}
use Rattle.meaning.specs.Sets.{any}
use Rattle.meaning.specs.Relations.{Relation}
use Rattle.meaning.specs.Graphs.{child_kind}

-- What a document shows, and all that queries and operations see of it.
pub record View : Type 0 where
  -- the nodes are some of the numbers below size
  pub size : ℕ
  pub there : ℕ → Bool
  pub parent : ℕ → ℕ
  pub kind : ℕ → ℕ
  pub text : ℕ → ℕ

-- some node passes
unfoldable pub some : View → (ℕ → Bool) → Bool
some d f = any d.size (λ u. d.there u && f u)

-- a node other than the document node
unfoldable pub is_element : View → ℕ → Bool
is_element d w = d.there w && ltb 0 w

-- w is an element, and v its parent
unfoldable pub is_parent : View → Relation
is_parent d v w = is_element d w && eqb (d.parent w) v

-- v is w's parent, or v is above w's parent: at most k parents are asked for
unfoldable pub above : ℕ → View → Relation
above zero d v w = false
above (suc k) d v w = is_element d w && (eqb (d.parent w) v || above k d v (d.parent w))

-- w is below v; v is an ancestor of w
unfoldable pub below : View → Relation
below d v w = above d.size d v w

-- c is the number of a text: 0 stands for no text or empty text, and a text node of XPath 1.0 has at least one character
unfoldable pub is_text : ℕ → Bool
is_text c = ltb 0 c

-- c is the number of a text, and v an element that has it; node 0 never passes
unfoldable pub text_test : View → ℕ → ℕ → Bool
text_test d c v = is_text c && (is_element d v && eqb (d.text v) c)

abbrev pub document_node : Element
document_node = record { parent = 0; kind = document; text = 0 }

-- node v of a list of elements, which are counted from 1
unfoldable pub node : List Element → ℕ → Element
node es zero = document_node
node es (suc i) = get_or es i document_node

unfoldable pub view : List Element → View
view es = record {
  size = suc (length es);
  there = λ v. leb v (length es);
  parent = λ v. (node es v).parent;
  kind = λ v. (node es v).kind;
  text = λ v. (node es v).text;
}

-- element 1 stands under node 0, and no other does; a later one under the element before it or an ancestor of that
unfoldable pub parent_rule : View → ℕ → Bool
parent_rule d i =
    cond (eqb i 1) (eqb (d.parent i) 0)
    (ltb 0 (d.parent i) && (eqb (d.parent i) (i - 1) || below d (d.parent i) (i - 1)))

-- parent and child are joined by an edge; for element 1, whose parent is 0, that says it has the root type
unfoldable pub edge_rule : Graph → View → ℕ → Bool
edge_rule g d i = child_kind g (d.kind (d.parent i)) (d.kind i)

pub record Accepted (limit : ℕ) (g : Graph) (es : List Element) : Type 0 where
  pub some_element : 1 ≤ length es
  pub most_elements : length es ≤ limit
  pub parents : (i : ℕ) → 1 ≤ i → i ≤ length es → parent_rule (view es) i ≡ true
  pub edges : (i : ℕ) → 1 ≤ i → i ≤ length es → edge_rule g (view es) i ≡ true
  pub texts : (i : ℕ) → (node es i).text < words
