-- Queries, and what they select: XPath 1.0, cut to paths and qualifiers of these codes.
use Rattle.std.specs.Prelude.{ℕ, ◌<◌, ◌+◌, Bool, not, ◌&&◌, ◌||◌, List, eqb}
use Rattle.meaning.specs.Limits.{words}
use Rattle.meaning.specs.Sets.{listed}
use Rattle.meaning.specs.Relations.{Relation}
use Rattle.meaning.specs.Documents.{View, some, is_parent, below, text_test}

mutual
  -- by their codes: 0x01 self, 0x02 a type, 0x03 any child, 0x04 p/q, 0x05 p//q, 0x06 union, 0x07 p[q]
  pub data XPath : Type 0 where
    self : XPath
    child : ℕ → XPath
    any_child : XPath
    slash : XPath → XPath → XPath
    slashes : XPath → XPath → XPath
    union : XPath → XPath → XPath
    filter : XPath → Qualifier → XPath

  -- by their codes: 0x11 some node is reached, 0x12 the node's own text number, 0x13 not, 0x14 and, 0x15 or
  pub data Qualifier : Type 0 where
    reached : XPath → Qualifier
    text_is : ℕ → Qualifier
    is_not : Qualifier → Qualifier
    both : Qualifier → Qualifier → Qualifier
    either : Qualifier → Qualifier → Qualifier

-- the node v or any node below it
unfoldable pub or_below : View → Relation
or_below d v w = eqb v w || below d v w

unfoldable mutual
  -- from the context node v, the path reaches w
  pub reaches : XPath → View → Relation
  reaches self d v w = eqb v w
  reaches (child t) d v w = is_parent d v w && eqb (d.kind w) t
  reaches any_child d v w = is_parent d v w
  reaches (slash p q) d v w = some d (λ u. reaches p d v u && reaches q d u w)
  reaches (slashes p q) d v w =
      some d (λ u. reaches p d v u && some d (λ x. or_below d u x && reaches q d x w))
  reaches (union p q) d v w = reaches p d v w || reaches q d v w
  reaches (filter p q) d v w = reaches p d v w && holds q d w

  -- the qualifier holds of the node v
  pub holds : Qualifier → View → ℕ → Bool
  holds (reached p) d v = some d (λ w. reaches p d v w)
  holds (text_is c) d v = text_test d c v
  holds (is_not q) d v = not (holds q d v)
  holds (both q r) d v = holds q d v && holds r d v
  holds (either q r) d v = holds q d v || holds r d v

-- the nodes that the path selects from the document node, ascending, each once
unfoldable pub selected : View → XPath → List ℕ
selected d p = listed d.size (λ w. d.there w && reaches p d 0 w)

unfoldable mutual
  -- a query's nodes, plus a for each // and b for each not
  pub path_count : ℕ → ℕ → XPath → ℕ
  path_count a b self = 1
  path_count a b (child t) = 1
  path_count a b any_child = 1
  path_count a b (slash p q) = 1 + path_count a b p + path_count a b q
  path_count a b (slashes p q) = 1 + a + path_count a b p + path_count a b q
  path_count a b (union p q) = 1 + path_count a b p + path_count a b q
  path_count a b (filter p q) = 1 + path_count a b p + qualifier_count a b q

  pub qualifier_count : ℕ → ℕ → Qualifier → ℕ
  qualifier_count a b (reached p) = 1 + path_count a b p
  qualifier_count a b (text_is c) = 1
  qualifier_count a b (is_not q) = 1 + b + qualifier_count a b q
  qualifier_count a b (both q r) = 1 + qualifier_count a b q + qualifier_count a b r
  qualifier_count a b (either q r) = 1 + qualifier_count a b q + qualifier_count a b r

-- a query's nodes
unfoldable pub query_nodes : XPath → ℕ
query_nodes p = path_count 0 0 p

unfoldable mutual
  -- types are below k and text numbers have 16 bits
  pub LegalPath : ℕ → XPath → Type 0
  LegalPath k self = Unit
  LegalPath k (child t) = t < k
  LegalPath k any_child = Unit
  LegalPath k (slash p q) = LegalPath k p × LegalPath k q
  LegalPath k (slashes p q) = LegalPath k p × LegalPath k q
  LegalPath k (union p q) = LegalPath k p × LegalPath k q
  LegalPath k (filter p q) = LegalPath k p × LegalQualifier k q

  pub LegalQualifier : ℕ → Qualifier → Type 0
  LegalQualifier k (reached p) = LegalPath k p
  LegalQualifier k (text_is c) = c < words
  LegalQualifier k (is_not q) = LegalQualifier k q
  LegalQualifier k (both q r) = LegalQualifier k q × LegalQualifier k r
  LegalQualifier k (either q r) = LegalQualifier k q × LegalQualifier k r
