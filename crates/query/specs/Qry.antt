-- QRY: one path, in prefix order.
use Rattle.std.specs.Prelude.{ℕ, zero, suc, ◌-◌, List, ◌++◌, eqb, ltb}
use Rattle.meaning.specs.declared.Reason.TheVariants.{Bound, Code, Kind}
use Rattle.meaning.specs.Limits.{query_limit}
use Rattle.meaning.specs.Queries.{XPath, Qualifier, self, child, any_child, slash, slashes, union, filter, reached, text_is, is_not, both, either}
use Rattle.fields.specs.Read.{Reader, ◌>>=◌, ◌>>◌, got, give, refuse, pick, byte, word, byte_below, header, ended}
use Rattle.fields.specs.Write.{byte_of, word_of, header_of}

-- a part of a query is a path or a qualifier
pub data Sort : Type 0 where
  path qualifier : Sort

abbrev pub Tree : Sort → Type 0
Tree path = XPath
Tree qualifier = Qualifier

-- reads a part, where so many nodes are allowed, and says how many of them are left
abbrev pub PartReader : Sort → Type 0
PartReader σ = ℕ → Reader (Tree σ × ℕ)

-- what follows a code, nothing, a field, one part or two, and what is made of it
pub data Follows (σ : Sort) : Type 0 where
  leaf : Tree σ → Follows σ
  field : Reader ℕ → (ℕ → Tree σ) → Follows σ
  one : (τ : Sort) → (Tree τ → Tree σ) → Follows σ
  two : (τ υ : Sort) → (Tree τ → Tree υ → Tree σ) → Follows σ
  unknown : Follows σ

-- the table of codes, where there are k types
abbrev pub codes : ℕ → (σ : Sort) → ℕ → Follows σ
codes k path c =
    pick (eqb c 0x01) (leaf self)
    (pick (eqb c 0x02) (field (byte_below k Kind) child)
    (pick (eqb c 0x03) (leaf any_child)
    (pick (eqb c 0x04) (two path path slash)
    (pick (eqb c 0x05) (two path path slashes)
    (pick (eqb c 0x06) (two path path union)
    (pick (eqb c 0x07) (two path qualifier filter)
    unknown))))))
codes k qualifier c =
    pick (eqb c 0x11) (one path reached)
    (pick (eqb c 0x12) (field word text_is)
    (pick (eqb c 0x13) (one qualifier is_not)
    (pick (eqb c 0x14) (two qualifier qualifier both)
    (pick (eqb c 0x15) (two qualifier qualifier either)
    unknown))))

-- reads what follows the code at a place, where part reads the parts inside
abbrev pub following : {σ : Sort} → ((τ : Sort) → PartReader τ) → ℕ → Follows σ → PartReader σ
following part place (leaf t) n = give (t, n)
following part place (field m f) n = do
  v ← m
  give (f v, n)
following part place (one τ f) n = do
  a ← part τ n
  give (f a.0, a.1)
following part place (two τ υ f) n = do
  a ← part τ n
  b ← part υ a.1
  give (f a.0 b.0, b.1)
following part place unknown n = λ s _. refuse Code s place

-- the code of a node: a node more than is allowed is refused before its code is looked at
unfoldable pub node_code : ℕ → Reader ℕ
node_code n = pick (ltb 0 n) byte (refuse Bound)

-- the place that reading has come to
abbrev pub here : Reader ℕ
here s at = got at at

-- a part, at most as deep as the second number says, which is never less than the nodes allowed
unfoldable pub part : ℕ → ℕ → (σ : Sort) → PartReader σ
part k zero σ n = refuse Bound
part k (suc f) σ n = do
  place ← here
  c ← node_code n
  following (λ τ m. part k f τ m) place (codes k σ c) (n - 1)

-- the query of a file, and how many nodes it leaves of those allowed
unfoldable pub query_file : ℕ → Reader (XPath × ℕ)
query_file k = ended (header 0x51 0x52 0x59 1 >> part k query_limit path query_limit)

unfoldable mutual
  pub path_bytes : XPath → List ℕ
  path_bytes self = byte_of 0x01
  path_bytes (child t) = byte_of 0x02 ++ byte_of t
  path_bytes any_child = byte_of 0x03
  path_bytes (slash p q) = byte_of 0x04 ++ path_bytes p ++ path_bytes q
  path_bytes (slashes p q) = byte_of 0x05 ++ path_bytes p ++ path_bytes q
  path_bytes (union p q) = byte_of 0x06 ++ path_bytes p ++ path_bytes q
  path_bytes (filter p q) = byte_of 0x07 ++ path_bytes p ++ qualifier_bytes q

  pub qualifier_bytes : Qualifier → List ℕ
  qualifier_bytes (reached p) = byte_of 0x11 ++ path_bytes p
  qualifier_bytes (text_is c) = byte_of 0x12 ++ word_of c
  qualifier_bytes (is_not q) = byte_of 0x13 ++ qualifier_bytes q
  qualifier_bytes (both q r) = byte_of 0x14 ++ qualifier_bytes q ++ qualifier_bytes r
  qualifier_bytes (either q r) = byte_of 0x15 ++ qualifier_bytes q ++ qualifier_bytes r

-- the file of a query
unfoldable pub query_bytes : XPath → List ℕ
query_bytes p = header_of 0x51 0x52 0x59 1 ++ path_bytes p
