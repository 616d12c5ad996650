-- The graph file: k, the root type, and a mask for every type, whose bits are its child types.
use Rattle.std.specs.Prelude.{ℕ, zero, suc, ◌-◌, List, [], ◌∷◌, ◌++◌, take, replicate}
use Rattle.meaning.specs.declared.Graph.{Graph}
use Rattle.meaning.specs.declared.Reason.TheVariants.{Bound, Kind}
use Rattle.meaning.specs.Limits.{types}
use Rattle.fields.specs.Read.{Reader, ◌>>=◌, ◌>>◌, give, byte_below, byte_up_to, mask_below, header, ended}
use Rattle.fields.specs.Write.{byte_of, word_of, header_of}

-- n masks of types below k
unfoldable pub masks : ℕ → ℕ → Reader (List ℕ)
masks k zero = give []
masks k (suc n) = do
  m ← mask_below k
  ms ← masks k n
  give (m ∷ ms)

-- a mask for each type: those of k types are read, and the others are 0
unfoldable pub all_masks : ℕ → Reader (List ℕ)
all_masks k = do
  ms ← masks k k
  give (ms ++ replicate (types - k) 0)

-- the root type, and the masks
unfoldable pub types_read : ℕ → Reader Graph
types_read k = do
  root ← byte_below k Kind
  ms ← all_masks k
  give (record { k = k; root = root; children = ms })

unfoldable pub graph : Reader Graph
graph = do
  header 0x47 0x52 0x41 1
  k ← byte_up_to types Bound
  types_read k

unfoldable pub graph_file : Reader Graph
graph_file = ended graph

unfoldable pub words_of : List ℕ → List ℕ
words_of [] = []
words_of (m ∷ ms) = word_of m ++ words_of ms

-- the file of a graph
unfoldable pub graph_bytes : Graph → List ℕ
graph_bytes g = header_of 0x47 0x52 0x41 1 ++ byte_of g.k ++ byte_of g.root ++ words_of (take g.k g.children)
