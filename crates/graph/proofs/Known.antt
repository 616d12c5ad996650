-- What the graph's reading was that was handed on so.
use Prim.Native.Nat.{ℕ}
use mathlib.Core.Path.{◌≡◌}
use mathlib.Core.List.{List}
use lib.ListN.{get_or}
use mir.Syntax.{w8}
use mir.Val.{Fits}
use Rattle.std.proofs.Common.{Ok, Err}
use Rattle.meaning.specs.declared.Graph.{Graph}
use Rattle.meaning.specs.declared.Refusal.{Refusal}
use Rattle.meaning.specs.Graphs.{LegalGraph}
use Rattle.fields.specs.Read.{got, refused}
use Rattle.fields.specs.Inside.Outcomes.{file_of}
use Rattle.fields.proofs.Outcomes.{turned, held}
use Rattle.graph.specs.Gra.{graph_file}
use Rattle.graph.proofs.File.{graph_read_lem}

module _ (gra : List ℕ) where
  pub graph_turned : {r : Refusal} → Err r ≡ file_of (graph_file gra 0) → graph_file gra 0 ≡ refused r
  graph_turned h = turned (graph_file gra 0) h

  module _ {g : Graph} (h : Ok g ≡ file_of (graph_file gra 0)) where
    pub graph_held : (n : ℕ) × (graph_file gra 0 ≡ got g n)
    graph_held = held (graph_file gra 0) h

    pub graph_legal : ((i : ℕ) → Fits w8 (get_or gra i 0)) → LegalGraph g
    graph_legal bytes = (graph_read_lem gra (λ i. (bytes i).fits) g _ graph_held.1).0
