-- What was read is ready to be run: accepted elements and a legal program, as many as are counted.
use mathlib.Core.Path.{◌≡◌}
use mathlib.Core.List.{List}
use native.Mathlib.Omega.{arith}
use lib.ListN.{length}
use Rattle.meaning.specs.declared.Graph.{Graph}
use Rattle.meaning.specs.declared.Program.{Program}
use Rattle.meaning.specs.Limits.{element_limit, step_limit}
use Rattle.meaning.specs.Graphs.{LegalGraph}
use Rattle.meaning.specs.Documents.{Accepted}
use Rattle.meaning.specs.Operations.{LegalProgram}
use Rattle.meaning.specs.Inside.Records.{operations_in, Numbered}
use Rattle.meaning.proofs.KindSets.{edge_types}
use Rattle.meaning.proofs.Views.{accepted_keeps}
use Rattle.meaning.specs.declared.Element.{Element}
use Rattle.rooms.specs.Inside.FitToRun.{Nodes, FitToRun}

module _ (g : Graph) (legal : LegalGraph g) {es : List Element} (a : Accepted element_limit g es) where
  accepted_nodes : Nodes es
  accepted_nodes =
      let keeps = accepted_keeps element_limit g es a in
      record {
        few = a.most_elements;
        parents = keeps.parent_there;
        kinds = λ w e. omega (arith, (edge_types g legal _ _ (keeps.edge w e)).1, legal.most_types);
      }

  pub ready : {p : Program} → LegalProgram step_limit g.k (operations_in p) → length (operations_in p) ≡ p.count → Numbered p → FitToRun es p
  ready l n s = record { nodes = accepted_nodes; whole = n; numbered = s; k = g.k; legal = l }
