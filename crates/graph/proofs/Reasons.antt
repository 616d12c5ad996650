-- A graph file is turned away with a number from 1 to 10.
use Prim.Native.Nat.{ℕ, zero, suc, ◌≤◌}
use mathlib.Core.List.{List}
use mathlib.Core.Path.{◌≡◌}
use native.Mathlib.Omega.{arith}
use Rattle.meaning.specs.declared.Reason.TheVariants.{Bound, Kind}
use Rattle.meaning.specs.declared.Refusal.{Refusal}
use Rattle.meaning.specs.Refused.{number_of}
use Rattle.fields.specs.Read.{refused}
use Rattle.fields.proofs.Reasons.{OfFile, reason_low, of_give, of_bind, of_judged, of_byte, of_word, of_header, of_ended}
use Rattle.graph.specs.Gra.{masks, all_masks, types_read, graph, graph_file}

of_masks : (k n : ℕ) → OfFile (masks k n)
unfolding masks
of_masks k zero = of_give
of_masks k (suc n) = of_bind (of_judged Kind (omega arith) _ of_word) λ m. of_bind (of_masks k n) λ ms. of_give

of_graph : OfFile graph
unfolding graph types_read all_masks
of_graph =
    of_bind (of_header 0x47 0x52 0x41 1) λ _. of_bind (of_judged Bound (omega arith) _ of_byte) λ k.
    of_bind (of_judged Kind (omega arith) _ of_byte) λ root. of_bind (of_bind (of_masks k k) λ ms. of_give) λ ms. of_give

pub graph_reason : (s : List ℕ) {r : Refusal} → graph_file s 0 ≡ refused r → number_of r.reason ≤ 10
unfolding graph_file
graph_reason s h = reason_low (of_ended of_graph) s h
