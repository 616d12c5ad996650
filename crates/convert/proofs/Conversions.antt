-- What is answered for files: the first refusal met, or what is written of the elements.
use Prim.Native.Nat.{ℕ}
use Rattle.std.proofs.Common.{Ok}
use lib.ListN.{take}
use mathlib.Core.List.{List}
use mathlib.Core.Path.{◌≡◌}
use Rattle.meaning.specs.declared.Answer.{Answer}
use Rattle.meaning.specs.declared.Element.{Element}
use Rattle.meaning.specs.declared.Graph.{Graph}
use Rattle.meaning.specs.declared.Refusal.{Refusal}
use Rattle.meaning.specs.Limits.{element_limit}
use Rattle.fields.specs.Read.{got, refused}
use Rattle.graph.specs.Gra.{graph_file}
use Rattle.tre.specs.Tre.{document_file, document_bytes}
use Rattle.edg.specs.Edg.{tables_file, tables_bytes}
use Rattle.writing.specs.Lent.{turned_away, stored, lent, Leaves}
use Rattle.files.specs.declared.Under.{Under}
use Rattle.files.specs.Inside.Opens.{Opens, OfElements}
use Rattle.files.specs.Files.{document_under, tables_under}
use Rattle.files.proofs.Handed.{under_got, mapped_got, mapped_refused}
use Rattle.convert.specs.Convert.{shredded, rebuilt}

module _ (gra file out : List ℕ) where
  pub shred_away : {r : Refusal} → document_under gra file ≡ refused r → Leaves (shredded gra file out) (turned_away r) out
  unfolding shredded lent
  shred_away h = rw (mapped_refused (λ x. tables_bytes x.0 x.1) h)

  pub rebuild_away : {r : Refusal} → tables_under gra file ≡ refused r → Leaves (rebuilt gra file out) (turned_away r) out
  unfolding rebuilt lent
  rebuild_away h = rw (mapped_refused (λ x. document_bytes x.1) h)

  module _ (kept : List Element) (o : Under ℕ) where
    module _ (p : Opens (document_under gra file) (Ok o) (OfElements kept)) where
      pub shred_all : {a : Answer} {new : List ℕ} → Leaves (stored (tables_bytes o.graph (take o.read kept)) out) a new → Leaves (shredded gra file out) a new
      unfolding shredded lent
      shred_all l = let (x, n, q, w) = p in rw (mapped_got (λ x. tables_bytes x.0 x.1) q, w.graph, w.elements) l

    module _ (p : Opens (tables_under gra file) (Ok o) (OfElements kept)) where
      pub rebuild_all : {a : Answer} {new : List ℕ} → Leaves (stored (document_bytes (take o.read kept)) out) a new → Leaves (rebuilt gra file out) a new
      unfolding rebuilt lent
      rebuild_all l = let (x, n, q, w) = p in rw (mapped_got (λ x. document_bytes x.1) q, w.elements) l

-- Of files that are accepted, what is written of their elements.
module _ (gra : List ℕ) (g : Graph) (m : ℕ) (graph : graph_file gra 0 ≡ got g m) {es : List Element} {n : ℕ} where
  pub shredded_is : (tre out : List ℕ) → document_file element_limit g tre 0 ≡ got es n → shredded gra tre out ≡ stored (tables_bytes g es) out
  unfolding shredded lent
  shredded_is tre out h = rw (mapped_got (λ x. tables_bytes x.0 x.1) (under_got gra (λ g. document_file element_limit g tre 0) graph h))

  pub rebuilt_is : (edg out : List ℕ) → tables_file element_limit g edg 0 ≡ got es n → rebuilt gra edg out ≡ stored (document_bytes es) out
  unfolding rebuilt lent
  rebuilt_is edg out h = rw (mapped_got (λ x. document_bytes x.1) (under_got gra (λ g. tables_file element_limit g edg 0) graph h))
