-- The two laws of the GRA file: what the reader accepts is what is written of a legal graph, and that reads back.
use Prim.Native.Nat.{ℕ, zero, suc, ◌+◌, ◌-◌, ◌^◌, ◌<◌, ◌≤◌}
use mathlib.Core.List.{List, [], ◌∷◌, ◌++◌, append-nil}
use mathlib.Core.Path.{◌≡◌, refl, sym, ap, ◌∙◌}
use mathlib.Core.Bool.{true}
use native.Mathlib.Omega.{arith}
use lib.Dec.{leb}
use lib.ListN.{length, get_or, take, drop, replicate, length-append, length-replicate, length-drop, take-append-drop}
use lib.Seq.{take_at, get_or-drop, ext_get_or}
use borrow.Author.Tests.{lt-ltb, le-leb, ltb-true, leb-true}
use Rattle.meaning.specs.declared.Graph.{Graph}
use Rattle.meaning.specs.declared.Reason.TheVariants.{Bound, Kind}
use Rattle.meaning.specs.Limits.{types}
use Rattle.meaning.specs.Sets.{bit}
use Rattle.meaning.specs.Graphs.{LegalGraph}
use Rattle.meaning.proofs.Bits.{bits_below, below_bits}
use Rattle.meaning.proofs.Sets.{bit_none}
use Rattle.meaning.proofs.Tests.{never, and_in, and_left, and_right}
use Rattle.fields.specs.Read.{got}
use Rattle.fields.specs.Write.{Bytes}
use Rattle.fields.proofs.Formats.{Reads, Takes, reads_bind, reads_last, reads_give, reads_judged, reads_byte, reads_word, reads_header, reads_file, accepts_give, takes_bind, takes_judged, takes_byte, takes_word, takes_first, takes_file}
use Rattle.graph.specs.Gra.{masks, all_masks, types_read, graph, graph_file, words_of, graph_bytes}

-- the masks of n types, none with an edge to a type of k or more
abbrev Edges : ℕ → ℕ → List ℕ → Type 0
Edges k n ms = (A B : ℕ) → bit (get_or ms A 0) B ≡ true → (A < n) × (B < k)

no_edges : (k : ℕ) → Edges k 0 []
no_edges k A B h = never (sym (bit_none B) ∙ h)

more_edges : (k n m : ℕ) (ms : List ℕ) → m < 2 ^ k → Edges k n ms → Edges k (suc n) (m ∷ ms)
more_edges k n m ms l e zero B h = (omega arith, bits_below k m l B h)
more_edges k n m ms l e (suc A) B h = (omega (arith, (e A B h).0), (e A B h).1)

-- zeros add no edge
padded : (n : ℕ) (ms : List ℕ) (i : ℕ) → get_or (ms ++ replicate n 0) i 0 ≡ get_or ms i 0
padded zero [] i = refl
padded (suc n) [] zero = refl
padded (suc n) [] (suc i) = padded n [] i
padded n (m ∷ ms) zero = refl
padded n (m ∷ ms) (suc i) = padded n ms i

takes_masks : (k n : ℕ) → Takes (masks k n) words_of (λ ms. (length ms ≡ n) × Edges k n ms)
unfolding masks words_of
takes_masks k zero = accepts_give (refl, (refl, no_edges k))
takes_masks k (suc n) =
    takes_bind (takes_judged _ Kind takes_word) λ m t. takes_bind (takes_masks k n) λ ms h.
    accepts_give (rw (append-nil (words_of ms)), (ap suc h.0, more_edges k n m ms (ltb-true _ _ t.1) h.1))

reads_masks : (k n : ℕ) (ms : List ℕ) → n ≤ length ms → ((i : ℕ) → get_or ms i 0 < 2 ^ k) → Reads (masks k n) (words_of (take n ms)) (take n ms)
unfolding masks words_of
reads_masks k zero ms l w = reads_give []
reads_masks k (suc n) [] l w = absurd (omega arith)
reads_masks k (suc n) (m ∷ ms) l w =
    reads_bind _ (reads_judged _ Kind (reads_word m) (lt-ltb m (2 ^ k) (w 0)))
    (reads_last _ (reads_masks k n ms (omega arith) (λ i. w (suc i))) (reads_give (m ∷ take n ms)))

module _ (k : ℕ) (most : k ≤ types) where
  takes_all : Takes (all_masks k) (λ ms. words_of (take k ms)) (λ ms. (length ms ≡ types) × Edges k k ms)
  unfolding all_masks
  takes_all =
      takes_bind (takes_masks k k) λ ms h.
      accepts_give (
        rw (append-nil (words_of ms), take_at ms (replicate (types - k) 0) k h.0),
        (simp (length-append, length-replicate) (omega (arith, h.0)), λ A B b. h.1 A B (rw (padded (types - k) ms A) at b)),
      )

  module _ (ms : List ℕ) (long : length ms ≡ types) (edges : Edges k k ms) where
    blank : (i : ℕ) → k ≤ i → get_or ms i 0 ≡ 0
    blank i l = omega (arith, below_bits 0 (get_or ms i 0) (λ B h. absurd (omega (arith, (edges i B h).0))))

    filled : take k ms ++ replicate (types - k) 0 ≡ ms
    filled =
        ap (λ (l : List ℕ). take k ms ++ l)
        (sym (ext_get_or 0 (drop k ms) (replicate (types - k) 0) (simp (length-drop, length-replicate, long))
        (λ i l. get_or-drop k ms i 0 ∙ blank (k + i) (omega arith) ∙ sym (padded (types - k) [] i))))
        ∙ take-append-drop k ms

    reads_all : Reads (all_masks k) (words_of (take k ms)) ms
    unfolding all_masks
    reads_all = reads_last _ (reads_masks k k ms (omega arith) (λ i. below_bits k (get_or ms i 0) (λ B h. (edges i B h).1))) (rw filled (reads_give ms))

takes_graph : Takes graph graph_bytes LegalGraph
unfolding graph types_read graph_bytes
takes_graph =
    takes_bind (takes_first 0x47 0x52 0x41) λ _ _. takes_bind (takes_judged _ Bound takes_byte) λ k t.
    takes_bind (takes_judged _ Kind takes_byte) λ root u.
    let most = leb-true k types (and_right (leb 1 k) _ t.1) in
    takes_bind (takes_all k most) λ ms h.
    accepts_give (
      rw (append-nil (words_of (take k ms))),
      record { some_type = leb-true 1 k (and_left _ _ t.1); most_types = most; root_type = ltb-true root k u.1; masks = h.0; edges = h.1 },
    )

reads_graph : (g : Graph) → LegalGraph g → Reads graph (graph_bytes g) g
unfolding graph types_read graph_bytes
reads_graph g legal =
    reads_bind _ (reads_header 0x47 0x52 0x41 1 1 (omega arith) (omega arith))
    (reads_bind _ (reads_judged _ Bound (reads_byte g.k) (and_in (le-leb 1 g.k legal.some_type) (le-leb g.k types legal.most_types)))
    (reads_bind _ (reads_judged _ Kind (reads_byte g.root) (lt-ltb g.root g.k legal.root_type))
    (reads_last _ (reads_all g.k legal.most_types g.children legal.masks legal.edges) (reads_give g))))

pub graph_read_lem : (s : List ℕ) → Bytes s → (g : Graph) (n : ℕ) → graph_file s 0 ≡ got g n → LegalGraph g × (s ≡ graph_bytes g)
unfolding graph_file
graph_read_lem s bs g n h = let (e, legal, _) = takes_file s takes_graph bs h in (legal, e)

pub graph_written : (g : Graph) → LegalGraph g → graph_file (graph_bytes g) 0 ≡ got g (length (graph_bytes g))
unfolding graph_file
graph_written g legal = reads_file (reads_graph g legal)
