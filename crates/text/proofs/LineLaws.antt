-- The lines of a listing: what one is made of, how they follow one another, and how long they are.
use Prim.Native.Nat.{ℕ, suc, ◌+◌, ◌*◌, ◌≤◌, ◌<◌}
use mathlib.Core.List.{List, [], ◌∷◌, ◌++◌, append_assoc}
use mathlib.Core.Path.{◌≡◌, ap}
use native.Mathlib.Numerals.{add-one}
use native.Mathlib.Omega.{arith}
use lib.ListN.{length, get_or, drop, length-append, drop_of_length-le}
use lib.Seq.{drop-cons}
use Rattle.meaning.specs.declared.Element.{Element}
use Rattle.meaning.specs.Limits.{words}
use Rattle.meaning.specs.Documents.{View, view, node}
use Rattle.fields.specs.Write.{byte_of}
use Rattle.text.specs.Listing.{decimal, space, end_of_line, selected_word, first_line, line, lines, listing, listing_room}
use Rattle.text.proofs.Decimals.{few_digits}

-- a number and the byte that ends its field
abbrev pub ended_by : ℕ → ℕ → List ℕ
ended_by n end = decimal n ++ byte_of end

pub ended_length : (n end : ℕ) → length (ended_by n end) ≡ length (decimal n) + 1
ended_length n end = length-append (decimal n) (byte_of end)

-- The line of a node, from the element that its place holds.
abbrev pub three_fields : ℕ → ℕ → ℕ → List ℕ
three_fields v kind text = ended_by v 32 ++ ended_by kind 32 ++ ended_by text 10

pub fields_length : (v kind text : ℕ) → length (three_fields v kind text) ≡ length (decimal v) + length (decimal kind) + length (decimal text) + 3
fields_length v kind text =
    omega (
      arith,
      length-append (ended_by v 32 ++ ended_by kind 32) (ended_by text 10),
      length-append (ended_by v 32) (ended_by kind 32),
      ended_length v 32,
      ended_length kind 32,
      ended_length text 10,
    )

line_fields : (d : View) (v : ℕ) → line d v ≡ three_fields v (d.kind v) (d.text v)
unfolding line
line_fields d v = simp append_assoc

pub line_is : (es : List Element) (v : ℕ) {x : Element} {n k : ℕ} → x ≡ node es v → n ≡ v → k ≡ x.kind → line (view es) v ≡ three_fields n k x.text
unfolding view
line_is es v e f h = rw (line_fields (view es) v, h, e, f)

pub first_length : (n : ℕ) → length (first_line n) ≡ 10 + length (decimal n)
unfolding first_line
first_length n = omega (arith, length-append (selected_word ++ space ++ decimal n) end_of_line, length-append (selected_word ++ space) (decimal n))

pub listing_length : (d : View) (nodes : List ℕ) → length (listing d nodes) ≡ 10 + length (decimal (length nodes)) + length (lines d nodes)
unfolding listing
listing_length d nodes = omega (arith, length-append (first_line (length nodes)) (lines d nodes), first_length (length nodes))

-- The lines of the nodes behind the first i.
abbrev pub lines_after : View → List ℕ → ℕ → List ℕ
lines_after d nodes i = lines d (drop i nodes)

pub lines_next : (d : View) (nodes : List ℕ) (i : ℕ) → i < length nodes → lines_after d nodes i ≡ line d (get_or nodes i 0) ++ lines_after d nodes (i + 1)
unfolding lines
lines_next d nodes i l = rw (drop-cons nodes i 0 l, add-one i)

pub lines_last : (d : View) (nodes : List ℕ) (i : ℕ) → length nodes ≤ i → lines_after d nodes i ≡ []
unfolding lines
lines_last d nodes i l = rw (drop_of_length-le nodes {i = i} l)

-- How long a listing is, where numbers of nodes have three digits, kinds two, and text numbers 16 bits.
module _ (d : View) (few : d.size < 1000) (kinds : (v : ℕ) → d.kind v < 100) (texts : (v : ℕ) → d.text v < words) where
  line_most : (v : ℕ) → v < d.size → length (line d v) ≤ 13
  line_most v l =
      omega (
        arith,
        ap length (line_fields d v),
        fields_length v (d.kind v) (d.text v),
        few_digits 2 v (omega arith),
        few_digits 1 (d.kind v) (omega (arith, kinds v)),
        few_digits 4 (d.text v) (omega (arith, texts v)),
      )

  lines_most : (vs : List ℕ) → ((i : ℕ) → i < length vs → get_or vs i 0 < d.size) → length (lines d vs) ≤ 13 * length vs
  unfolding lines
  lines_most [] nodes = omega arith
  lines_most (v ∷ vs) nodes = omega (arith, length-append (line d v) (lines d vs), line_most v (nodes 0 (omega arith)), lines_most vs (λ i l. nodes (suc i) (omega arith)))

  -- its room is enough
  pub listing_most : (nodes : List ℕ) → ((i : ℕ) → i < length nodes → get_or nodes i 0 < d.size) → length nodes ≤ d.size → length (listing d nodes) ≤ listing_room d.size
  listing_most nodes there l = omega (arith, listing_length d nodes, few_digits 2 (length nodes) (omega arith), lines_most nodes there)
