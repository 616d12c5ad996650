-- One law for each need of the functions that write lines: what stands so far, and that there is room for the rest.
use Rattle.std.proofs.Common.{ℕ, ◌+◌, ◌≤◌, ◌<◌, ◌≡◌, List, ◌++◌, length, get_or, refl, ap, ◌∙◌, arith, rules}
use Rattle.meaning.specs.declared.Element.{Element}
use Rattle.meaning.specs.Documents.{View, view, node}
use Rattle.writing.specs.declared.Writer.{Writer}
use Rattle.writing.specs.Inside.Wrote.{Wrote}
use Rattle.writing.proofs.Writing.{wrote_then}
use Rattle.writing.proofs.Toward.{Toward, toward_none, toward_room, toward_more, toward_all}
use Rattle.text.specs.Listing.{decimal, space, end_of_line, line}
use Rattle.text.proofs.LineLaws.{ended_length, fields_length, line_is, lines_after, lines_next, lines_last}

-- A node's line.
module _ (es : List Element) (v : ℕ) {x : Element} {n : ℕ} (held : x ≡ node es v) (e : n ≡ v) where
  long : length (line (view es) v) ≡ length (decimal n) + length (decimal x.kind) + length (decimal x.text) + 3
  long = ap length (line_is es v held e refl) ∙ fields_length n x.kind x.text

  module _ (old : Writer) (room : old.at + length (line (view es) v) ≤ length old.out.now) where
    pub number_fits : old.at + length (decimal n) < length old.out.now
    number_fits = omega (arith, long)

    module _ {k : ℕ} (f : k ≡ x.kind) {a : Writer} (number : Wrote (decimal n ++ space) old a) where
      same : length (decimal k) ≡ length (decimal x.kind)
      same = ap (λ m. length (decimal m)) f

      pub kind_fits : a.at + length (decimal k) < length a.out.now
      kind_fits = omega (arith, long, same, ended_length n 32, number.behind, number.long)

      pub text_fits : {b : Writer} → Wrote (decimal k ++ space) a b → b.at + length (decimal x.text) < length b.out.now
      text_fits kind = omega (arith, long, same, ended_length n 32, number.behind, number.long, ended_length k 32, kind.behind, kind.long)

  pub line_written : {k : ℕ} → k ≡ x.kind → {old a b new : Writer} → Wrote (decimal n ++ space) old a → Wrote (decimal k ++ space) a b → Wrote (decimal x.text ++ end_of_line) b new
      → Wrote (line (view es) v) old new
  line_written f number kind text = rw (line_is es v held e f) (wrote_then (wrote_then number kind) text)

-- The lines.
pub line_room : (d : View) (nodes : List ℕ) (i : ℕ) {whole : List ℕ} {old w : Writer} → Toward whole old (lines_after d nodes i) w → i < length nodes
    → w.at + length (line d (get_or nodes i 0)) ≤ length w.out.now
line_room d nodes i so_far l = toward_room (line d (get_or nodes i 0)) (lines_after d nodes (i + 1)) so_far (lines_next d nodes i l)

pub ruleset line_laws = (number_fits, kind_fits, text_fits, rules)

pub ruleset laws = (toward_none, toward_more, toward_all, lines_next, lines_last, line_room)
