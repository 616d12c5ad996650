-- What the translator writes is the file of a legal program, which its reader accepts and reads back.
use Prim.Native.Nat.{ℕ, ◌+◌, ◌*◌, ◌≤◌}
use mathlib.Core.Path.{◌≡◌}
use mathlib.Core.List.{List}
use native.Mathlib.Omega.{arith}
use lib.ListN.{length}
use borrow.Author.Tests.{le-leb}
use Rattle.meaning.specs.declared.Graph.{Graph}
use Rattle.meaning.specs.Limits.{step_limit}
use Rattle.meaning.specs.Graphs.{LegalGraph}
use Rattle.meaning.specs.Queries.{XPath, LegalPath}
use Rattle.meaning.specs.Operations.{LegalProgram}
use Rattle.meaning.specs.Translation.{translated, step_count}
use Rattle.meaning.proofs.Counts.{translated_length, translated_legal}
use Rattle.fields.specs.Read.{got, mapped}
use Rattle.query.specs.Qry.{query_file}
use Rattle.rel.specs.Rel.{program_file, program_bytes}
use Rattle.rel.proofs.File.{program_written}
use Rattle.rel.proofs.Encoded.{program_length}
use Rattle.writing.specs.Lent.{stored, lent}
use Rattle.translator.specs.Inside.Translated.{translated_query, translated_under}
use Rattle.translator.specs.Translate.{bounded_program}

pub file_length : (g : Graph) (p : XPath) → length (program_bytes (translated g p)) ≡ 6 + 3 * step_count p
file_length g p = omega (arith, program_length (translated g p), translated_length g p)

pub record Checked (g : Graph) (p : XPath) : Type 0 where
  pub legal : LegalProgram step_limit g.k (translated g p)
  pub reads_back : program_file g.k (program_bytes (translated g p)) 0 ≡ got (translated g p) (length (program_bytes (translated g p)))
  pub long : length (program_bytes (translated g p)) ≡ 6 + 3 * step_count p

pub translated_checked : (g : Graph) (p : XPath) → LegalGraph g → LegalPath g.k p → step_count p ≤ step_limit → Checked g p
translated_checked g p graph query few =
    let legal = translated_legal step_limit g graph p query few in
    record { legal = legal; reads_back = program_written legal; long = file_length g p }

-- the buffer as it is left: with the file in it, where there is room
pub translated_stored : (g : Graph) (qry out : List ℕ) {p : XPath} {left n : ℕ} → query_file g.k qry 0 ≡ got (p, left) n → step_count p ≤ step_limit
    → translated_under g qry out ≡ stored (program_bytes (translated g p)) out
unfolding translated_under translated_query bounded_program mapped lent
translated_stored g qry out {p} e few = rw (e, le-leb (step_count p) step_limit few)
