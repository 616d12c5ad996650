-- What the program's reading was of which this program was handed on.
use Rattle.std.proofs.Common.{ℕ, ◌≡◌, sym, ap, ◌∙◌, List, length, get_or, Ok, w8, Fits}
use Rattle.meaning.specs.declared.Program.{Program}
use Rattle.meaning.specs.Limits.{step_limit}
use Rattle.meaning.specs.Operations.{LegalProgram}
use Rattle.meaning.specs.Inside.Records.{program_of, operations_in}
use Rattle.meaning.proofs.Records.{program_holds}
use Rattle.fields.specs.Read.{got, mapped}
use Rattle.fields.specs.Inside.Outcomes.{file_of}
use Rattle.fields.proofs.Outcomes.{mapped_held}
use Rattle.rel.specs.Rel.{program_file}
use Rattle.rel.proofs.File.{program_read_lem}

-- its operations were read, as many as it counts
pub record ProgramHeld (k : ℕ) (rel : List ℕ) (p : Program) : Type 0 where
  pub at : ℕ
  pub reads : program_file k rel 0 ≡ got (operations_in p) at
  pub whole : length (operations_in p) ≡ p.count

pub program_held : (k : ℕ) (rel : List ℕ) {p : Program} → Ok p ≡ file_of (mapped program_of (program_file k rel 0)) → ProgramHeld k rel p
unfolding program_of
program_held k rel h =
    let (os, at, e, made) = mapped_held program_of (program_file k rel 0) h in
    rw made (record { at = at; reads = e ∙ ap (λ l. got l at) (sym (program_holds os)); whole = ap length (program_holds os) })

pub program_legal : (k : ℕ) (rel : List ℕ) {p : Program} → ProgramHeld k rel p → ((i : ℕ) → Fits w8 (get_or rel i 0)) → LegalProgram step_limit k (operations_in p)
program_legal k rel h bytes = (program_read_lem (λ i. (bytes i).fits) h.reads).0
