-- A run on files: a refusal ends it, and else the program is run over the elements.
use Prim.Native.Nat.{ℕ}
use Rattle.std.proofs.Common.{Ok}
use lib.ListN.{take}
use mathlib.Core.Path.{◌≡◌}
use mathlib.Core.List.{List}
use Rattle.meaning.specs.declared.Answer.{Answer}
use Rattle.meaning.specs.declared.Element.{Element}
use Rattle.meaning.specs.declared.Graph.{Graph}
use Rattle.meaning.specs.declared.Operation.{Operation}
use Rattle.meaning.specs.declared.Refusal.{Refusal}
use Rattle.meaning.specs.Limits.{element_limit}
use Rattle.meaning.specs.Documents.{view}
use Rattle.meaning.specs.Inside.Records.{operations_in}
use Rattle.fields.specs.Read.{got, refused}
use Rattle.graph.specs.Gra.{graph_file}
use Rattle.edg.specs.Edg.{tables_file}
use Rattle.rel.specs.Rel.{program_file}
use Rattle.writing.specs.Lent.{turned_away}
use Rattle.files.specs.declared.Runnable.{Runnable}
use Rattle.files.specs.Inside.Opens.{Opens, OfTablesThenProgram}
use Rattle.files.specs.Files.{followed_by, tables_then_program}
use Rattle.files.proofs.Handed.{under_got, then_got, mapped_got, mapped_refused}
use Rattle.rooms.specs.Inside.FitToRun.{FitToRun}
use Rattle.rooms.specs.Run.{performed, Gives}
use Rattle.runner.specs.Run.{ran, to_run, run_of}
use Rattle.runner.proofs.Prepared.{ready}

-- what was read of files that are accepted is performed
pub runs_as : (gra edg rel out work : List ℕ) {g : Graph} {es : List Element} {os : List Operation} {l m n : ℕ}
    → graph_file gra 0 ≡ got g l → tables_file element_limit g edg 0 ≡ got es m → program_file g.k rel 0 ≡ got os n → run_of gra edg rel out work ≡ performed (view es) os out work
unfolding run_of ran
runs_as gra edg rel out work {g} e f h =
    rw (mapped_got to_run (under_got gra (λ g. followed_by (tables_file element_limit g edg 0) (program_file g.k rel 0)) e (then_got (tables_file element_limit g edg 0) (program_file g.k rel 0) f h)))

module _ (gra edg rel : List ℕ) where
  pub run_away : (out work : List ℕ) {r : Refusal} → tables_then_program gra edg rel ≡ refused r → Gives (run_of gra edg rel out work) (turned_away r) out work
  unfolding run_of ran
  run_away out work h = rw (mapped_refused to_run h)

  module _ (kept : List Element) (o : Runnable) (p : Opens (tables_then_program gra edg rel) (Ok o) (OfTablesThenProgram kept)) where
    pub run_ready : FitToRun (take o.count kept) o.program
    run_ready = let (x, n, q, w) = p in ready x.0 w.elements.legal w.elements.accepted w.steps.lawful w.steps.whole w.steps.numbered

    pub run_on : (out work : List ℕ) {a : Answer} {out' work' : List ℕ} → Gives (performed (view (take o.count kept)) (operations_in o.program) out work) a out' work'
        → Gives (run_of gra edg rel out work) a out' work'
    unfolding run_of ran
    run_on out work l = let (x, n, q, w) = p in rw (mapped_got to_run q, w.elements.elements, w.steps.steps) l
