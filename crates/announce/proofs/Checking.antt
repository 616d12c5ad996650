-- One law for each answer of the check: the first refusal met, or what is announced.
use Prim.Native.Nat.{ℕ}
use Rattle.std.proofs.Common.{Ok}
use mathlib.Core.Path.{◌≡◌, sym, ap, ◌∙◌}
use mathlib.Core.List.{List}
use lib.ListN.{length, get_or, replicate}
use borrow.Author.Rules.{rules}
use Rattle.meaning.specs.declared.Graph.{Graph}
use Rattle.meaning.specs.declared.Operation.{Operation}
use Rattle.meaning.specs.declared.Refusal.{Refusal}
use Rattle.meaning.specs.Limits.{kinds, step_limit}
use Rattle.meaning.specs.Relations.{nothing, at}
use Rattle.meaning.specs.Graphs.{LegalGraph}
use Rattle.meaning.specs.Announcements.{announced}
use Rattle.meaning.specs.Inside.Records.{operations_in}
use Rattle.meaning.specs.Refused.{number_of}
use Rattle.fields.specs.Read.{got, refused}
use Rattle.graph.specs.Gra.{graph_file}
use Rattle.rel.specs.Rel.{program_file}
use Rattle.meaning.specs.declared.Program.{Program}
use Rattle.files.specs.declared.Under.{Under}
use Rattle.files.specs.Inside.Opens.{Opens, OfProgram}
use Rattle.files.specs.Files.{program_under}
use Rattle.files.proofs.Handed.{under_got, mapped_got, mapped_refused}
use Rattle.masks.specs.declared.Announced.{Announced}
use Rattle.masks.specs.Inside.Pairs.{LegalUnder}
use Rattle.masks.specs.Announcement.{announcement, rel_of}
use Rattle.masks.proofs.Announcement.{nothing_on, sets_made, blank, announcement_shown}
use Rattle.announce.specs.Check.{checked, check_of}

pub refused_made : (r : Refusal) (n : ℕ) (e : Announced) → n ≡ number_of r.reason → length e.pairs ≡ kinds → rel_of e ≡ nothing
    → record { number = n; steps = replicate step_limit e } ≡ checked (refused r)
unfolding checked
refused_made r n e q l h = rw (q, sets_made nothing nothing_on e l h)

module _ (gra rel : List ℕ) where
  pub check_away : {r : Refusal} → program_under gra rel ≡ refused r → checked (refused r) ≡ check_of gra rel
  unfolding check_of
  check_away h = sym (ap checked (mapped_refused _ h))

  module _ (o : Under Program) (p : Opens (program_under gra rel) (Ok o) OfProgram) where
    pub check_all : {steps : List Announced} → steps ≡ announcement o.graph (operations_in o.read) → record { number = 0; steps = steps } ≡ check_of gra rel
    unfolding check_of checked
    check_all e = let (x, n, q, w) = p in sym (ap checked (mapped_got _ q) ∙ rw (w.graph, w.steps, e))

    pub check_legal : LegalUnder o.graph o.read
    check_legal = let (x, n, q, w) = p in record { graph = w.legal; program = w.lawful; count = rw (← w.whole) w.lawful.most_steps; numbered = w.numbered }

-- the check's answer shows what is announced for each step, and nothing past the end
pub check_shows : (gra rel : List ℕ) {g : Graph} {os : List Operation} {m n : ℕ} → LegalGraph g → graph_file gra 0 ≡ got g m → program_file g.k rel 0 ≡ got os n
    → (s : ℕ) → rel_of (get_or (check_of gra rel).steps s blank) ≡ at (announced g os) s
unfolding check_of checked
check_shows gra rel {g} {os} legal e q s = rw (mapped_got (λ x. announcement x.0 x.1) (under_got gra (λ g. program_file g.k rel 0) e q)) (announcement_shown g legal os s)

pub ruleset answers = (refused_made, rules)
