-- What a reader alone answers.
use Prim.Native.Nat.{ℕ}
use Rattle.std.proofs.Common.{Ok, Err, Result, MatchResult, IsOkAnd}
use mathlib.Core.Path.{◌≡◌, refl, sym, ap, ◌∙◌}
use mathlib.Core.List.{List}
use lib.ListN.{length}
use Rattle.meaning.specs.declared.Element.{Element}
use Rattle.meaning.specs.declared.Graph.{Graph}
use Rattle.meaning.specs.declared.Operation.{Operation}
use Rattle.meaning.specs.declared.Refusal.{Refusal}
use Rattle.fields.specs.Read.{Read, mapped}
use Rattle.fields.specs.Inside.Outcomes.{file_of}
use Rattle.writing.specs.Lent.{accepted}
use Rattle.writing.specs.Inside.Made.{answer_for}
use Rattle.graph.specs.Gra.{graph_file}
use Rattle.graph.proofs.Known.{graph_turned, graph_held}
use Rattle.meaning.specs.declared.Program.{Program}
use Rattle.files.specs.declared.Under.{Under}
use Rattle.files.specs.Inside.Opens.{Opens, OfElements, OfProgram}
use Rattle.files.proofs.Handed.{mapped_got, mapped_refused}
use Rattle.trammelbud.specs.Calls.{answer_of}

-- what is answered of a reading, f of which is counted
pub counted : {A V : Type 0} (e : Read A) (f : A → ℕ) {P : V → A → Type 0} (r : Result V Refusal) → Opens e r P → (made : Result ℕ Refusal) {Q : V → ℕ → Type 0} → MatchResult r (λ v. IsOkAnd made (Q v)) (λ q. made ≡ Err q)
    → ((v : V) (a : A) (n : ℕ) → P v a → Q v n → n ≡ f a) → answer_for made ≡ answer_of (mapped f e)
unfolding answer_of
counted e f (Ok v) (a, n, h, w) (Ok m) is same = ap accepted (same v a m w is) ∙ sym (ap answer_of (mapped_got f h))
counted e f (Ok v) h (Err q) is same = absurd is
counted e f (Err q) h made is same = ap answer_for is ∙ sym (ap answer_of (mapped_refused f h))

-- a graph is read with nothing before it
pub graph_opens : (gra : List ℕ) (r : Result Graph Refusal) → r ≡ file_of (graph_file gra 0) → Opens (graph_file gra 0) r (λ g a. g.k ≡ a.k)
graph_opens gra (Ok g) h = let held = graph_held gra h in (g, _, held.1, refl)
graph_opens gra (Err q) h = graph_turned gra h

-- how many elements there are, and steps
pub elements_whole : {kept : List Element} {o : Under ℕ} {x : Graph × List Element} → OfElements kept o x → length x.1 ≡ o.read
elements_whole w = rw w.elements w.whole

pub steps_whole : {o : Under Program} {x : Graph × List Operation} → OfProgram o x → length x.1 ≡ o.read.count
steps_whole w = rw w.steps w.whole
