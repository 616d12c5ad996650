-- The elements below i keep both rules, so the others decide.
use Rattle.std.proofs.Common.{length, []}
use Rattle.edg.specs.Edg.{elements_judged}
use Rattle.tables.proofs.Elements.{Judging}
use Rattle.tables.proofs.Climbable.judge_elements.Given as goal

abbrev pub invariant-loop-i : goal.invariant-loop-i
invariant-loop-i l = Judging l.g l.self.elements.now (elements_judged l.g l.self.elements.now 1 (length l.self.elements.now) [] l.end.at) l.end.at l.i
