-- What is above the node reached is what is left to know, and each parent has a smaller number.
use mathlib.Core.Bool.{◌&&◌, ◌||◌}
use lib.Dec.{eqb, ltb}
use Rattle.meaning.specs.Documents.{view, below}
use Rattle.tables.proofs.Elements.{Climbing}
use Rattle.tables.proofs.Climbable.is_at_or_above.Given as goal

abbrev pub invariant-loop-node : goal.invariant-loop-node
invariant-loop-node l =
    Climbing l.self.elements.now (ltb 0 l.v && (eqb l.v l.w || below (view l.self.elements.now) l.v l.w)) l.v l.node

abbrev pub decreases-loop-node : goal.decreases-loop-node
decreases-loop-node l = l.node
