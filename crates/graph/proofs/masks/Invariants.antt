-- Before turn i the masks of the types below i are in place, and what is left of the reading fills the rest.
use Rattle.graph.proofs.MaskReading.{Sofar}
use Rattle.graph.proofs.masks.Given as goal

abbrev pub invariant-loop-i : goal.invariant-loop-i
invariant-loop-i l = Sofar l.s l.k l.fn.c.at l.masks l.cursor.at l.i
