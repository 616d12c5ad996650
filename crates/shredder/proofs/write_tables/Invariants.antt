-- The tables of the types so far are written, and those of the others are still to come.
use Prim.Native.Nat.{◌-◌}
use Rattle.edg.specs.Edg.{tables_of}
use Rattle.writing.proofs.Toward.{Toward}
use Rattle.shredder.proofs.write_tables.Given as goal

abbrev pub invariant-loop-t : goal.invariant-loop-t
invariant-loop-t l = Toward (tables_of l.elements 0 l.k) l.fn.w (tables_of l.elements l.t (l.k - l.t)) l.w
