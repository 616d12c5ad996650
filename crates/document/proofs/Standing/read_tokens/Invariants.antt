-- Invariant: what is to be read is what the tokens from here on come to. Measure: the bytes that are left.
use Rattle.std.proofs.Common.{◌-◌, length}
use Rattle.meaning.specs.Limits.{element_limit}
use Rattle.tre.specs.Tre.{tokens}
use Rattle.document.specs.Inside.States.{open_in}
use Rattle.document.proofs.Reading.{Reaches}
use Rattle.document.proofs.Standing.read_tokens.Given as goal

abbrev pub invariant-loop-standing : goal.invariant-loop-standing
invariant-loop-standing l =
    Reaches (tokens (length l.s) element_limit l.g (open_in l.fn.kept l.fn.self) l.s l.fn.c.at) l.g l.s (open_in l.kept l.standing) l.cursor.at

abbrev pub decreases-loop-standing : goal.decreases-loop-standing
decreases-loop-standing l = length l.s - l.cursor.at
