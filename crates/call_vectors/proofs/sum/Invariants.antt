-- A sum below the modulus times 251 fits, with a byte.
use Rattle.std.proofs.Common.{◌<◌}
use Rattle.call_vectors.proofs.sum.Given as goal

abbrev pub invariant-loop-byte : goal.invariant-loop-byte
invariant-loop-byte l = l.sum < 72057594037927931
