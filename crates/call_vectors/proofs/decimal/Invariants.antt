-- A value below 100,000 keeps the products small.
use Rattle.std.proofs.Common.{◌<◌}
use Rattle.call_vectors.proofs.decimal.Given as goal

abbrev pub invariant-loop-glyph : goal.invariant-loop-glyph
invariant-loop-glyph l = l.value < 100000
