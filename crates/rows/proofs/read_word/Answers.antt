-- The word has the bits of its bytes.
use Rattle.std.proofs.Common.{◌≡◌, ◌+◌, ◌-◌, arith}
use Rattle.rows.specs.Inside.Rows.{stretch}
use Rattle.rows.proofs.Words.{word_read}
use Rattle.rows.proofs.read_word.Goals as goal

pub returns : goal.returns
unfolding stretch
returns c =
    let eight : c.args.at + 8 - c.args.at ≡ 8 = omega arith in
    let whole = rw (c.unwrap.ensures, eight) at c.as_array.ensures.cases in
    word_read c.args.bytes.now c.args.at c.requires (λ i. (c.type_inv.bytes i).fits) c.from_le_bytes.type_inv whole.same c.from_le_bytes.ensures
