-- The word's bytes stand there, and all else stays.
use Rattle.std.proofs.Common.{arith, ◌≡◌, ◌+◌, ◌-◌, ◌∙◌}
use Rattle.rows.proofs.Words.{word_written}
use Rattle.rows.proofs.write_word.Goals as goal

pub returns : goal.returns
returns c =
    let eight : c.args.at + 8 - c.args.at ≡ 8 = omega arith in
    rw eight (word_written c.args.work.now c.args.at c.args.word c.requires c.ranges.word.fits (c.copy_from_slice.ensures.after ∙ c.to_le_bytes.ensures))
