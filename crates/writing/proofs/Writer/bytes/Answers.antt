-- The bytes stand in their part of the buffer.
use Rattle.std.proofs.Common.{refl, arith, length, ◌+◌, ◌-◌}
use Rattle.writing.proofs.Puts.{put_part, put_length}
use Rattle.writing.proofs.Writer.bytes.Goals as goal

pub returns : goal.returns
returns c =
    let w = c.args.self.now in
    let p = put_part w.at (w.at + length c.args.bytes.now - w.at) w.out.now c.copy_from_slice.ensures.after (omega arith) in
    record { there = p.there; behind = refl; long = put_length c.requires p; same = refl }
