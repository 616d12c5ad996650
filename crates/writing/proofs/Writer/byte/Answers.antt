-- The byte stands in its place.
use Rattle.std.proofs.Common.{rules, refl, length-set}
use Rattle.writing.proofs.Puts.{put_byte}
use Rattle.writing.proofs.Writer.byte.Goals as goal

pub returns : goal.returns
returns c =
    let p = put_byte c.args.self.now.at c.args.value c.args.self.now.out.now c.requires in
    record { there = p.there; behind = p.behind; long = search (rules, length-set); same = refl }
