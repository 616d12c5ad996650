-- Every byte of the room is 0.
use Rattle.std.proofs.Common.{ℕ, ◌≡◌, ◌+◌, ◌-◌, ◌≤◌, ◌∙◌, List, ap, take, drop, replicate, length, rules, arith, length-take, length-drop}
use Rattle.meaning.specs.Limits.{small}
use Rattle.rooms.proofs.Rooms.{cleared}
use Rattle.rooms.proofs.room.Room.clear.Goals as goal

part_length : (xs : List ℕ) (at : ℕ) {n : ℕ} → n ≡ 2048 → at + 2048 ≤ length xs → length (take n (drop at xs)) ≡ 2048
part_length xs at e l = simp (length-take, length-drop) (omega arith)

pub returns : goal.returns
returns c =
    let size : c.args.self.base + 2048 - c.args.self.base ≡ 2048 = omega arith in
    rw size (cleared small.row c.args.work.now c.args.self.base c.requires (c.fill.ensures.after (search rules) ∙ ap (λ (n : ℕ). replicate n 0) (part_length c.args.work.now c.args.self.base size c.requires)))
