-- One field behind another, by a writer.
use Rattle.std.proofs.Common.{ℕ, List, [], ◌++◌, ◌+◌, length, refl, sym, ap, ◌∙◌, arith, length-append}
use Rattle.fields.specs.Write.{byte_of, word_of}
use Rattle.writing.specs.Lent.{over}
use Rattle.writing.specs.declared.Writer.{Writer}
use Rattle.writing.specs.Inside.Wrote.{Wrote}
use Rattle.writing.proofs.Puts.{over_more, over_nothing}

pub wrote_nothing : (w : Writer) → Wrote [] w w
wrote_nothing w = record { there = sym (over_nothing w.at w.out.now); behind = omega arith; long = refl; same = refl }

-- a field, then what follows it
pub wrote_then : {bs cs : List ℕ} {old mid new : Writer} → Wrote bs old mid → Wrote cs mid new → Wrote (bs ++ cs) old new
wrote_then {bs} {cs} {old} {mid} {new} p q =
    record {
      there = q.there ∙ ap (λ n. over n cs mid.out.now) p.behind ∙ ap (λ x. over (old.at + length bs) cs x) p.there ∙ over_more old.at bs cs old.out.now;
      behind = omega (arith, p.behind, q.behind, length-append bs cs);
      long = q.long ∙ p.long;
      same = q.same ∙ p.same;
    }

pub wrote_bytes_word : (a b w : ℕ) {old x y new : Writer} → Wrote (byte_of a) old x → Wrote (byte_of b) x y → Wrote (word_of w) y new
    → Wrote (byte_of a ++ byte_of b ++ word_of w) old new
wrote_bytes_word a b w p q r = wrote_then (wrote_then p q) r
