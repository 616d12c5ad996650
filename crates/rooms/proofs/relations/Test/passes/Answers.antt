-- Each test, by what it asks of the number.
use Rattle.std.proofs.Common.{rules, ◌∙◌, ap, arith, not, eq-eqb}
use Rattle.meaning.specs.Limits.{small}
use Rattle.rooms.proofs.Elements.{pass_always, pass_text, pass_root, pass_related}
use Rattle.rooms.proofs.relations.Test.passes.Goals as goal

pub returns-in-Always : goal.returns-in-Always
returns-in-Always c = rw c.in-Always.is (pass_always small.row c.args.elements.now c.args.work.now c.requires.1)

pub returns-then-v-ne0 : goal.returns-then-v-ne0
returns-then-v-ne0 c = rw c.in-Text.is (pass_text small.row c.args.elements.now c.args.work.now c.in-Text.number c.args.v _ c.requires.1 (omega arith))

pub returns-else-v-ne0 : goal.returns-else-v-ne0
returns-else-v-ne0 c =
    rw c.in-Text.is (ap not (eq-eqb c.args.v 0 c.if-v-ne0.false) ∙ pass_root small.row c.args.elements.now c.args.work.now c.in-Text.number c.if-v-ne0.false)

pub returns-in-Related : goal.returns-in-Related
returns-in-Related c = rw c.in-Related.is (pass_related small.row c.args.elements.now c.args.work.now c.in-Related.a c.args.v _ c.requires.0.few c.first.ensures c.is_some_and.ensures (λ w q. search rules))
