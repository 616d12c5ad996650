-- From one node to its parent there is one less to ask for; from the document node nothing is met.
use Rattle.tables.proofs.Elements.{climb_start, climb_again, climb_end}
use Rattle.tables.proofs.Climbable.is_at_or_above.Goals as goal

pub loop-node-init : goal.loop-node-init
loop-node-init c = climb_start _ _ _ c.requires

pub loop-node-preserved : goal.loop-node-preserved
loop-node-preserved c = climb_again c.loop-node.invariant c.loop-node-test.true c.args.self.falling c.node_at-node.ensures c.if-v-node.false

pub returns : goal.returns
returns c = climb_end c.loop-node.invariant c.loop-node-test.false
