use Rattle.fab_rings.proofs.Searching.Numbered.{none_numbered, next_numbered}
use Rattle.fab_rings.proofs.strong_components.set_numbers.Goals as goal

pub loop-node-init : goal.loop-node-init
loop-node-init c = none_numbered c.args.number c.args.numbers.now

pub loop-node-preserved : goal.loop-node-preserved
loop-node-preserved c =
    next_numbered c.args.nodes.now c.args.number c.args.numbers.now c.loop-node.numbers c.loop-node.node-index c.loop-node-test.true (c.requires c.loop-node.node-index 0 c.loop-node-test.true) c.loop-node.invariant
