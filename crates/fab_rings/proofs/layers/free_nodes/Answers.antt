use Rattle.fab_rings.proofs.Layering.FreeNodes.{free_more, free_same, all_free}
use Rattle.fab_rings.proofs.layers.free_nodes.Goals as goal
use Rattle.fab_rings.proofs.layers.free_nodes.Goals.{then-left-node-eq0+in_ok-push, else-left-node-eq0}

pub loop-node-preserved : goal.loop-node-preserved
loop-node-preserved c = elim c.if-left-node-eq0.branch [
  | then-left-node-eq0+in_ok-push w ↦ rw (w.layer-is, w.in_ok-push.ensures.items) (free_more c.args.nodes c.args.left.now c.loop-node.layer.items c.loop-node.node c.loop-node-test.true c.loop-node.invariant w.if-left-node-eq0.true)
  | else-left-node-eq0 w ↦ rw w.layer-is (free_same c.args.nodes c.args.left.now c.loop-node.layer.items c.loop-node.node c.loop-node-test.true c.loop-node.invariant w.if-left-node-eq0.false)
]

pub returns : goal.returns
returns c = all_free c.args.nodes c.args.left.now c.loop-node.layer.items c.loop-node.node c.loop-node-test.false c.loop-node.invariant.0 c.loop-node.invariant.1
