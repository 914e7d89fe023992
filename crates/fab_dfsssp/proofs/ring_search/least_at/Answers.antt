use Rattle.fab_rings.proofs.Returning.LeastAt.{passed, takes_lesser, takes_first}
use Rattle.fab_dfsssp.proofs.ring_search.least_at.Goals as goal
use Rattle.fab_dfsssp.proofs.ring_search.least_at.Goals.{then-near-node+in-Some, then-near-node+in-None, else-near-node}

pub loop-node-preserved : goal.loop-node-preserved
loop-node-preserved c =
    let nodes = c.args.nodes.now in
    let near = c.args.near.now in
    let i = c.loop-node.node-index in
    let low = c.loop-node-test.true in
    elim c.if-near-node.branch [
      | then-near-node+in-Some w ↦
          rw (w.least-is, w.min.ensures) (takes_lesser nodes near c.args.distance i low w.in-Some.other w.if-near-node.true (rw w.in-Some.is at c.loop-node.invariant))
      | then-near-node+in-None w ↦
          rw w.least-is (takes_first nodes near c.args.distance i low w.if-near-node.true (rw w.in-None.is at c.loop-node.invariant))
      | else-near-node w ↦
          rw w.least-is (passed nodes near c.args.distance i low c.loop-node.least w.if-near-node.false c.loop-node.invariant)
    ]
