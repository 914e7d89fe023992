use Rattle.std.proofs.Common.{◌<◌, length, slice_index_or}
use Rattle.fab_rings.proofs.Layering.TakingEdges.{one_left, frees, keeps_waiting}
use Rattle.fab_rings.proofs.layers.take_edges.Goals as goal
use Rattle.fab_rings.proofs.layers.take_edges.Goals.{then-left-node-eq0+in_ok-push, else-left-node-eq0}

pub overflow_sub-left : goal.overflow_sub-left
overflow_sub-left c = one_left c.args.successors.now c.args.left.now c.loop-successor.left c.args.next.now.items c.loop-successor.next.items c.loop-successor.successor-index c.loop-successor-test.true
    (c.requires.nodes c.loop-successor.successor-index 0 c.loop-successor-test.true) c.requires.counts c.loop-successor.invariant

pub loop-successor-preserved : goal.loop-successor-preserved
loop-successor-preserved c =
    let xs = c.args.successors.now in
    let old = c.args.left.now in
    let left = c.loop-successor.left in
    let i = c.loop-successor.successor-index in
    let within : slice_index_or xs i 0 < length old = c.requires.nodes i 0 c.loop-successor-test.true in
    elim c.if-left-node-eq0.branch [
      | then-left-node-eq0+in_ok-push w ↦
          rw (w.next-is, w.in_ok-push.ensures.items) (frees xs old left c.args.next.now.items c.loop-successor.next.items i c.loop-successor-test.true within c.requires.counts c.loop-successor.invariant w.if-left-node-eq0.true)
      | else-left-node-eq0 w ↦
          rw w.next-is (keeps_waiting xs old left c.args.next.now.items c.loop-successor.next.items i c.loop-successor-test.true within c.requires.counts c.loop-successor.invariant w.if-left-node-eq0.false)
    ]
