use Rattle.std.proofs.Common.{◌<◌, length, slice_index_or}
use Rattle.fab_rings.proofs.Returning.ReachingTails.{reaches_none, reaches_new, reaches_old}
use Rattle.fab_dfsssp.proofs.nearness.reach_tails.Goals as goal
use Rattle.fab_dfsssp.proofs.nearness.reach_tails.Goals.{then-near-node-eq0+in_ok-push, else-near-node-eq0}

pub loop-tail-init : goal.loop-tail-init
loop-tail-init c = reaches_none c.args.distance c.args.near.now c.args.next.now.items

pub loop-tail-preserved : goal.loop-tail-preserved
loop-tail-preserved c =
    let tails = c.args.tails.now in
    let old = c.args.near.now in
    let near = c.loop-tail.near in
    let i = c.loop-tail.tail-index in
    let within : slice_index_or tails i 0 < length old = c.requires.nodes i 0 c.loop-tail-test.true in
    elim c.if-near-node-eq0.branch [
      | then-near-node-eq0+in_ok-push w ↦
          rw (w.near-is, w.next-is, w.in_ok-push.ensures.items) (reaches_new tails c.args.distance c.requires.some old near c.args.next.now.items c.loop-tail.next.items i c.loop-tail-test.true within c.loop-tail.invariant w.if-near-node-eq0.true)
      | else-near-node-eq0 w ↦
          rw (w.near-is, w.next-is) (reaches_old tails c.args.distance c.requires.some old near c.args.next.now.items c.loop-tail.next.items i c.loop-tail-test.true within c.loop-tail.invariant w.if-near-node-eq0.false)
    ]
