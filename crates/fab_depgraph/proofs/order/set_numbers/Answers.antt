use Rattle.fab_depgraph.proofs.Ordering.Loops.{numbered_more}
use Rattle.fab_depgraph.proofs.order.set_numbers.Goals as goal

pub loop-place-preserved : goal.loop-place-preserved
loop-place-preserved c = numbered_more c.args.first c.args.channels.now c.args.numbers.now c.loop-place.numbers c.loop-place.place c.loop-place-test.true c.requires.known c.requires.differ c.loop-place.invariant
