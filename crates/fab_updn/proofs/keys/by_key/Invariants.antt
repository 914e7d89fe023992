-- The switches so far, with their ranks.
use Rattle.fab_updn.proofs.KeyOrders.{AreRanked}
use Rattle.fab_updn.proofs.keys.by_key.Given as goal

abbrev pub invariant-loop-index : goal.invariant-loop-index
invariant-loop-index l = AreRanked l.ranks l.index l.ranked.items
