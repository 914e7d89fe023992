-- The switches so far have what the down walks tell of them, and the others nothing.
use Rattle.std.proofs.Common.{length, reverse}
use Rattle.fab_updn.proofs.Falling.{IsFalling}
use Rattle.fab_updn.proofs.costs.count_below.Given as goal

abbrev pub invariant-loop-s : goal.invariant-loop-s
invariant-loop-s l = IsFalling l.fabric l.ranks l.fn.to.0 (reverse l.order) (length l.yielded) l.costs
