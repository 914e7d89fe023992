-- The switches so far have their costs, and the others what the down walks tell of them.
use Rattle.std.proofs.Common.{◌≡◌, ◌+◌, ℕ, length}
use Rattle.fab_updn.specs.Found.{AreDowns, AreSmall}
use Rattle.fab_updn.proofs.Rising.{IsRising}
use Rattle.fab_updn.proofs.costs.count_above.Given as goal

abbrev pub invariant-loop-s : goal.invariant-loop-s
invariant-loop-s l = record {
  whole : length l.costs ≡ length l.fabric.switches;
  small : AreSmall l.costs (length l.fabric.switches + 1 + l.s-index);
  rising : (to : ℕ) → AreDowns l.fabric l.ranks to l.initial.costs → IsRising l.fabric l.ranks to l.order l.s-index l.costs;
}
