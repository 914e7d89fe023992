-- The search is under way. Each turn takes an offer, and settles a switch or makes no new one.
use Rattle.std.proofs.Common.{◌+◌, ◌*◌, length, count_by, is_none, heap_items, heap_len}
use Rattle.std.specs.BinaryHeap.{IsHeap}
use Rattle.fab_sssp.specs.WeightTables.{weight_of}
use Rattle.fab_sssp.specs.Nearing.{nearest_last, AreReached, IsNearing, IsAnyChannel}
use Rattle.fab_sssp.proofs.search.distances.Given as goal

abbrev pub invariant-loop-distance : goal.invariant-loop-distance
invariant-loop-distance l = record {
  heap : IsHeap nearest_last (heap_items l.offers);
  near : IsNearing l.fabric (λ c. weight_of l.weights c) l.fn.to.0 l.found.items (heap_items l.offers) IsAnyChannel;
  reached : AreReached l.fabric l.found.items (heap_items l.offers) l.least.items;
}

abbrev pub decreases-loop-distance : goal.decreases-loop-distance
decreases-loop-distance l = count_by is_none l.found.items * (length l.fabric.channels + 1) + heap_len l.offers
