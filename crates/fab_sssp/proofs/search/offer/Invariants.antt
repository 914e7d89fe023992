-- The reverses of the channels so far have offered.
use Rattle.std.proofs.Common.{ℕ, ◌+◌, ◌≤◌, heap_items, heap_len}
use Rattle.std.specs.BinaryHeap.{IsHeap}
use Rattle.fab_sssp.specs.WeightTables.{weight_of}
use Rattle.fab_sssp.specs.Nearing.{nearest_last, IsNearing, AreReached, LeadsElsewhere, LeadsElsewhereOrBefore}
use Rattle.fab_sssp.proofs.search.offer.Given as goal

abbrev pub invariant-loop-leaving : goal.invariant-loop-leaving
invariant-loop-leaving l = record {
  heap : IsHeap nearest_last (heap_items l.offers);
  few : heap_len l.offers + l.first ≤ heap_len l.fn.offers + l.leaving;
  reached : AreReached l.fabric l.found (heap_items l.offers) l.least;
  offered : (to : ℕ) → IsNearing l.fabric (λ c. weight_of l.weights c) to l.found (heap_items l.fn.offers) (LeadsElsewhere l.fabric l.fn.settled.0) →
      IsNearing l.fabric (λ c. weight_of l.weights c) to l.found (heap_items l.offers) (LeadsElsewhereOrBefore l.fabric l.fn.settled.0 l.leaving);
}
