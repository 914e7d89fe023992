-- The channels so far are weighed.
use Rattle.std.proofs.Common.{◌≡◌}
use Rattle.fab_sssp.specs.WeightTables.{weight_of}
use Rattle.fab_nue.proofs.Heaps.Rebuilding.{HoldsBefore}
use Rattle.fab_nue.proofs.rebuilding.weigh_anew.Given as goal

abbrev pub invariant-loop-number : goal.invariant-loop-number
invariant-loop-number l = record {
  room : l.choices.room ≡ l.fn.choices.room;
  holds : HoldsBefore l.fabric (λ c. weight_of l.weights c) l.to.0 l.tree l.number l.choices.entries;
}
