-- The channels so far are offered.
use Rattle.std.proofs.Common.{◌≡◌, ◌+◌}
use Rattle.fab_sssp.specs.WeightTables.{weight_of}
use Rattle.fab_nue.specs.Offers.{Offers}
use Rattle.fab_nue.proofs.Heaps.Offering.{ReversesOne}
use Rattle.fab_nue.proofs.offering.offer.Given as goal

abbrev pub invariant-loop-leaving : goal.invariant-loop-leaving
invariant-loop-leaving l = record {
  room : l.choices.room ≡ l.fn.choices.room;
  offered : Offers l.fabric l.to.0 l.tree (λ c. weight_of l.weights c + l.way) (ReversesOne l.fabric l.fn.settled.0 l.leaving) l.fn.choices.entries l.choices.entries;
}
