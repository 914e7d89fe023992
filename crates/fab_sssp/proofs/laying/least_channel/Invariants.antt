-- The channels so far begin no walk of least weight.
use Rattle.fab_sssp.specs.WeightTables.{weight_of}
use Rattle.fab_sssp.proofs.Walks.LeastChannels.{AreMissed}
use Rattle.fab_sssp.proofs.laying.least_channel.Given as goal

abbrev pub invariant-loop-number : goal.invariant-loop-number
invariant-loop-number l = AreMissed l.fabric (λ c. weight_of l.weights c) l.fn.s.0 l.fn.to.0 l.distance l.number
