-- What is summed, and the rest of the way, weigh as much as the whole.
use Rattle.std.proofs.Common.{◌≡◌, ◌<◌, ◌+◌, length}
use Rattle.fab_tables.specs.TreeWalks.{walk_of}
use Rattle.fab_sssp.specs.WeightTables.{weight_of}
use Rattle.fab_sssp.specs.LeastWeight.{weight_along}
use Rattle.fab_nue.specs.Search.{way_weight}
use Rattle.fab_nue.proofs.weighing.weight_of_way.Given as goal

abbrev pub invariant-loop-next : goal.invariant-loop-next
invariant-loop-next l = record {
  low : l.at.0 < length l.fabric.switches;
  whole : l.weight + weight_along (λ c. weight_of l.weights c) (walk_of l.fabric l.tree l.at.0) ≡ way_weight l.fabric (λ c. weight_of l.weights c) l.tree l.fn.channel.0;
}

abbrev pub decreases-loop-next : goal.decreases-loop-next
decreases-loop-next l = length (walk_of l.fabric l.tree l.at.0)
