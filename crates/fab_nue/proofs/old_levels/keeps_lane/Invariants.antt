-- The way from here keeps the lane where the whole way does.
use Rattle.std.proofs.Common.{◌<◌, length}
use Rattle.fab_tables.specs.TreeWalks.{walk_of}
use Rattle.fab_nue.specs.OldRoutes.{KeepsLaneFrom}
use Rattle.fab_nue.proofs.old_levels.keeps_lane.Given as goal

abbrev pub invariant-loop-at : goal.invariant-loop-at
invariant-loop-at l = record {
  low : l.at.0 < length l.fabric.switches;
  on : KeepsLaneFrom l.fabric l.old l.tree l.level l.fn.from.0 → KeepsLaneFrom l.fabric l.old l.tree l.level l.at.0;
  back : KeepsLaneFrom l.fabric l.old l.tree l.level l.at.0 → KeepsLaneFrom l.fabric l.old l.tree l.level l.fn.from.0;
}

abbrev pub decreases-loop-at : goal.decreases-loop-at
decreases-loop-at l = length (walk_of l.fabric l.tree l.at.0)
