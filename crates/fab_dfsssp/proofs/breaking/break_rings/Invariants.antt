use Rattle.std.proofs.Common.{◌≡◌, ℕ, length}
use Rattle.fab_graph.specs.Walks.{IsOnClosedWalk}
use Rattle.fab_rings.specs.Nearness.{near_of}
use Rattle.fab_dfsssp.specs.Assigned.{IsBrokenBelow}
use Rattle.fab_dfsssp.specs.CountedEdges.{IsCounted}
use Rattle.fab_dfsssp.specs.KeptNear.{AreKeptNear}
use Rattle.fab_dfsssp.specs.LaneCounts.{CountsLane}
use Rattle.fab_dfsssp.specs.LaneEdges.{HasNoRingBelow}
use Rattle.fab_dfsssp.proofs.LevelsLeft.{levels_left}
use Rattle.fab_dfsssp.proofs.breaking.break_rings.Given as goal

abbrev pub invariant-loop-near : goal.invariant-loop-near
invariant-loop-near l = record {
  before : IsBrokenBelow l.fabric l.tables l.fn.lanes.count l.lane l.lanes;
  counts : CountsLane l.fabric l.tables l.lanes l.lane l.edges;
  below : HasNoRingBelow l.fabric l.tables l.lanes l.lane l.channel;
  each : length l.near.items ≡ length l.fabric.channels;
  kept : AreKeptNear (λ a b. IsCounted l.edges a b) l.channel l.near.items;
  none : near_of l.near.items l.channel ≡ 0 → ¬ IsOnClosedWalk (λ (a b : ℕ). IsCounted l.edges a b) l.channel;
}

abbrev pub decreases-loop-near : goal.decreases-loop-near
decreases-loop-near l = levels_left l.fabric l.fn.lanes.count l.lanes
