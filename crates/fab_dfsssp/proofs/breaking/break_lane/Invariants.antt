use Rattle.fab_dfsssp.specs.Assigned.{IsBrokenBelow}
use Rattle.fab_dfsssp.specs.LaneCounts.{CountsLane}
use Rattle.fab_dfsssp.specs.LaneEdges.{HasNoRingBelow}
use Rattle.fab_dfsssp.proofs.breaking.break_lane.Given as goal

abbrev pub invariant-loop-channel : goal.invariant-loop-channel
invariant-loop-channel l = record {
  before : IsBrokenBelow l.fabric l.tables l.fn.lanes.count l.lane l.lanes;
  counts : CountsLane l.fabric l.tables l.lanes l.lane l.edges;
  below : HasNoRingBelow l.fabric l.tables l.lanes l.lane l.channel;
}
