-- The packets to the LIDs so far are offered.
use Rattle.std.proofs.Common.{◌≤◌, length}
use Rattle.fab_model.specs.Topology.{lids_of}
use Rattle.fab_drain.specs.Offers.{IsFilledBefore, behind_lids}
use Rattle.fab_drain.proofs.filling.filled.Given as goal

abbrev pub invariant-loop-lid : goal.invariant-loop-lid
invariant-loop-lid l = record {
  within : l.lid-index ≤ length (lids_of l.fabric);
  filled : IsFilledBefore l.fabric l.plan (behind_lids (lids_of l.fabric) l.lid-index) l.state;
}
