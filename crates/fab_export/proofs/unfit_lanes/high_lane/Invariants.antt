use Rattle.std.specs.Prelude.{◌&&◌, nat_le, slice_index_or}
use Rattle.fab_tables.specs.LaneTables.{lane}
use Rattle.fab_export.proofs.FirstFound.{NoneBelow}
use Rattle.std.proofs.Common.{false}
use Rattle.fab_export.proofs.unfit_lanes.high_lane.Given as goal

abbrev pub invariant-loop-level : goal.invariant-loop-level
invariant-loop-level l = NoneBelow (λ k. slice_index_or l.used k false && nat_le l.bound (lane l.lanes 0 k)) l.level
