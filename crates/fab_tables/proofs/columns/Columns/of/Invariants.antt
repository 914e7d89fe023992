use Rattle.std.proofs.Common.{take, ◌≡◌}
use Rattle.fab_model.specs.Topology.{lids_of}
use Rattle.fab_tables.proofs.columns.Columns.of.Given as goal

abbrev pub invariant-loop-lid : goal.invariant-loop-lid
invariant-loop-lid l = l.lids.items ≡ take l.lid-index (lids_of l.fabric)
