use Rattle.std.proofs.Common.{take, ◌≡◌}
use Rattle.fab_model.specs.Topology.{lids_of}
use Rattle.fab_tables.proofs.columns.Columns.are_of.Given as goal

abbrev pub invariant-loop-place : goal.invariant-loop-place
invariant-loop-place l = take l.place l.lid-items ≡ take l.place (lids_of l.fabric)
