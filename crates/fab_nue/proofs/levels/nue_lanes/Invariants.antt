-- The LIDs so far have their levels.
use Rattle.std.specs.Prelude.{option_copied}
use Rattle.fab_model.specs.Topology.{lids_of}
use Rattle.fab_nue.specs.Levels.{level_given}
use Rattle.fab_nue.proofs.Lanes.Leveling.{AreLeveled, IsBefore}
use Rattle.fab_nue.proofs.levels.nue_lanes.Given as goal

abbrev pub invariant-loop-lid : goal.invariant-loop-lid
invariant-loop-lid l = AreLeveled l.fabric l.count (λ s lid. level_given l.fabric l.count (option_copied l.old) l.kept s lid) (IsBefore (lids_of l.fabric) l.lid-index 0) l.lanes

abbrev pub invariant-loop-s : goal.invariant-loop-s
invariant-loop-s l = AreLeveled l.fabric l.count (λ s lid. level_given l.fabric l.count (option_copied l.old) l.kept s lid) (IsBefore (lids_of l.fabric) l.lid-index l.s) l.lanes
