use Rattle.fab_model.specs.Topology.{lids_of}
use Rattle.fab_tables.specs.LaneTables.{LaneTables}
use Rattle.fab_certify.specs.EnginePlans.{AreEngineLanes}
use Rattle.fab_dfsssp.proofs.LanesStarted.{IsPath}
use Rattle.fab_dfsssp.proofs.Releveling.{IsReleveled, IsOfFirst, IsSoFar}
use Rattle.fab_dfsssp.proofs.starting.start_lanes.Given as goal

abbrev pub invariant-loop-s : goal.invariant-loop-s
invariant-loop-s l = (old : LaneTables) × AreEngineLanes l.fabric l.count old × IsReleveled l.fabric (IsPath l.fabric) (IsSoFar (lids_of l.fabric) l.lid-index l.s) 0 old l.lanes

abbrev pub invariant-loop-lid : goal.invariant-loop-lid
invariant-loop-lid l = (old : LaneTables) × AreEngineLanes l.fabric l.count old × IsReleveled l.fabric (IsPath l.fabric) (IsOfFirst (lids_of l.fabric) l.lid-index) 0 old l.lanes
