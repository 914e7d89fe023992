use Rattle.fab_tables.specs.LaneFaults.{IsSoughtAt}
use Rattle.fab_tables.specs.Judged.{AreJudged}
use Rattle.fab_tables.proofs.Faults.StartFaults.{AreClear}
use Rattle.fab_tables.proofs.lane_faults.fault_for.Given as goal

abbrev pub invariant-loop-start : goal.invariant-loop-start
invariant-loop-start l =
    AreJudged l.faults l.fabric l.tables l.lanes l.lid.0 l.marks × AreClear l.fabric l.lanes (IsSoughtAt l.faults l.fabric l.tables l.lanes) l.lid.0 l.starts l.start-index
