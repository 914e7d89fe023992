use Rattle.fab_tables.specs.Judged.{IsRoomFor}
use Rattle.fab_certify.specs.Collected.{AreBehind}
use Rattle.fab_certify.proofs.Collected.CollectingStarts.{AreCollectedFrom}
use Rattle.fab_certify.proofs.collecting.collect_for.Given as goal

abbrev pub invariant-loop-start : goal.invariant-loop-start
invariant-loop-start l =
    IsRoomFor l.fabric l.marks × AreBehind l.fabric l.tables l.lanes l.lid.0 l.marks l.dependencies
    × AreCollectedFrom l.fabric l.tables l.lanes l.lid.0 l.starts l.initial.dependencies l.dependencies l.start-index
