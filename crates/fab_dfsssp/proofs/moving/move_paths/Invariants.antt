use Rattle.std.proofs.Common.{◌+◌}
use Rattle.fab_dfsssp.specs.LaneCounts.{CountsLane}
use Rattle.fab_dfsssp.specs.Moving.{IsLevelOver}
use Rattle.fab_dfsssp.proofs.Releveling.{IsReleveled, IsAmongFirst}
use Rattle.fab_dfsssp.proofs.moving.move_paths.Given as goal

abbrev pub invariant-loop-path : goal.invariant-loop-path
invariant-loop-path l = record {
  releveled : IsReleveled l.fabric (λ s lid. IsLevelOver l.fabric l.tables l.fn.lanes l.lane l.fn.edge s lid) (IsAmongFirst l.path-items l.path-index) (l.lane + 1) l.fn.lanes l.lanes;
  counts : CountsLane l.fabric l.tables l.lanes l.lane l.counts;
}
