-- The LIDs so far are kept or laid, and there is room for the others.
use Rattle.std.proofs.Common.{◌≡◌, ℕ, List, Option, length}
use Rattle.fab_tables.specs.declared.plan.Plan.{Plan}
use Rattle.fab_nue.specs.Arenas.{channel_counts}
use Rattle.fab_nue.specs.Forests.{forest_in}
use Rattle.fab_nue.specs.Laying.{AreLaidBelow, HasRoomToLay}
use Rattle.fab_nue.proofs.Laying.LayingLoop.{IsSoFar}
use Rattle.fab_nue.proofs.laid_lids.lay_lids.Given as goal

abbrev pub invariant-loop-lid : goal.invariant-loop-lid
invariant-loop-lid g l = record {
  tree : length l.tree ≡ length l.fabric.switches;
  room : l.room ≡ length l.fabric.channels;
  channels : channel_counts l.used ≡ channel_counts l.fn.used;
  room_left : HasRoomToLay l.fabric (length l.fn.used) l.kept l.lid-index l.used;
  laid : (old : Option Plan) (laid : ℕ → List (Option ℕ)) →
      AreLaidBelow l.fabric (length l.fn.used) old l.kept (λ lane. forest_in l.forests lane) laid 0 l.fn.tables l.fn.weights l.fn.used →
      IsSoFar l.fabric (length l.fn.used) old l.kept (λ lane. forest_in l.forests lane) l.lid-index l.tables l.weights l.used;
}
