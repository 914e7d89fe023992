-- The LIDs so far are kept or not.
use Rattle.std.proofs.Common.{◌≡◌, ◌+◌, ◌*◌, ◌<◌, ◌≤◌, ℕ, length}
use Rattle.std.specs.Prelude.{Contains}
use Rattle.fab_model.specs.Topology.{lids_of}
use Rattle.fab_nue.specs.Arenas.{channel_counts, AreShort}
use Rattle.fab_nue.specs.Laying.{IsBetween}
use Rattle.fab_nue.proofs.Keeping.KeepingLoop.{HasDecided, AreTaken}
use Rattle.fab_nue.proofs.kept_lids.keep_lids.Given as goal

abbrev pub invariant-loop-lid : goal.invariant-loop-lid
invariant-loop-lid g l = record {
  whole : length l.whole ≡ length l.fabric.switches;
  part : length l.part ≡ length l.fabric.switches;
  channels : channel_counts l.used ≡ channel_counts l.fn.used;
  short : AreShort ((length l.fabric.switches + l.lid-index) * length l.fabric.switches) l.used;
  few : length l.kept ≤ l.lid-index;
  decided : (n : ℕ) × IsBetween (lids_of l.fabric) l.lid-index n × ((x : ℕ) → Contains l.kept x → x < n) × HasDecided l.fabric (length l.fn.used) l.old l.fn.used l.kept n l.used;
  taken : AreTaken l.fabric l.old l.kept l.tables l.weights;
}
