-- The escape trees towards the first switches are added.
use Rattle.std.proofs.Common.{◌≡◌, ◌*◌, length}
use Rattle.fab_nue.specs.Arenas.{channel_counts, AreListing, AreShort}
use Rattle.fab_nue.specs.Forests.{forest_in, DependsTowards}
use Rattle.fab_nue.proofs.arenas.add_escapes.Given as goal

abbrev pub invariant-loop-s : goal.invariant-loop-s
invariant-loop-s g l = record {
  tree : length l.tree ≡ length l.fabric.switches;
  channels : channel_counts l.used ≡ channel_counts l.fn.used;
  short : AreShort (l.s * length l.fabric.switches) l.used;
  listed : AreListing (length l.fn.used) (λ on_lane c d. DependsTowards l.fabric (length l.fn.used) (λ lane. forest_in l.forests lane) l.s on_lane c d) l.used;
}
