-- There is room in the first lanes.
use Rattle.std.proofs.Common.{◌≡◌, ◌*◌, ◌<◌, ◌≤◌, ℕ, length}
use Rattle.fab_nue.specs.Arenas.{listed_in, spare_in, channel_counts}
use Rattle.fab_nue.specs.Laying.{left_to_lay}
use Rattle.fab_nue.proofs.laid_lids.make_room.Given as goal

abbrev pub invariant-loop-lane : goal.invariant-loop-lane
invariant-loop-lane l = record {
  channels : channel_counts l.used ≡ channel_counts l.fn.used;
  listed : (on_lane : ℕ) → listed_in l.used on_lane ≡ listed_in l.fn.used on_lane;
  room : (on_lane : ℕ) → on_lane < l.lane → left_to_lay l.fabric (length l.fn.used) l.kept on_lane 0 * length l.fabric.switches ≤ spare_in l.used on_lane;
}
