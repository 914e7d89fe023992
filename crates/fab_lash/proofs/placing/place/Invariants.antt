use Rattle.std.proofs.Common.{◌≡◌, ℕ, ◌<◌}
use Rattle.fab_lash.specs.Placing.{listed_in, channel_counts, Refuses}
use Rattle.fab_lash.proofs.placing.place.Given as goal

abbrev pub invariant-loop-lane : goal.invariant-loop-lane
invariant-loop-lane g l = record {
  channels : channel_counts l.used ≡ channel_counts l.initial.used;
  same : (lane : ℕ) → listed_in l.used lane ≡ listed_in l.initial.used lane;
  refused : (lane : ℕ) → lane < l.lane → Refuses (listed_in l.initial.used lane) l.dependencies;
}
