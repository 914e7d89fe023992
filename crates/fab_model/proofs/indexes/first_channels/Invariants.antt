use Rattle.std.proofs.Common.{◌≡◌, ℕ, ◌<◌, length, get_or, []}
use Rattle.fab_model.specs.Topology.{first_channel}
use Rattle.fab_model.specs.Indexed.{only}
use Rattle.fab_model.proofs.indexes.first_channels.Given as goal

abbrev pub invariant-loop-switch : goal.invariant-loop-switch
invariant-loop-switch l = record {
  count : length l.numbers.items ≡ l.switch;
  each : (k : ℕ) → k < l.switch → get_or l.numbers.items k 0 ≡ first_channel (only [] l.rows []) k;
}
