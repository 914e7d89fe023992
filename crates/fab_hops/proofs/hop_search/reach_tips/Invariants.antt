-- The tips of the channels so far were found.
use Rattle.std.proofs.Common.{◌≡◌, ◌+◌, ℕ, length}
use Rattle.fab_model.specs.Topology.{first_channel}
use Rattle.fab_hops.specs.Searching.{IsLooking, unreached}
use Rattle.fab_hops.proofs.hop_search.reach_tips.Given as goal

abbrev pub invariant-loop-channel : goal.invariant-loop-channel
invariant-loop-channel l = record {
  looking : (from : ℕ) → IsLooking l.fabric from l.fn.row l.fn.queue.items l.fn.switch l.hops (first_channel l.fabric l.fn.switch.0) → IsLooking l.fabric from l.row l.queue.items l.fn.switch l.hops l.channel;
  fewer : unreached l.row + length l.queue.items ≡ unreached l.fn.row + length l.fn.queue.items;
}
