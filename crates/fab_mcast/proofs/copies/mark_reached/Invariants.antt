use Rattle.std.proofs.Common.{◌≡◌, ℕ, ◌==◌, length, take}
use Rattle.std.specs.Prelude.{filter_map, ◌||◌}
use Rattle.std.specs.List.{list_any}
use Rattle.fab_mcast.specs.Sending.{seen_copy, terminal_by, is_marked}
use Rattle.fab_mcast.proofs.copies.mark_reached.Given as goal

abbrev pub invariant-loop-port : goal.invariant-loop-port
invariant-loop-port l = record {
  each : length l.reached ≡ length l.fn.reached;
  marked : (n : ℕ) → is_marked l.reached n ≡ (is_marked l.fn.reached n || list_any (λ m. m == n) (filter_map (terminal_by l.fabric (seen_copy l.copy)) (take l.port-index l.ports)));
}
