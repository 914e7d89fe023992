-- The ranks of the switches so far.
use Rattle.std.proofs.Common.{◌≡◌, ℕ, ◌<◌, length, map, slice_index}
use Rattle.fab_model.specs.declared.rows.SwitchId.{SwitchId}
use Rattle.fab_updn.specs.Ranks.{IsRank}
use Rattle.fab_updn.proofs.ranks.ranks_of.Given as goal

abbrev pub invariant-loop-index : goal.invariant-loop-index
invariant-loop-index l = record {
  whole : length l.ranks.items ≡ l.index;
  each : (s : ℕ) → s < l.index → IsRank l.fabric (map (λ (root : SwitchId). root.0) l.named) s (slice_index l.ranks.items s);
}
