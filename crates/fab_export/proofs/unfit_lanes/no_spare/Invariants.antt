use Rattle.std.proofs.Common.{◌≡◌, ◌<◌, ℕ, true, false, slice_index_or}
use Rattle.fab_export.proofs.unfit_lanes.no_spare.Given as goal

abbrev pub invariant-loop-is_used : goal.invariant-loop-is_used
invariant-loop-is_used l = (k : ℕ) → k < l.is_used-index → slice_index_or l.used k false ≡ true
