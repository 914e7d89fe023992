use Rattle.std.proofs.Common.{◌≡◌, ◌<◌, ℕ, None, get_or}
use Rattle.fab_model.specs.Topology.{lids_of}
use Rattle.fab_export.specs.Unfits.{too_far_from}
use Rattle.fab_export.proofs.unfit_routes.too_far.Given as goal

abbrev pub invariant-loop-lid : goal.invariant-loop-lid
invariant-loop-lid l = (i d : ℕ) → i < l.lid-index → too_far_from l.reached.fabric l.reached.entries (get_or (lids_of l.reached.fabric) i d) ≡ None
