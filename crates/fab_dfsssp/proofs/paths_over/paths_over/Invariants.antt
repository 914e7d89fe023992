-- The layer is that at the place, and the paths before it have been found.
use Rattle.std.proofs.Common.{ℕ}
use Rattle.fab_dfsssp.specs.PathsOver.{AreLayer}
use Rattle.fab_dfsssp.proofs.PathsOver.{ArePathsBefore, layers_left}
use Rattle.fab_dfsssp.proofs.paths_over.paths_over.Given as goal

abbrev pub invariant-loop-alloc : goal.invariant-loop-alloc
invariant-loop-alloc l = (place : ℕ) × ArePathsBefore l.fabric l.tables l.fn.edge place l.paths.items × AreLayer l.fabric l.tables l.fn.edge place l.layer.items

abbrev pub decreases-loop-alloc : goal.decreases-loop-alloc
decreases-loop-alloc l = layers_left l.fabric l.tables l.fn.edge l.layer.items
