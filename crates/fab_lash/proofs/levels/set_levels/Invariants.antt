use Rattle.std.proofs.Common.{length}
use Rattle.fab_lash.specs.PairLayers.{layer_at}
use Rattle.fab_lash.specs.Leveling.{layer_for}
use Rattle.fab_lash.proofs.LayerLevels.{AreLeveled}
use Rattle.fab_lash.proofs.levels.set_levels.Given as goal

abbrev pub invariant-loop-start : goal.invariant-loop-start
invariant-loop-start l = AreLeveled l.fabric (layer_for l.fabric (layer_at (length l.fabric.switches) l.layers)) l.lid.0 l.starts l.initial.lanes l.lanes l.start-index
