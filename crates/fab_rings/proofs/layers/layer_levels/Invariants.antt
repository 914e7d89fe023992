use Rattle.std.proofs.Common.{◌+◌, ◌≤◌, []}
use Rattle.fab_rings.specs.Layers.{untaken, IsTaking}
use Rattle.fab_rings.proofs.layers.layer_levels.Given as goal

abbrev pub invariant-loop-alloc : goal.invariant-loop-alloc
invariant-loop-alloc l =
    IsTaking l.graph l.levels.items l.left.items l.layer.items [] (l.level + 1) × (l.level + untaken l.levels.items ≤ l.graph.nodes)

abbrev pub decreases-loop-alloc : goal.decreases-loop-alloc
decreases-loop-alloc l = untaken l.levels.items
