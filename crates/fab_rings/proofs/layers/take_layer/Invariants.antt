-- The nodes so far are taken.
use Rattle.std.proofs.Common.{◌≡◌, ◌+◌, drop}
use Rattle.fab_rings.specs.Layers.{untaken, IsTaking}
use Rattle.fab_rings.proofs.layers.take_layer.Given as goal

abbrev pub invariant-loop-node : goal.invariant-loop-node
invariant-loop-node l =
    IsTaking l.successors l.levels l.left (drop l.node-index l.layer) l.next.items l.level × (untaken l.levels + l.node-index ≡ untaken l.initial.levels)
