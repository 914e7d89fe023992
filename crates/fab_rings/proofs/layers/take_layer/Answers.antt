use Rattle.std.proofs.Common.{◌∷◌, ◌+◌, drop, slice_index_or, subst, arith}
use Rattle.std.proofs.lemmas.List.{drop_more}
use Rattle.fab_rings.specs.Layers.{IsTaking}
use Rattle.fab_rings.proofs.EdgesOf.{successors_low}
use Rattle.fab_rings.proofs.Layering.TakingNodes.{first_low, enough_left, fewer, takes_first}
use Rattle.fab_rings.proofs.layers.take_layer.Goals as goal

pub bounds-levels-node : goal.bounds-levels-node
bounds-levels-node c =
    let x = slice_index_or c.args.layer.now c.loop-node.node-index 0 in
    let rest = drop (c.loop-node.node-index + 1) c.args.layer.now in
    let taking : IsTaking c.args.successors.now c.loop-node.levels c.loop-node.left (x ∷ rest) c.loop-node.next.items c.args.level =
    subst (λ r. IsTaking c.args.successors.now c.loop-node.levels c.loop-node.left r c.loop-node.next.items c.args.level) (drop_more c.args.layer.now c.loop-node.node-index 0 c.loop-node-test.true) c.loop-node.invariant.0 in
    omega (arith, taking.each_level, first_low c.args.successors.now c.loop-node.levels c.loop-node.left rest c.loop-node.next.items c.args.level x taking)

pub of-requires : goal.of-requires
of-requires c =
    let x = slice_index_or c.args.layer.now c.loop-node.node-index 0 in
    let rest = drop (c.loop-node.node-index + 1) c.args.layer.now in
    let taking : IsTaking c.args.successors.now c.loop-node.levels c.loop-node.left (x ∷ rest) c.loop-node.next.items c.args.level =
    subst (λ r. IsTaking c.args.successors.now c.loop-node.levels c.loop-node.left r c.loop-node.next.items c.args.level) (drop_more c.args.layer.now c.loop-node.node-index 0 c.loop-node-test.true) c.loop-node.invariant.0 in
    first_low c.args.successors.now c.loop-node.levels c.loop-node.left rest c.loop-node.next.items c.args.level x taking

pub take_edges-requires-clause-nodes : goal.take_edges-requires-clause-nodes
take_edges-requires-clause-nodes c =
    rw (c.of.ensures, c.loop-node.invariant.0.each_left) (successors_low c.args.successors.now c.requires.kept (slice_index_or c.args.layer.now c.loop-node.node-index 0))

pub take_edges-requires-clause-counts : goal.take_edges-requires-clause-counts
take_edges-requires-clause-counts c =
    let x = slice_index_or c.args.layer.now c.loop-node.node-index 0 in
    let rest = drop (c.loop-node.node-index + 1) c.args.layer.now in
    let taking : IsTaking c.args.successors.now c.loop-node.levels c.loop-node.left (x ∷ rest) c.loop-node.next.items c.args.level =
    subst (λ r. IsTaking c.args.successors.now c.loop-node.levels c.loop-node.left r c.loop-node.next.items c.args.level) (drop_more c.args.layer.now c.loop-node.node-index 0 c.loop-node-test.true) c.loop-node.invariant.0 in
    rw c.of.ensures (enough_left c.args.successors.now c.loop-node.levels c.loop-node.left rest c.loop-node.next.items c.args.level x taking)

pub loop-node-preserved : goal.loop-node-preserved
loop-node-preserved c =
    let x = slice_index_or c.args.layer.now c.loop-node.node-index 0 in
    let rest = drop (c.loop-node.node-index + 1) c.args.layer.now in
    let taking : IsTaking c.args.successors.now c.loop-node.levels c.loop-node.left (x ∷ rest) c.loop-node.next.items c.args.level =
    subst (λ r. IsTaking c.args.successors.now c.loop-node.levels c.loop-node.left r c.loop-node.next.items c.args.level) (drop_more c.args.layer.now c.loop-node.node-index 0 c.loop-node-test.true) c.loop-node.invariant.0 in (
      takes_first c.args.successors.now c.loop-node.levels c.loop-node.left rest c.loop-node.next.items c.args.level x taking c.take_edges.new.left c.take_edges.new.next.items (rw c.of.ensures at c.in_ok-take_edges.ensures),
      omega (arith, fewer c.args.successors.now c.loop-node.levels c.loop-node.left rest c.loop-node.next.items c.args.level x taking, c.loop-node.invariant.1),
    )
