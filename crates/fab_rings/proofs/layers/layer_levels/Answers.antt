use Rattle.std.proofs.Common.{◌≡◌, ◌+◌, ◌<◌, ℕ, [], length, replicate, ◌∙◌, ap, sym, subst, arith}
use Rattle.std.proofs.lemmas.Bool.{eqb-true, eqb-false}
use Rattle.std.proofs.lemmas.List.{with_items_is, nil_from_length}
use Rattle.fab_rings.specs.EdgeList.{IsGraph}
use Rattle.fab_rings.specs.Layers.{untaken, IsTaking}
use Rattle.fab_rings.proofs.Layering.NextLayer.{all_untaken, first_layer, some_untaken, next_layer, layers_done}
use Rattle.fab_rings.proofs.layers.layer_levels.Goals as goal

pub loop-alloc-init : goal.loop-alloc-init
loop-alloc-init c =
    let g = c.args.graph.now in
    let zeros : c.in_ok-levels.levels.items ≡ replicate g.nodes 0 = c.in_ok-levels.ensures.items_if_clones_equal (λ y e. e) ∙ ap {A = ℕ} (λ n. replicate {A = ℕ} n 0) c.nodes-nodes.ensures.count in
    rw zeros (
      first_layer g c.nodes-nodes.ensures.kept c.in_ok-left.left.items c.in_ok-layer.layer.items c.in_ok-left.ensures.each c.in_ok-left.ensures.counts
          (rw (c.deref.ensures.value, c.nodes-nodes.ensures.count) at c.in_ok-layer.ensures),
      omega (arith, all_untaken g c.nodes-nodes.ensures.kept),
    )

pub overflow_add-level : goal.overflow_add-level
overflow_add-level c =
    let before = c.loop-alloc.invariant in
    let some : 0 < length c.loop-alloc.layer.items = omega (arith, eqb-false c.loop-alloc.layer.len 0 (sym c.is_empty.ensures ∙ c.loop-alloc-test.true), c.loop-alloc.layer.ok.0) in
    omega (arith, some_untaken c.args.graph.now c.loop-alloc.levels.items c.loop-alloc.left.items c.loop-alloc.layer.items [] (c.loop-alloc.level + 1) before.0 some, before.1, c.nodes-nodes.ensures.count)

pub take_layer-requires-clause-kept : goal.take_layer-requires-clause-kept
take_layer-requires-clause-kept c = subst IsGraph (sym c.requires) c.nodes-nodes.ensures.kept

pub loop-alloc-preserved : goal.loop-alloc-preserved
loop-alloc-preserved c =
    let g = c.args.graph.now in
    let before = c.loop-alloc.invariant in
    let levels = c.take_layer.new.levels in
    let left = c.take_layer.new.left in
    let taking : IsTaking g levels left [] c.in_ok-layer-2.layer.items (c.loop-alloc.level + 1) = rw c.requires at c.in_ok-layer-2.ensures.after in
    let some : 0 < length c.loop-alloc.layer.items = omega (arith, eqb-false c.loop-alloc.layer.len 0 (sym c.is_empty.ensures ∙ c.loop-alloc-test.true), c.loop-alloc.layer.ok.0) in
    let fewer : untaken levels + length c.loop-alloc.layer.items ≡ untaken c.loop-alloc.levels.items = rw (c.deref-in-loop-alloc.ensures.value, c.deref_mut.ensures.value) at c.in_ok-layer-2.ensures.fewer in
    rw (
      with_items_is c.loop-alloc.levels levels (omega (arith, taking.each_level, before.0.each_level, c.loop-alloc.levels.ok.0)),
      with_items_is c.loop-alloc.left left (omega (arith, taking.each_left, before.0.each_left, c.loop-alloc.left.ok.0)),
    )
    (next_layer g levels left c.in_ok-layer-2.layer.items (c.loop-alloc.level + 1) taking, omega (arith, before.1, fewer, some))

pub returns : goal.returns
returns c =
    let none : c.loop-alloc.layer.items ≡ [] = nil_from_length c.loop-alloc.layer.items (omega (arith, eqb-true c.loop-alloc.layer.len 0 (sym c.is_empty.ensures ∙ c.loop-alloc-test.false), c.loop-alloc.layer.ok.0)) in
    layers_done c.args.graph.now c.loop-alloc.levels.items c.loop-alloc.left.items (c.loop-alloc.level + 1) (rw none at c.loop-alloc.invariant.0)
