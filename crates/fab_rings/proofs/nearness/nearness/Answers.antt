use Rattle.std.proofs.Common.{◌≡◌, ◌+◌, ◌<◌, [], length, ◌∙◌, sym, arith}
use Rattle.std.proofs.lemmas.Bool.{eqb-true, eqb-false}
use Rattle.std.proofs.lemmas.List.{with_items_is, nil_from_length}
use Rattle.fab_rings.specs.Layers.{times}
use Rattle.fab_rings.specs.Nearness.{IsReaching}
use Rattle.fab_rings.proofs.Returning.ReachingLayers.{next_distance, all_reached}
use Rattle.fab_rings.proofs.nearness.nearness.Goals as goal

pub loop-alloc-preserved : goal.loop-alloc-preserved
loop-alloc-preserved c =
    let g = c.args.graph.now in
    let before = c.loop-alloc.invariant in
    let near = c.reach_layer.new.near in
    let next = c.in_ok-layer-2.layer.items in
    let reaching : IsReaching g c.args.last near [] next (c.loop-alloc.distance + 1) = rw (c.requires.same, c.deref.ensures.value, c.deref_mut.ensures.value) at c.in_ok-layer-2.ensures.after c.args.last before.reaching in
    let some : 0 < length c.loop-alloc.layer.items = omega (arith, eqb-false c.loop-alloc.layer.len 0 (sym c.is_empty.ensures ∙ c.loop-alloc-test.true), c.loop-alloc.layer.ok.0) in
    let fewer : times 0 near + length next ≡ times 0 c.loop-alloc.near.items = rw c.deref_mut.ensures.value at c.in_ok-layer-2.ensures.fewer in
    rw (with_items_is c.loop-alloc.near near (omega (arith, reaching.each, before.reaching.each, c.loop-alloc.near.ok.0))) (
    record {
      reaching = next_distance g c.args.last near next (c.loop-alloc.distance + 1) reaching;
      nodes = rw c.requires.same at c.in_ok-layer-2.ensures.nodes;
      few = omega (arith, before.few, fewer, some);
    }
    )

pub returns : goal.returns
returns c =
    let none : c.loop-alloc.layer.items ≡ [] = nil_from_length c.loop-alloc.layer.items (omega (arith, eqb-true c.loop-alloc.layer.len 0 (sym c.is_empty.ensures ∙ c.loop-alloc-test.false), c.loop-alloc.layer.ok.0)) in
    all_reached c.args.graph.now c.args.last c.loop-alloc.near.items (c.loop-alloc.distance + 1) (rw none at c.loop-alloc.invariant.reaching)
