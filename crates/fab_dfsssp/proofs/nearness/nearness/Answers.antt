use Rattle.std.proofs.Common.{◌≡◌, ℕ, ◌+◌, ◌<◌, [], length, ◌∙◌, sym, subst, arith, slice_index_or}
use Rattle.std.proofs.lemmas.Bool.{eqb-true, eqb-false}
use Rattle.std.proofs.lemmas.List.{with_items_is, nil_from_length, get_or_read}
use Rattle.fab_rings.specs.EdgeList.{EdgeList}
use Rattle.fab_rings.specs.Layers.{times}
use Rattle.fab_rings.specs.Nearness.{near_of, IsReaching}
use Rattle.fab_rings.proofs.Returning.ReachingLayers.{next_distance}
use Rattle.fab_dfsssp.specs.CountedEdges.{IsListing}
use Rattle.fab_dfsssp.proofs.Around.{end_reached, nothing_left}
use Rattle.fab_dfsssp.proofs.Counting.{listing_exists}
use Rattle.fab_dfsssp.proofs.nearness.nearness.Goals as goal

pub returns-then-index-gt0 : goal.returns-then-index-gt0
returns-then-index-gt0 c =
    let e = c.args.edges.now in
    let near = c.reach_layer.new.near in
    let next = c.in_ok-layer-2.layer.items in
    let before = c.loop-alloc.invariant in
    let after : (h : EdgeList) (last : ℕ) → IsListing h e → IsReaching h last c.loop-alloc.near.items c.loop-alloc.layer.items [] (c.loop-alloc.distance + 1) → IsReaching h last near [] next (c.loop-alloc.distance + 1) =
    rw (c.deref.ensures.value, c.deref_mut.ensures.value) at c.in_ok-layer-2.ensures.after in
    let reaching : (h : EdgeList) → IsListing h e → IsReaching h c.args.last near [] next (c.loop-alloc.distance + 1) = λ h lists. after h c.args.last lists (before.reaching h lists) in
    let g = listing_exists e c.requires.whole in
    let each : length near ≡ length e.heads = (reaching g.0 g.1).each ∙ g.1.nodes in
    let whole = with_items_is c.loop-alloc.near near (omega (arith, each, before.each, c.loop-alloc.near.ok.0)) in
    let v : ℕ = c.index.result.now in
    let read : v ≡ slice_index_or near c.args.last v = rw whole at c.index.ensures in
    let here : v ≡ near_of near c.args.last = get_or_read near c.args.last v (omega (arith, each, c.requires.node)) read 0 in
    rw whole (λ h lists. end_reached h c.args.last near next (c.loop-alloc.distance + 1) (reaching h lists) (omega (arith, here, c.if-index-gt0.true)))

pub loop-alloc-preserved : goal.loop-alloc-preserved
loop-alloc-preserved c =
    let e = c.args.edges.now in
    let near = c.reach_layer.new.near in
    let next = c.in_ok-layer-2.layer.items in
    let before = c.loop-alloc.invariant in
    let after : (h : EdgeList) (last : ℕ) → IsListing h e → IsReaching h last c.loop-alloc.near.items c.loop-alloc.layer.items [] (c.loop-alloc.distance + 1) → IsReaching h last near [] next (c.loop-alloc.distance + 1) =
    rw (c.deref.ensures.value, c.deref_mut.ensures.value) at c.in_ok-layer-2.ensures.after in
    let reaching : (h : EdgeList) → IsListing h e → IsReaching h c.args.last near [] next (c.loop-alloc.distance + 1) = λ h lists. after h c.args.last lists (before.reaching h lists) in
    let g = listing_exists e c.requires.whole in
    let each : length near ≡ length e.heads = (reaching g.0 g.1).each ∙ g.1.nodes in
    let whole = with_items_is c.loop-alloc.near near (omega (arith, each, before.each, c.loop-alloc.near.ok.0)) in
    let some : 0 < length c.loop-alloc.layer.items = omega (arith, eqb-false c.loop-alloc.layer.len 0 (sym c.is_empty.ensures ∙ c.loop-alloc-test.true), c.loop-alloc.layer.ok.0) in
    let fewer : times 0 near + length next ≡ times 0 c.loop-alloc.near.items = rw c.deref_mut.ensures.value at c.in_ok-layer-2.ensures.fewer in
    rw whole (record {
      each = each;
      reaching = λ h lists. next_distance h c.args.last near next (c.loop-alloc.distance + 1) (reaching h lists);
      nodes = c.in_ok-layer-2.ensures.nodes;
      few = omega (arith, before.few, fewer, some);
    })

pub returns : goal.returns
returns c = λ g lists.
    let none : c.loop-alloc.layer.items ≡ [] = nil_from_length c.loop-alloc.layer.items (omega (arith, eqb-true c.loop-alloc.layer.len 0 (sym c.is_empty.ensures ∙ c.loop-alloc-test.false), c.loop-alloc.layer.ok.0)) in
    nothing_left g c.args.last c.loop-alloc.near.items (c.loop-alloc.distance + 1)
    (subst (λ ls. IsReaching g c.args.last c.loop-alloc.near.items ls [] (c.loop-alloc.distance + 1)) none (c.loop-alloc.invariant.reaching g lists))
