use Rattle.std.proofs.Common.{ℕ, ◌+◌, ◌<◌, List, Option, arith, ◌∙◌, ap, sym, subst}
use Rattle.std.specs.Prelude.{is_some, MatchOption}
use Rattle.fab_graph.specs.Rings.{IsFirstRing}
use Rattle.fab_graph.specs.Walks.{IsOnClosedWalk}
use Rattle.fab_graph.proofs.Same.{same_closed, swapped}
use Rattle.fab_rings.specs.Nearness.{near_of}
use Rattle.fab_dfsssp.specs.Breaking.{ring_edges, IsFirstLeast}
use Rattle.fab_dfsssp.specs.CountedEdges.{IsCounted, times_of}
use Rattle.fab_dfsssp.specs.LaneEdges.{IsEdgeAtLevel}
use Rattle.fab_dfsssp.proofs.Around.{near_each, no_ring}
use Rattle.fab_dfsssp.proofs.CountedLanes.{counted_edges, counted_before, still_no_ring, one_more_without}
use Rattle.fab_dfsssp.proofs.KeptNear.{kept_search, kept_fewer}
use Rattle.fab_dfsssp.proofs.RingEdges.{ring_edge}
use Rattle.fab_dfsssp.proofs.RingsBroken.{counted_refused, counted_broken, counted_fall}
use Rattle.fab_dfsssp.proofs.breaking.break_rings.Goals as goal

pub nearness-requires-clause-whole : goal.nearness-requires-clause-whole
nearness-requires-clause-whole c = c.requires.counts.whole

pub nearness-requires-clause-node : goal.nearness-requires-clause-node
nearness-requires-clause-node c = omega (arith, c.requires.counts.nodes, c.requires.channel)

pub loop-near-init : goal.loop-near-init
loop-near-init c =
    let edges = c.args.edges.now in
    let near = c.in_ok-near.near.items in
    let whole = c.requires.counts.whole in
    record {
      before = c.requires.before;
      counts = c.requires.counts;
      below = c.requires.below;
      each = near_each edges whole c.args.channel near c.in_ok-near.ensures ∙ c.requires.counts.nodes;
      kept = kept_search edges whole c.args.channel near c.in_ok-near.ensures;
      none = no_ring edges whole c.args.channel near c.in_ok-near.ensures;
    }

pub ring_through-requires-clause-whole : goal.ring_through-requires-clause-whole
ring_through-requires-clause-whole c = c.loop-near.invariant.counts.whole

pub ring_through-requires-clause-node : goal.ring_through-requires-clause-node
ring_through-requires-clause-node c = omega (arith, c.loop-near.invariant.counts.nodes, c.requires.channel)

pub ring_through-requires-clause-before : goal.ring_through-requires-clause-before
ring_through-requires-clause-before c = λ a low on.
    let t = c.args.fabric.now in
    let e = c.args.tables.now in
    let l = c.loop-near.lanes in
    let i = c.loop-near.invariant in
    i.below a low
    (same_closed (λ (x y : ℕ). IsCounted c.loop-near.edges x y) (λ (x y : ℕ). IsEdgeAtLevel t e l c.args.lane x y) (counted_edges t e l c.args.lane c.loop-near.edges i.counts i.before.assigned.fits) a on)

pub ring_through-requires-clause-each : goal.ring_through-requires-clause-each
ring_through-requires-clause-each c = c.loop-near.invariant.each ∙ sym c.loop-near.invariant.counts.nodes

pub ring_through-requires-clause-kept : goal.ring_through-requires-clause-kept
ring_through-requires-clause-kept c = c.loop-near.invariant.kept

pub ring_through-requires-clause-none : goal.ring_through-requires-clause-none
ring_through-requires-clause-none c = c.loop-near.invariant.none

pub returns-then-lane-count-clause-refusal : goal.returns-then-lane-count-clause-refusal
returns-then-lane-count-clause-refusal c =
    let edges = c.loop-near.edges in
    let i = c.loop-near.invariant in
    let first : IsFirstRing (λ x y. IsCounted edges x y) c.in-Some.ring =
    subst (λ o. MatchOption o (¬ IsOnClosedWalk (λ (x y : ℕ). IsCounted edges x y) c.args.channel) (λ nodes. IsFirstRing (λ x y. IsCounted edges x y) nodes)) c.in-Some.is c.in_ok-ring.ensures.ring in
    counted_refused c.args.fabric.now c.args.tables.now c.args.lanes.now.count c.args.lane c.loop-near.lanes i.before edges i.counts c.in-Some.ring first (c.if-lane-count.true ∙ c.count.ensures ∙ i.before.assigned.lane_count)

pub move_paths-requires-clause-edge : goal.move_paths-requires-clause-edge
move_paths-requires-clause-edge c =
    let edges = c.loop-near.edges in
    let i = c.loop-near.invariant in
    let first : IsFirstRing (λ x y. IsCounted edges x y) c.in-Some.ring =
    subst (λ o. MatchOption o (¬ IsOnClosedWalk (λ (x y : ℕ). IsCounted edges x y) c.args.channel) (λ nodes. IsFirstRing (λ x y. IsCounted edges x y) nodes)) c.in-Some.is c.in_ok-ring.ensures.ring in
    let weakest : IsFirstLeast (λ other. times_of edges other) (ring_edges c.in-Some.ring) c.weakest_edge-edge.result =
    subst (λ ring. IsFirstLeast (λ other. times_of edges other) (ring_edges ring) c.weakest_edge-edge.result) c.nodes.ensures c.weakest_edge-edge.ensures in
    let there : IsCounted edges c.weakest_edge-edge.result.0 c.weakest_edge-edge.result.1 = ring_edge (λ x y. IsCounted edges x y) c.in-Some.ring first weakest.0 c.weakest_edge-edge.result weakest.1 in
    let ends = i.counts.whole.ends c.weakest_edge-edge.result.0 c.weakest_edge-edge.result.1 there in
    omega (arith, ends.0, i.counts.nodes)

pub move_paths-requires-clause-fits : goal.move_paths-requires-clause-fits
move_paths-requires-clause-fits c = c.loop-near.invariant.before.assigned.fits

pub move_paths-requires-clause-maps : goal.move_paths-requires-clause-maps
move_paths-requires-clause-maps c = c.loop-near.invariant.before.assigned.maps

pub move_paths-requires-clause-counts : goal.move_paths-requires-clause-counts
move_paths-requires-clause-counts c = c.loop-near.invariant.counts

pub loop-near-smaller : goal.loop-near-smaller
loop-near-smaller c =
    let edges = c.loop-near.edges in
    let i = c.loop-near.invariant in
    let first : IsFirstRing (λ x y. IsCounted edges x y) c.in-Some.ring =
    subst (λ o. MatchOption o (¬ IsOnClosedWalk (λ (x y : ℕ). IsCounted edges x y) c.args.channel) (λ nodes. IsFirstRing (λ x y. IsCounted edges x y) nodes)) c.in-Some.is c.in_ok-ring.ensures.ring in
    let weakest : IsFirstLeast (λ other. times_of edges other) (ring_edges c.in-Some.ring) c.weakest_edge-edge.result =
    subst (λ ring. IsFirstLeast (λ other. times_of edges other) (ring_edges ring) c.weakest_edge-edge.result) c.nodes.ensures c.weakest_edge-edge.ensures in
    let further : c.args.lane + 1 < c.args.lanes.now.count = omega (arith, c.requires.lane, c.if-lane-count.false, c.count.ensures, i.before.assigned.lane_count) in
    counted_fall c.args.fabric.now c.args.tables.now c.args.lanes.now.count c.args.lane c.loop-near.lanes i.before edges i.counts c.in-Some.ring first c.requires.tables.fixed c.weakest_edge-edge.result c.move_paths.new.lanes further
    weakest c.in_ok-move_paths.ensures.moves c.in_ok-move_paths.ensures.count c.in_ok-move_paths.ensures.fits c.in_ok-move_paths.ensures.maps c.requires.fabric.rows

pub loop-near-preserved : goal.loop-near-preserved
loop-near-preserved c =
    let edges = c.loop-near.edges in
    let i = c.loop-near.invariant in
    let first : IsFirstRing (λ x y. IsCounted edges x y) c.in-Some.ring =
    subst (λ o. MatchOption o (¬ IsOnClosedWalk (λ (x y : ℕ). IsCounted edges x y) c.args.channel) (λ nodes. IsFirstRing (λ x y. IsCounted edges x y) nodes)) c.in-Some.is c.in_ok-ring.ensures.ring in
    let weakest : IsFirstLeast (λ other. times_of edges other) (ring_edges c.in-Some.ring) c.weakest_edge-edge.result =
    subst (λ ring. IsFirstLeast (λ other. times_of edges other) (ring_edges ring) c.weakest_edge-edge.result) c.nodes.ensures c.weakest_edge-edge.ensures in
    let further : c.args.lane + 1 < c.args.lanes.now.count = omega (arith, c.requires.lane, c.if-lane-count.false, c.count.ensures, i.before.assigned.lane_count) in
    let some : 0 < near_of c.ring_through.new.near.items c.args.channel = c.in_ok-ring.ensures.numbered (ap (λ (found : Option (List ℕ)). is_some found) c.in-Some.is) in
    record {
      before = counted_broken c.args.fabric.now c.args.tables.now c.args.lanes.now.count c.args.lane c.loop-near.lanes i.before edges i.counts c.in-Some.ring first c.requires.tables.fixed c.weakest_edge-edge.result
          c.move_paths.new.lanes further weakest c.in_ok-move_paths.ensures.moves c.in_ok-move_paths.ensures.count c.in_ok-move_paths.ensures.fits c.in_ok-move_paths.ensures.maps;
      counts = c.in_ok-move_paths.ensures.counts;
      below = still_no_ring c.args.fabric.now c.args.tables.now c.args.lane c.weakest_edge-edge.result c.loop-near.lanes c.move_paths.new.lanes c.in_ok-move_paths.ensures.moves c.args.channel i.below;
      each = c.in_ok-ring.ensures.each ∙ i.counts.nodes;
      kept = kept_fewer (λ a b. IsCounted c.move_paths.new.counts a b) (λ a b. IsCounted edges a b) c.args.channel c.ring_through.new.near.items
          (counted_before c.args.fabric.now c.args.tables.now c.args.lane c.weakest_edge-edge.result c.loop-near.lanes c.move_paths.new.lanes c.in_ok-move_paths.ensures.moves edges c.move_paths.new.counts i.before.assigned.fits
          c.in_ok-move_paths.ensures.fits i.counts c.in_ok-move_paths.ensures.counts) c.in_ok-ring.ensures.kept;
      none = λ zero. absurd (omega (arith, zero, some));
    }

pub returns-clause-count : goal.returns-clause-count
returns-clause-count c = c.loop-near.invariant.before.assigned.lane_count

pub returns-clause-after : goal.returns-clause-after
returns-clause-after c = c.loop-near.invariant.before

pub returns-clause-counts : goal.returns-clause-counts
returns-clause-counts c = c.loop-near.invariant.counts

pub returns-clause-below : goal.returns-clause-below
returns-clause-below c =
    let t = c.args.fabric.now in
    let e = c.args.tables.now in
    let l = c.loop-near.lanes in
    let edges = c.loop-near.edges in
    let i = c.loop-near.invariant in
    let off : ¬ IsOnClosedWalk (λ (x y : ℕ). IsCounted edges x y) c.args.channel =
    subst (λ o. MatchOption o (¬ IsOnClosedWalk (λ (x y : ℕ). IsCounted edges x y) c.args.channel) (λ nodes. IsFirstRing (λ x y. IsCounted edges x y) nodes)) c.in_default.is c.in_ok-ring.ensures.ring in
    one_more_without t e l c.args.lane c.args.channel i.below (λ on.
    off (same_closed (λ (x y : ℕ). IsEdgeAtLevel t e l c.args.lane x y) (λ (x y : ℕ). IsCounted edges x y)
    (swapped (λ (x y : ℕ). IsCounted edges x y) (λ (x y : ℕ). IsEdgeAtLevel t e l c.args.lane x y) (counted_edges t e l c.args.lane edges i.counts i.before.assigned.fits)) c.args.channel on))
