use Rattle.std.proofs.Common.{◌≡◌, ◌-◌, ℕ, suc, arith}
use Rattle.std.proofs.lemmas.Bool.{some_since}
use Rattle.std.proofs.lemmas.Option.{MatchOption-at_some}
use Rattle.fab_graph.specs.Least.{IsLeast}
use Rattle.fab_rings.specs.Neighbours.{successors_of}
use Rattle.fab_rings.specs.Nearness.{near_of, StandsAtDistance}
use Rattle.fab_rings.proofs.EdgesOf.{successors_low}
use Rattle.fab_rings.proofs.Returning.RingSteps.{near_low, ring_begins, some_nearer, ring_goes_on, ring_ends}
use Rattle.fab_rings.proofs.rings.ring_from.Goals as goal

pub loop-distance-init : goal.loop-distance-init
loop-distance-init c = rw c.in_ok-ring.ensures.items (ring_begins c.args.graph.now c.args.first c.args.near.now c.requires.near c.requires.closed)

pub of-requires : goal.of-requires
of-requires c = rw c.requires.same (near_low c.args.graph.now c.args.first c.args.near.now c.requires.near c.loop-distance.node (omega (arith, c.loop-distance.invariant.at, c.loop-distance.invariant.some)))

pub least_at-requires : goal.least_at-requires
least_at-requires c = rw (c.of.ensures, c.requires.same, c.requires.near.each) (successors_low c.args.graph.now c.requires.kept c.loop-distance.node)

pub unwrap-node-requires : goal.unwrap-node-requires
unwrap-node-requires c =
    let d = c.loop-distance.distance - 1 in
    let at : near_of c.args.near.now c.loop-distance.node ≡ suc d = omega (arith, c.loop-distance.invariant.at, c.loop-distance-test.true) in
    let nearer : (a : ℕ) × StandsAtDistance (successors_of c.args.graph.now.edges c.loop-distance.node) c.args.near.now d a = some_nearer c.args.graph.now c.args.first c.args.near.now c.requires.near c.loop-distance.node d at (omega arith) in
    some_since c.least_at.result _ _ c.least_at.ensures (rw (c.of.ensures, c.requires.same) (λ none. none nearer.0 nearer.1))

pub loop-distance-preserved : goal.loop-distance-preserved
loop-distance-preserved c =
    let g = c.args.graph.now in
    let near = c.args.near.now in
    let node = c.loop-distance.node in
    let d = c.loop-distance.distance - 1 in
    let same : c.loop-distance.distance ≡ suc d = omega arith in
    let at : near_of near node ≡ suc d = omega (arith, c.loop-distance.invariant.at, same) in
    let least : IsLeast (StandsAtDistance (successors_of g.edges node) near d) c.unwrap-node.result =
    rw (c.of.ensures, c.requires.same) at (MatchOption-at_some _ _ c.unwrap-node.result c.unwrap-node.ensures c.least_at.ensures) in
    rw c.in_ok-push.ensures.items (ring_goes_on g c.args.first near c.requires.near node d at (omega arith) c.loop-distance.ring.items c.unwrap-node.result (rw same at c.loop-distance.invariant) least)

pub returns : goal.returns
returns c = rw c.new.ensures (ring_ends c.args.graph.now c.args.first c.args.near.now c.requires.near c.loop-distance.ring.items c.loop-distance.node c.loop-distance.distance c.loop-distance.invariant c.loop-distance-test.false)
