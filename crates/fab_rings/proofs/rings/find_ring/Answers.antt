use Rattle.std.proofs.Common.{◌≡◌, ◌≢◌, ℕ, arith}
use Rattle.std.specs.Prelude.{Contains}
use Rattle.fab_rings.specs.Neighbours.{successors_of}
use Rattle.fab_rings.specs.StrongComponents.{value_of}
use Rattle.fab_rings.proofs.EdgesOf.{successors_low}
use Rattle.fab_rings.proofs.Searching.ComponentWalks.{on_read, leads_on, leads_off}
use Rattle.fab_rings.proofs.Returning.RingSteps.{ring_is_first, closed_low, one_more_off}
use Rattle.fab_rings.proofs.rings.find_ring.Goals as goal

pub leads_into-requires : goal.leads_into-requires
leads_into-requires c = rw (c.of.ensures, c.requires, c.deref.ensures.value, c.in_ok-components.ensures.each) (successors_low c.args.graph.now c.nodes-node-end.ensures.kept c.loop-node.node)

pub ring_at-requires-clause-closed : goal.ring_at-requires-clause-closed
ring_at-requires-clause-closed c =
    let g = c.args.graph.now in
    let node = c.loop-node.node in
    let kept = c.nodes-node-end.ensures.kept in
    let are = c.in_ok-components.ensures in
    let components = c.in_ok-components.components.items in
    let is : c.index.result.now ≡ value_of components node = on_read g kept components are node c.index.result.now (omega (arith, c.nodes-node-end.ensures.count, c.loop-node-test.true)) c.index.ensures in
    let there : (b : ℕ) × Contains (successors_of g.edges node) b × (value_of components b ≡ c.index.result.now) = rw (c.of.ensures, c.requires, c.deref.ensures.value) at (c.leads_into.ensures.there c.if-leads_into.true) in
    leads_on g kept components are node c.index.result.now is there

pub returns-then-leads_into : goal.returns-then-leads_into
returns-then-leads_into c =
    let g = c.args.graph.now in
    let node = c.loop-node.node in
    let kept = c.nodes-node-end.ensures.kept in
    let are = c.in_ok-components.ensures in
    let components = c.in_ok-components.components.items in
    let is : c.index.result.now ≡ value_of components node = on_read g kept components are node c.index.result.now (omega (arith, c.nodes-node-end.ensures.count, c.loop-node-test.true)) c.index.ensures in
    let there : (b : ℕ) × Contains (successors_of g.edges node) b × (value_of components b ≡ c.index.result.now) = rw (c.of.ensures, c.requires, c.deref.ensures.value) at (c.leads_into.ensures.there c.if-leads_into.true) in
    ring_is_first g node c.in_ok-ring.ring (leads_on g kept components are node c.index.result.now is there) c.loop-node.invariant c.in_ok-ring.ensures

pub loop-node-preserved : goal.loop-node-preserved
loop-node-preserved c =
    let g = c.args.graph.now in
    let node = c.loop-node.node in
    let kept = c.nodes-node-end.ensures.kept in
    let are = c.in_ok-components.ensures in
    let components = c.in_ok-components.components.items in
    let is : c.index.result.now ≡ value_of components node = on_read g kept components are node c.index.result.now (omega (arith, c.nodes-node-end.ensures.count, c.loop-node-test.true)) c.index.ensures in
    let nowhere : (b : ℕ) → Contains (successors_of g.edges node) b → value_of components b ≢ c.index.result.now = rw (c.of.ensures, c.requires, c.deref.ensures.value) at (c.leads_into.ensures.nowhere c.if-leads_into.false) in
    one_more_off g node c.loop-node.invariant (leads_off g kept components are node c.index.result.now is nowhere)

pub returns : goal.returns
returns c = λ a closed. c.loop-node.invariant a (omega (arith, closed_low c.args.graph.now c.nodes-node-end.ensures.kept a closed, c.nodes-node-end.ensures.count, c.loop-node-test.false)) closed
