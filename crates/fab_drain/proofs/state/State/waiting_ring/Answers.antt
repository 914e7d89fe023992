use Rattle.std.proofs.Common.{◌≡◌, ◌∙◌, ◌<◌, ℕ, List, length, sym, ap, subst, arith, Some, Option}
use Rattle.std.specs.Prelude.{IsSome, MatchOption}
use Rattle.fab_graph.specs.Walks.{IsEdge, IsAcyclic}
use Rattle.fab_graph.specs.Rings.{IsFirstRing}
use Rattle.fab_graph.proofs.Graphs.{one_least}
use Rattle.fab_tables.specs.declared.verdict.VirtualChannel.{VirtualChannel}
use Rattle.fab_drain.specs.Loads.{Load, channel_of_cell}
use Rattle.fab_drain.specs.Moves.{next_at}
use Rattle.fab_drain.specs.Drains.{IsTakenNumber}
use Rattle.fab_drain.proofs.WalkedRings.{IsWalked, walk_begins, number_below, channel_there, next_some, next_low, walks_on, some_ring, ring_there}
use Rattle.fab_drain.proofs.state.State.waiting_ring.Goals as goal

pub loop-init : goal.loop-init
loop-init c = λ good still start first.
    let load = c.args.self.now in
    let size = ap (λ (l : Load). length l.cells) c.self.view_is in
    walk_begins c.args.fabric.now c.args.plan.now load good still start first c.first_taken-number.result c.in_ok-walk.walk (one_least (IsTakenNumber load) c.first_taken-number.result start c.first_taken-number.ensures first)
    (omega (arith, size, c.len-count.ensures, c.in_ok-walk.ensures.0)) c.in_ok-walk.ensures.1

pub next_of-requires-clause-at : goal.next_of-requires-clause-at
next_of-requires-clause-at c =
    let t = c.args.fabric.now in
    let p = c.args.plan.now in
    let load = c.args.self.now in
    let good = c.requires.load in
    let still = c.requires.still in
    let start = c.first_taken-number.result in
    let first = c.first_taken-number.ensures in
    let so_far = c.loop.invariant good still start first in
    subst (λ (v : VirtualChannel). v.channel.0 < length t.channels) (sym c.channel_of-at.ensures)
    (channel_there t p load good still start first c.loop.number (number_below t p load good still start first c.loop.number c.loop.counter c.loop.walk so_far))

pub unwrap-awaited-requires : goal.unwrap-awaited-requires
unwrap-awaited-requires c =
    let t = c.args.fabric.now in
    let p = c.args.plan.now in
    let load = c.args.self.now in
    let good = c.requires.load in
    let still = c.requires.still in
    let start = c.first_taken-number.result in
    let first = c.first_taken-number.ensures in
    let so_far = c.loop.invariant good still start first in
    subst (λ o. IsSome o) (ap (λ v. next_at t p load v) (sym c.channel_of-at.ensures) ∙ sym c.next_of.ensures) (next_some t p load good still start first c.loop.number c.loop.counter c.loop.walk so_far)

pub push-requires-clause-first : goal.push-requires-clause-first
push-requires-clause-first c =
    let t = c.args.fabric.now in
    let p = c.args.plan.now in
    let load = c.args.self.now in
    let good = c.requires.load in
    let still = c.requires.still in
    let start = c.first_taken-number.result in
    let first = c.first_taken-number.ensures in
    let so_far = c.loop.invariant good still start first in
    omega (arith, number_below t p load good still start first c.loop.number c.loop.counter c.loop.walk so_far, so_far.nodes)

pub push-requires-clause-second : goal.push-requires-clause-second
push-requires-clause-second c =
    let t = c.args.fabric.now in
    let p = c.args.plan.now in
    let load = c.args.self.now in
    let good = c.requires.load in
    let still = c.requires.still in
    let start = c.first_taken-number.result in
    let first = c.first_taken-number.ensures in
    let so_far = c.loop.invariant good still start first in
    let after : next_at t p load (channel_of_cell load.count c.loop.number) ≡ Some c.unwrap-awaited.result = ap (λ v. next_at t p load v) (sym c.channel_of-at.ensures) ∙ sym c.next_of.ensures ∙ c.unwrap-awaited.ensures in
    omega (arith, c.number_of-next.ensures, next_low t p load good still start first c.loop.number c.loop.counter c.unwrap-awaited.result c.loop.walk so_far after, so_far.nodes)

pub loop-preserved : goal.loop-preserved
loop-preserved c = λ good still start first.
    let t = c.args.fabric.now in
    let p = c.args.plan.now in
    let load = c.args.self.now in
    let after : next_at t p load (channel_of_cell load.count c.loop.number) ≡ Some c.unwrap-awaited.result = ap (λ v. next_at t p load v) (sym c.channel_of-at.ensures) ∙ sym c.next_of.ensures ∙ c.unwrap-awaited.ensures in
    walks_on t p load good still start first c.loop.number c.loop.counter c.number_of-next.result c.unwrap-awaited.result c.loop.walk c.push.new.self (c.loop.invariant good still start first) after c.number_of-next.ensures c.in_ok-push.ensures.ok

pub unwrap-requires : goal.unwrap-requires
unwrap-requires c =
    let t = c.args.fabric.now in
    let p = c.args.plan.now in
    let load = c.args.self.now in
    let good = c.requires.load in
    let still = c.requires.still in
    let start = c.first_taken-number.result in
    let first = c.first_taken-number.ensures in
    let so_far = c.loop.invariant good still start first in
    let size = ap (λ (l : Load). length l.cells) c.self.view_is in
    let all : c.loop.counter ≡ length load.cells = omega (arith, size, c.len-count.ensures, c.loop-test.false, c.loop.auto.counter-end) in
    let walked = subst (λ n. IsWalked t p load good still start first c.loop.number n c.loop.walk) all so_far in
    some_ring t p load good still start first c.in_ok-first_ring.field-0 c.loop.number c.loop.walk walked c.in_ok-first_ring.ensures

pub returns : goal.returns
returns c =
    let t = c.args.fabric.now in
    let p = c.args.plan.now in
    let load = c.args.self.now in
    let good = c.requires.load in
    let still = c.requires.still in
    let start = c.first_taken-number.result in
    let first = c.first_taken-number.ensures in
    let so_far = c.loop.invariant good still start first in
    let size = ap (λ (l : Load). length l.cells) c.self.view_is in
    let all : c.loop.counter ≡ length load.cells = omega (arith, size, c.len-count.ensures, c.loop-test.false, c.loop.auto.counter-end) in
    let walked = subst (λ n. IsWalked t p load good still start first c.loop.number n c.loop.walk) all so_far in
    ring_there t p load good still start first c.loop.number c.loop.walk c.unwrap.result walked
    (subst (λ (o : Option (List ℕ)). MatchOption o (IsAcyclic (IsEdge c.loop.walk.edges)) (λ ring. IsFirstRing (IsEdge c.loop.walk.edges) ring)) c.unwrap.ensures c.in_ok-first_ring.ensures)
