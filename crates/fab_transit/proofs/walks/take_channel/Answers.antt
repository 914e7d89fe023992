use Rattle.std.proofs.Common.{◌∙◌, ap, subst, arith}
use Rattle.fab_tables.specs.declared.verdict.VirtualChannel.{VirtualChannel}
use Rattle.fab_tables.specs.Dependencies.{node_of}
use Rattle.fab_certify.specs.Collected.{AddsHop}
use Rattle.fab_certify.proofs.Collected.CollectingHops.{node_fits}
use Rattle.fab_transit.specs.MixedWalks.{bound}
use Rattle.fab_transit.specs.Changing.{standing_of}
use Rattle.fab_transit.proofs.Parts.{step_answer}
use Rattle.fab_transit.proofs.walks.take_channel.Goals as goal

pub node_of-requires : goal.node_of-requires
node_of-requires c =
    node_fits c.args.plans.now.fabric c.requires.packet.changing.fabric c.bound-2.result c.args.channel.0 c.lane-lane.result c.bound-2.ensures.few c.requires.channel
    (omega (arith, c.bound.ensures.bound, c.bound-2.ensures.bound, c.if-lane-bound.false))

pub returns : goal.returns
returns c =
    let g = c.args.plans.now in
    let p = c.args.packet in
    let hop : VirtualChannel = record { channel = c.args.channel; lane = c.lane-lane.result } in
    let adds : AddsHop p.held (node_of (bound g.change) hop) c.args.walks.now.dependencies c.add.new.self
    = subst (λ n. AddsHop p.held n c.args.walks.now.dependencies c.add.new.self) (c.node_of.ensures ∙ ap (λ n. node_of n hop) c.bound-2.ensures.bound) c.in_ok-add.ensures in
    step_answer c.add-2.result g.fabric g.change p.lid.0 p.level (standing_of p.here) p.held c.args.side hop c.lane-lane.ensures (omega (arith, c.bound.ensures.bound, c.if-lane-bound.false))
    c.args.found.now c.add-2.new.self c.args.walks.now c.add.new.self adds c.add-2.ensures
