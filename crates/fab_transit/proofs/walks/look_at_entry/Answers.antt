use Rattle.std.proofs.Common.{◌≡◌}
use Rattle.fab_tables.specs.Route.Hop.{Along}
use Rattle.fab_transit.specs.MixedWalks.{hop_of}
use Rattle.fab_transit.specs.Changing.{standing_of}
use Rattle.fab_transit.proofs.Parts.{both_maps}
use Rattle.fab_transit.proofs.walks.look_at_entry.Goals as goal

pub returns-in_ok-take_channel-in-Ok-2 : goal.returns-in_ok-take_channel-in-Ok-2
returns-in_ok-take_channel-in-Ok-2 c =
    let g = c.args.plans.now in
    let p = c.args.packet in
    let leads : hop_of g.fabric g.change p.lid.0 c.args.side p.here.switch.0 ≡ Along c.in-Ok.channel.0 = cc (c.in-Ok.ensures, c.in-Ok.channel-is) in
    both_maps g.fabric g.change p.lid.0 p.level (standing_of p.here) p.held c.args.side c.in-Ok.channel.0 leads
    c.args.found.now c.take_channel.new.found c.take_channel-in-Ok.new.found c.args.walks.now c.take_channel.new.walks c.take_channel-in-Ok.new.walks
    c.in_ok-take_channel-in-Ok.ensures c.in_ok-take_channel-in-Ok-2.ensures
