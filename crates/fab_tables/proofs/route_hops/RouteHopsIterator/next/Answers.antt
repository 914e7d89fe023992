use Rattle.fab_tables.proofs.Paths.HopsTaken.{first_low, rest_low, leaves_low}
use Rattle.fab_tables.proofs.route_hops.RouteHopsIterator.next.Goals as goal

pub channel-row-requires : goal.channel-row-requires
channel-row-requires c =
    first_low c.self.inside.fabric.now c.self.inside.channels.channels c.next.new.self.channels c.in_ok-channel.channel.0 c.in_ok-channel.ensures.steps.0 c.self.invariant.channels_kept

pub lane_at-lane-requires-clause-switch : goal.lane_at-lane-requires-clause-switch
lane_at-lane-requires-clause-switch c =
    leaves_low c.self.inside.fabric.now c.self.inside.lanes.now c.in_ok-channel.channel.0 c.channel-row.result c.self.invariant.kept c.self.invariant.fits c.channel-row.ensures

pub invariant_of-self-2 : goal.invariant_of-self-2
invariant_of-self-2 c = record {
  kept = c.self.invariant.kept;
  fits = c.self.invariant.fits;
  level = c.self.invariant.level;
  channels_kept = rest_low c.self.inside.fabric.now c.self.inside.channels.channels c.next.new.self.channels c.in_ok-channel.channel.0 c.in_ok-channel.ensures.steps.0 c.self.invariant.channels_kept;
}
