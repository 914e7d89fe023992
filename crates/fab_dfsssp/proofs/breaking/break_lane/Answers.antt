use Rattle.std.proofs.Common.{arith, sym, subst}
use Rattle.fab_dfsssp.specs.Assigned.{IsBrokenBelow}
use Rattle.fab_dfsssp.proofs.CountedLanes.{no_ring_at_first, none_left}
use Rattle.fab_dfsssp.proofs.LaneBroken.{lane_ended}
use Rattle.fab_dfsssp.proofs.breaking.break_lane.Goals as goal

pub loop-channel-init : goal.loop-channel-init
loop-channel-init c = record {
  before = c.requires.before;
  counts = c.in_ok-edges.ensures;
  below = no_ring_at_first c.args.fabric.now c.args.tables.now c.args.lanes.now c.args.lane;
}

pub break_rings-requires-clause-lane : goal.break_rings-requires-clause-lane
break_rings-requires-clause-lane c = omega (arith, c.requires.lane, c.loop-channel.invariant.before.assigned.lane_count)

pub break_rings-requires-clause-before : goal.break_rings-requires-clause-before
break_rings-requires-clause-before c =
    subst (λ n. IsBrokenBelow c.args.fabric.now c.args.tables.now n c.args.lane c.loop-channel.lanes) (sym c.loop-channel.invariant.before.assigned.lane_count) c.loop-channel.invariant.before

pub break_rings-requires-clause-counts : goal.break_rings-requires-clause-counts
break_rings-requires-clause-counts c = c.loop-channel.invariant.counts

pub break_rings-requires-clause-below : goal.break_rings-requires-clause-below
break_rings-requires-clause-below c = c.loop-channel.invariant.below

pub loop-channel-preserved : goal.loop-channel-preserved
loop-channel-preserved c = record {
  before = subst (λ n. IsBrokenBelow c.args.fabric.now c.args.tables.now n c.args.lane c.break_rings.new.lanes) c.loop-channel.invariant.before.assigned.lane_count c.in_ok-break_rings.ensures.after;
  counts = c.in_ok-break_rings.ensures.counts;
  below = c.in_ok-break_rings.ensures.below;
}

pub returns-clause-count : goal.returns-clause-count
returns-clause-count c = c.loop-channel.invariant.before.assigned.lane_count

pub returns-clause-after : goal.returns-clause-after
returns-clause-after c =
    lane_ended c.args.fabric.now c.args.tables.now c.args.lanes.now.count c.args.lane c.loop-channel.lanes c.loop-channel.invariant.before
    (none_left c.args.fabric.now c.args.tables.now c.loop-channel.lanes c.args.lane c.loop-channel.channel c.requires.fabric.rows
    (omega (arith, c.loop-channel-test.false, c.channels-channel-end.ensures.count)) c.loop-channel.invariant.below)
