use Rattle.std.proofs.Common.{◌≡◌, false, Some, length, replicate, get_or, arith, rules}
use Rattle.fab_model.specs.Without.{named_channel}
use Rattle.fab_model.proofs.Cables.{no_cable, known_more, nothing_listed, named_pair, listing_step, no_channel_of, channel_from_id, first_unknown, none_unknown}
use Rattle.fab_model.proofs.fabric.Fabric.listed_channels.Goals as goal

pub loop-index-init : goal.loop-index-init
loop-index-init c =
    let none : c.in_ok-listed.listed.items ≡ replicate (length c.args.self.now.channels) false = search rules in
    record { listed = nothing_listed c.args.self.now c.in_ok-listed.listed.items none; known = λ k d h. absurd (omega arith) }

pub returns-in_default : goal.returns-in_default
returns-in_default c =
    first_unknown c.args.self.now c.args.failed.now c.loop-index.index no_cable (omega arith) c.loop-index.invariant.known (no_channel_of _ c.in_default.ensures)

pub loop-index-preserved : goal.loop-index-preserved
loop-index-preserved c =
    let are = rw c.self.view_is at c.self.invariant.0.rows in
    let cable = get_or c.args.failed.now c.loop-index.index no_cable in
    let found : named_channel c.args.self.now cable ≡ Some c.in-Some.channel.0 = channel_from_id _ c.in-Some.channel c.in-Some.ensures in
    let pair = named_pair c.args.self.now are cable c.in-Some.channel.0 c.reverse-other.result.0 found c.reverse-other.ensures.reverse c.reverse-other.ensures.within in
    record {
      listed = rw c.loop-index.invariant.listed (listing_step c.args.self.now c.args.failed.now c.loop-index.index no_cable c.in-Some.channel.0 c.reverse-other.result.0 (omega arith) pair);
      known = known_more c.args.self.now c.args.failed.now c.loop-index.index c.in-Some.channel.0 (omega arith) c.loop-index.invariant.known found;
    }

pub returns : goal.returns
returns c =
    none_unknown c.args.self.now c.args.failed.now c.loop-index.listed.items c.loop-index.index (omega arith) c.loop-index.invariant.known c.loop-index.invariant.listed

pub named_channel-requires : goal.named_channel-requires
named_channel-requires c = rw c.self.view_is at c.self.invariant.0
