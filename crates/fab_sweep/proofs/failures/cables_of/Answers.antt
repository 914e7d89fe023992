use Rattle.std.proofs.Common.{◌≡◌, ◌+◌, ◌<◌, length, ◌++◌, ◌∷◌, [], map, take, sym, ◌∙◌, ap, arith}
use Rattle.std.specs.Prelude.{filter, ◌==◌}
use Rattle.std.proofs.lemmas.List.Elements.{All-contains}
use Rattle.std.proofs.lemmas.Option.{slice_get_within, get_or_from_slice_get}
use Rattle.fab_model.specs.declared.rows.Cable.{Cable}
use Rattle.fab_model.specs.declared.rows.ChannelRow.{ChannelRow}
use Rattle.fab_model.specs.Topology.{first_channel}
use Rattle.fab_model.proofs.Channels.{contains_read}
use Rattle.fab_sweep.specs.Failures.{cable_of}
use Rattle.fab_sweep.proofs.SwitchCables.{cables_begin, one_cable_more, all_cables}
use Rattle.fab_sweep.proofs.failures.cables_of.Goals as goal

pub loop-channel-init : goal.loop-channel-init
loop-channel-init c =
    let t = c.args.fabric.now in
    c.new-cables.ensures.items ∙ sym (cables_begin t c.requires.fabric.rows c.args.s.0)
    ∙ ap (λ n. map (cable_of t) (filter (λ (row : ChannelRow). row.tail.0 == c.args.s.0) (take n t.channels))) (sym c.leaves-first.ensures.first)

pub cable_of-requires : goal.cable_of-requires
cable_of-requires c =
    let t = c.args.fabric.now in
    All-contains (λ (row : ChannelRow). row.tail.0 < length t.switches) t.channels c.channel-row.result c.requires.fabric.rows.channel_tails (contains_read t.channels c.loop-channel.channel c.channel-row.result c.channel-row.ensures)

pub loop-channel-preserved : goal.loop-channel-preserved
loop-channel-preserved c =
    let t = c.args.fabric.now in
    let row = c.channel-row.result in
    let n = c.loop-channel.channel in
    let cables = c.loop-channel.cables.items in
    c.in_ok-push.ensures.items
    ∙ ap (λ (x : Cable). cables ++ x ∷ []) (c.cable_of.ensures ∙ ap (cable_of t) (sym (get_or_from_slice_get t.channels n row row c.channel-row.ensures)))
    ∙ one_cable_more t c.requires.fabric.rows c.args.s.0 n row cables (omega (arith, c.loop-channel.auto.channel, c.leaves-first.ensures.first)) (omega (arith, c.loop-channel-test.true, c.leaves-first.ensures.past))
    (slice_get_within t.channels n row c.channel-row.ensures) c.loop-channel.invariant

pub returns : goal.returns
returns c =
    let t = c.args.fabric.now in
    let at_end : c.loop-channel.channel ≡ first_channel t (c.args.s.0 + 1) = omega (arith, c.loop-channel.auto.channel-end c.leaves-first.ensures.ordered, c.loop-channel-test.false, c.leaves-first.ensures.past) in
    c.loop-channel.invariant
    ∙ ap (λ n. map (cable_of t) (filter (λ (row : ChannelRow). row.tail.0 == c.args.s.0) (take n t.channels))) at_end
    ∙ ap (map (cable_of t)) (all_cables t c.requires.fabric.rows c.args.s.0)
