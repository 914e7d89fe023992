use Rattle.std.proofs.Common.{◌++◌, List, sym, ap, ◌∙◌, subst, arith}
use Rattle.std.specs.Prelude.{All, codes, flat_map, slice_get}
use Rattle.fab_tables.specs.declared.verdict.VirtualChannel.{VirtualChannel}
use Rattle.fab_tables.specs.HopsAhead.{HopsAhead}
use Rattle.fab_tables.specs.Route.{route}
use Rattle.fab_tables.proofs.Paths.HopsTaken.{channels_low}
use Rattle.fab_report.specs.Shown.{channel_text, number_text, numbered_line}
use Rattle.fab_report.proofs.Reporting.HopLines.{IsHop, are_hops, first_hop, hops_left, text_goes, two_parts}
use Rattle.fab_report.proofs.shown.push_hops.Goals as goal

pub loop-hop-init : goal.loop-hop-init
loop-hop-init c =
    let t = c.args.fabric.now in
    let l = c.args.lanes.now in
    let cs = (route t c.args.tables.now c.args.from.switch.0 c.args.lid.0).channels in
    let hops = ap (λ (a : HopsAhead). a.hops) c.into_iter-hop-iterator.ensures.into_iter_gives ∙ c.hops-hop-items.ensures in (
      tt,
      tt,
      subst (λ (vs : List VirtualChannel). All (IsHop t) vs) (sym hops)
          (are_hops t l c.args.level c.args.from.port cs c.requires.lanes.whole c.requires.level (channels_low t c.args.tables.now c.args.from.switch.0 c.args.lid.0 c.requires.toward.fabric)),
      ap (λ (vs : List VirtualChannel). c.args.text.now.items ++ flat_map (numbered_line t l) vs) hops,
    )

pub push_channel-requires-clause-channel : goal.push_channel-requires-clause-channel
push_channel-requires-clause-channel c = (first_hop c.args.fabric.now c.loop-hop.hop-iterator.hops c.in-Some.hop c.next.new.self.hops c.in-Some.ensures.steps c.loop-hop.invariant.2).channel

pub push_number-requires-clause-channel : goal.push_number-requires-clause-channel
push_number-requires-clause-channel c =
    omega (arith, c.requires.lanes.channels, (first_hop c.args.fabric.now c.loop-hop.hop-iterator.hops c.in-Some.hop c.next.new.self.hops c.in-Some.ensures.steps c.loop-hop.invariant.2).channel)

pub push_number-requires-clause-lane : goal.push_number-requires-clause-lane
push_number-requires-clause-lane c = (first_hop c.args.fabric.now c.loop-hop.hop-iterator.hops c.in-Some.hop c.next.new.self.hops c.in-Some.ensures.steps c.loop-hop.invariant.2).lane

pub loop-hop-preserved : goal.loop-hop-preserved
loop-hop-preserved c =
    let t = c.args.fabric.now in
    let l = c.args.lanes.now in
    let v = c.in-Some.hop in
    let text = c.loop-hop.text.items in
    let channel = channel_text t (slice_get t.channels v.channel.0) in
    let spaced = two_parts text channel (codes " ") c.push_channel.new.text.items c.extend_from_slice.new.self.items c.in_ok-push_channel.ensures c.in_ok-extend_from_slice.ensures.items in
    let numbered = two_parts text (channel ++ codes " ") (number_text l v) c.extend_from_slice.new.self.items c.push_number.new.text.items spaced c.in_ok-push_number.ensures in
    let ended = two_parts text (channel ++ codes " " ++ number_text l v) (codes "\n") c.push_number.new.text.items c.extend_from_slice-in-loop-hop.new.self.items numbered c.in_ok-extend_from_slice-2.ensures.items in (
      tt,
      tt,
      hops_left t c.loop-hop.hop-iterator.hops v c.next.new.self.hops c.in-Some.ensures.steps c.loop-hop.invariant.2,
      text_goes (numbered_line t l) v c.next.new.self.hops c.loop-hop.hop-iterator.hops text c.extend_from_slice-in-loop-hop.new.self.items _ c.in-Some.ensures.steps c.loop-hop.invariant.3 ended,
    )
