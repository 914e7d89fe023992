use Rattle.std.proofs.Common.{◌++◌, List, ℕ, ap, ◌∙◌}
use Rattle.std.specs.Prelude.{flat_map, slice_get}
use Rattle.fab_tables.specs.Ahead.{Ahead}
use Rattle.fab_tables.proofs.Paths.Ways.{goes_on, channel_low}
use Rattle.fab_report.specs.Shown.{channel_text}
use Rattle.fab_report.proofs.Reporting.HopLines.{text_goes, two_parts}
use Rattle.fab_report.proofs.shown.push_channels.Goals as goal

pub loop-channel-init : goal.loop-channel-init
loop-channel-init c =
    let t = c.args.fabric.now in
    let channels = ap (λ (a : Ahead). a.channels) c.into_iter-channel-iterator.ensures.into_iter_gives ∙ c.follow-channel-items.ensures.channels in (
      tt,
      tt,
      record { passed = 0; rest = channels; end = ap (λ (a : Ahead). a.end) c.into_iter-channel-iterator.ensures.into_iter_gives ∙ c.follow-channel-items.ensures.end },
      ap (λ (xs : List ℕ). c.args.text.now.items ++ flat_map (λ n. channel_text t (slice_get t.channels n) ++ c.args.line_end.now) xs) channels,
    )

pub push_channel-requires-clause-channel : goal.push_channel-requires-clause-channel
push_channel-requires-clause-channel c =
    channel_low c.args.fabric.now c.args.tables.now c.args.lid.0 c.requires.toward c.args.from.0 c.loop-channel.channel-iterator c.next.new.self c.in-Some.channel c.loop-channel.invariant.2 c.in-Some.ensures.steps

pub loop-channel-preserved : goal.loop-channel-preserved
loop-channel-preserved c =
    let t = c.args.fabric.now in (
      tt,
      tt,
      goes_on t c.args.tables.now c.args.lid.0 c.requires.toward c.args.from.0 c.loop-channel.channel-iterator c.next.new.self c.in-Some.channel c.loop-channel.invariant.2 c.in-Some.ensures.steps,
      text_goes (λ n. channel_text t (slice_get t.channels n) ++ c.args.line_end.now) c.in-Some.channel.0 c.next.new.self.channels c.loop-channel.channel-iterator.channels c.loop-channel.text.items c.extend_from_slice.new.self.items _
          c.in-Some.ensures.steps.0 c.loop-channel.invariant.3
          (two_parts c.loop-channel.text.items (channel_text t (slice_get t.channels c.in-Some.channel.0)) c.args.line_end.now c.push_channel.new.text.items c.extend_from_slice.new.self.items c.in_ok-push_channel.ensures c.in_ok-extend_from_slice.ensures.items),
    )
