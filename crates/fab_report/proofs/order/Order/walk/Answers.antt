use Rattle.std.proofs.Common.{◌≡◌, ◌<◌, length, reverse, sym, ◌∙◌, arith}
use Rattle.std.proofs.lemmas.List.{get_or_read}
use Rattle.fab_report.specs.declared.order.Mark.TheVariants.{Unseen}
use Rattle.fab_report.specs.Order.{mark_of}
use Rattle.fab_report.proofs.Carrying.WalkSteps.{channel_within, to_low, walk_goes_on, walk_reaches, walk_is_lost, all_lost, walk_ends, told_end}
use Rattle.fab_report.proofs.order.Order.walk.Goals as goal

pub tip-at-requires : goal.tip-at-requires
tip-at-requires c =
    channel_within c.args.fabric.now c.args.tables.now c.args.lid.0 c.requires.toward c.args.from.0 c.requires.switch (reverse c.args.self.now.channels.items) c.args.self.now.marks.items
    c.loop-channel.self.walked.items c.loop-channel.route c.loop-channel.at c.loop-channel.self.marks.items c.loop-channel.invariant.3 c.next.new.self c.in-Some.channel c.in-Some.ensures.steps

pub index-requires : goal.index-requires
index-requires c = omega (
  arith,
  c.loop-channel.invariant.3.room,
  to_low c.args.fabric.now c.args.tables.now c.args.lid.0 c.requires.toward c.args.from.0 c.requires.switch (reverse c.args.self.now.channels.items) c.args.self.now.marks.items
      c.loop-channel.self.walked.items c.loop-channel.route c.loop-channel.at c.loop-channel.self.marks.items c.loop-channel.invariant.3 c.next.new.self c.in-Some.channel c.in-Some.ensures.steps
      c.tip-at.result c.tip-at.ensures c.push.new.self.items c.in_ok-push.ensures.items,
)

pub index_mut-requires-in-Unseen : goal.index_mut-requires-in-Unseen
index_mut-requires-in-Unseen c = omega (
  arith,
  c.loop-channel.invariant.3.room,
  to_low c.args.fabric.now c.args.tables.now c.args.lid.0 c.requires.toward c.args.from.0 c.requires.switch (reverse c.args.self.now.channels.items) c.args.self.now.marks.items
      c.loop-channel.self.walked.items c.loop-channel.route c.loop-channel.at c.loop-channel.self.marks.items c.loop-channel.invariant.3 c.next.new.self c.in-Some.channel c.in-Some.ensures.steps
      c.tip-at.result c.tip-at.ensures c.push.new.self.items c.in_ok-push.ensures.items,
)

pub loop-channel-preserved : goal.loop-channel-preserved
loop-channel-preserved c = (
  tt,
  tt,
  c.loop-channel.invariant.2,
  walk_goes_on c.args.fabric.now c.args.tables.now c.args.lid.0 c.requires.toward c.args.from.0 c.requires.switch (reverse c.args.self.now.channels.items) c.args.self.now.marks.items
      c.loop-channel.self.walked.items c.loop-channel.route c.loop-channel.at c.loop-channel.self.marks.items c.loop-channel.invariant.3 c.next.new.self c.in-Some.channel c.in-Some.ensures.steps
      c.tip-at.result c.tip-at.ensures c.push.new.self.items c.in_ok-push.ensures.items,
)

pub returns-in-Lost-clause-walked : goal.returns-in-Lost-clause-walked
returns-in-Lost-clause-walked c =
    let t = c.args.fabric.now in
    let walking = c.loop-channel.invariant.3 in
    let low : c.tip-at.result.0 < length c.loop-channel.self.marks.items = omega (
      arith,
      walking.room,
      to_low t c.args.tables.now c.args.lid.0 c.requires.toward c.args.from.0 c.requires.switch (reverse c.args.self.now.channels.items) c.args.self.now.marks.items
          c.loop-channel.self.walked.items c.loop-channel.route c.loop-channel.at c.loop-channel.self.marks.items walking c.next.new.self c.in-Some.channel c.in-Some.ensures.steps
          c.tip-at.result c.tip-at.ensures c.push.new.self.items c.in_ok-push.ensures.items,
    ) in
    let mark : c.index.result.now ≡ mark_of c.loop-channel.self.marks.items c.tip-at.result.0 = get_or_read c.loop-channel.self.marks.items _ _ low c.index.ensures Unseen in
    all_lost t c.args.tables.now c.args.lid.0 c.requires.toward c.args.from.0 c.requires.switch (reverse c.args.self.now.channels.items) c.args.self.now.marks.items
    c.loop-channel.self.walked.items c.loop-channel.route c.loop-channel.at c.loop-channel.self.marks.items walking
    (walk_is_lost t c.args.tables.now c.args.lid.0 c.requires.toward c.args.from.0 c.requires.switch (reverse c.args.self.now.channels.items) c.args.self.now.marks.items
    c.loop-channel.self.walked.items c.loop-channel.route c.loop-channel.at c.loop-channel.self.marks.items walking c.next.new.self c.in-Some.channel c.in-Some.ensures.steps
    c.tip-at.result c.tip-at.ensures c.push.new.self.items c.in_ok-push.ensures.items (sym mark ∙ c.in-Lost.is))

pub returns-in-Laid-clause-walked : goal.returns-in-Laid-clause-walked
returns-in-Laid-clause-walked c =
    let t = c.args.fabric.now in
    let walking = c.loop-channel.invariant.3 in
    let low : c.tip-at.result.0 < length c.loop-channel.self.marks.items = omega (
      arith,
      walking.room,
      to_low t c.args.tables.now c.args.lid.0 c.requires.toward c.args.from.0 c.requires.switch (reverse c.args.self.now.channels.items) c.args.self.now.marks.items
          c.loop-channel.self.walked.items c.loop-channel.route c.loop-channel.at c.loop-channel.self.marks.items walking c.next.new.self c.in-Some.channel c.in-Some.ensures.steps
          c.tip-at.result c.tip-at.ensures c.push.new.self.items c.in_ok-push.ensures.items,
    ) in
    let mark : c.index.result.now ≡ mark_of c.loop-channel.self.marks.items c.tip-at.result.0 = get_or_read c.loop-channel.self.marks.items _ _ low c.index.ensures Unseen in
    walk_reaches t c.args.tables.now c.args.lid.0 c.requires.toward c.args.from.0 c.requires.switch (reverse c.args.self.now.channels.items) c.args.self.now.marks.items
    c.loop-channel.self.walked.items c.loop-channel.route c.loop-channel.at c.loop-channel.self.marks.items walking c.next.new.self c.in-Some.channel c.in-Some.ensures.steps
    c.tip-at.result c.tip-at.ensures c.push.new.self.items c.in_ok-push.ensures.items (sym mark ∙ c.in-Laid.is)

pub returns-in-Delivered-clause-walked : goal.returns-in-Delivered-clause-walked
returns-in-Delivered-clause-walked c =
    walk_ends c.args.fabric.now c.args.tables.now c.args.lid.0 c.requires.toward c.args.from.0 c.requires.switch (reverse c.args.self.now.channels.items) c.args.self.now.marks.items
    c.loop-channel.self.walked.items c.loop-channel.route c.loop-channel.at c.loop-channel.self.marks.items c.loop-channel.invariant.3 c.in_default.ensures.steps.0
    (told_end c.loop-channel.route c.next.new.self c.end.result _ c.in_default.ensures.steps.1 c.end.ensures c.unwrap.ensures ∙ c.in-Delivered.is)

pub returns-in_default-unwrap : goal.returns-in_default-unwrap
returns-in_default-unwrap c = record {
  walked = all_lost c.args.fabric.now c.args.tables.now c.args.lid.0 c.requires.toward c.args.from.0 c.requires.switch (reverse c.args.self.now.channels.items) c.args.self.now.marks.items
      c.loop-channel.self.walked.items c.loop-channel.route c.loop-channel.at c.loop-channel.self.marks.items c.loop-channel.invariant.3
      (λ d. c.in_default-unwrap.not-Delivered (sym (told_end c.loop-channel.route c.next.new.self c.end.result _ c.in_default.ensures.steps.1 c.end.ensures c.unwrap.ensures) ∙ c.loop-channel.invariant.3.end ∙ d));
  seen = c.loop-channel.invariant.3.seen;
  order = c.loop-channel.invariant.2;
  room = c.loop-channel.invariant.3.room;
}
