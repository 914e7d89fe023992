use Rattle.std.proofs.Common.{◌≡◌, [], ◌∷◌, List, reverse, set, subst, sym, ap, ◌∙◌, arith, length-set}
use Rattle.std.proofs.lemmas.List.{reverse-append}
use Rattle.fab_model.specs.declared.rows.ChannelId.{ChannelId}
use Rattle.fab_report.specs.declared.order.Mark.TheVariants.{Laid}
use Rattle.fab_report.specs.Order.{AreInOrder, IsWalked}
use Rattle.fab_report.proofs.Carrying.Marks.{seen_on}
use Rattle.fab_report.proofs.Carrying.WalkSteps.{unseen_laid}
use Rattle.fab_report.proofs.Carrying.LayingSteps.{last_low, tail_low, one_laid, order_grows}
use Rattle.fab_report.proofs.order.Order.lay_route.Goals as goal

pub channel-requires : goal.channel-requires
channel-requires c =
    last_low c.args.fabric.now c.args.tables.now c.args.lid.0 c.requires.toward c.args.from.0 (reverse c.loop-channel.self.channels.items) c.loop-channel.self.walked.items c.pop.new.self.items
    c.in-Some.channel c.loop-channel.self.marks.items c.in-Some.ensures.items c.loop-channel.invariant.walked

pub index_mut-requires : goal.index_mut-requires
index_mut-requires c = omega (
  arith,
  c.loop-channel.invariant.room,
  tail_low c.args.fabric.now c.args.tables.now c.args.lid.0 c.requires.toward c.args.from.0 (reverse c.loop-channel.self.channels.items) c.loop-channel.self.walked.items c.pop.new.self.items
      c.in-Some.channel c.loop-channel.self.marks.items c.in-Some.ensures.items c.loop-channel.invariant.walked c.channel.result c.channel.ensures c.loop-channel.invariant.room,
)

pub loop-channel-preserved : goal.loop-channel-preserved
loop-channel-preserved c =
    let t = c.args.fabric.now in
    let e = c.args.tables.now in
    let lid = c.args.lid.0 in
    let laid = reverse c.loop-channel.self.channels.items in
    let marks = c.loop-channel.self.marks.items in
    let grown : c.in-Some.channel ∷ laid ≡ reverse c.push.new.self.items =
    sym (ap (λ (xs : List ChannelId). reverse xs) c.in_ok-push.ensures.items ∙ reverse-append c.loop-channel.self.channels.items (c.in-Some.channel ∷ [])) in
    let low = tail_low t e lid c.requires.toward c.args.from.0 laid c.loop-channel.self.walked.items c.pop.new.self.items c.in-Some.channel marks c.in-Some.ensures.items c.loop-channel.invariant.walked c.channel.result c.channel.ensures c.loop-channel.invariant.room in
    record {
      room = length-set marks c.channel.result.tail.0 Laid ∙ c.loop-channel.invariant.room;
      order = subst (λ (xs : List ChannelId). AreInOrder t e lid xs) grown
          (order_grows t e lid c.requires.toward c.args.from.0 laid c.loop-channel.self.walked.items c.pop.new.self.items c.in-Some.channel marks c.in-Some.ensures.items c.loop-channel.invariant.walked c.loop-channel.invariant.order);
      walked = subst (λ (xs : List ChannelId). IsWalked t e lid c.args.from.0 xs c.pop.new.self.items (set marks c.channel.result.tail.0 Laid)) grown
          (one_laid t e lid c.requires.toward c.args.from.0 laid c.loop-channel.self.walked.items c.pop.new.self.items c.in-Some.channel marks c.in-Some.ensures.items c.loop-channel.invariant.walked c.channel.result c.channel.ensures c.loop-channel.invariant.room);
      seen = seen_on c.args.self.now.marks.items marks c.args.from.0 c.channel.result.tail.0 Laid (omega (arith, low, c.loop-channel.invariant.room)) unseen_laid c.loop-channel.invariant.seen;
    }
