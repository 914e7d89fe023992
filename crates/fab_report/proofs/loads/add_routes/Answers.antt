use Rattle.std.proofs.Common.{List, reverse, ap, arith, length-set}
use Rattle.fab_model.specs.declared.rows.ChannelId.{ChannelId}
use Rattle.fab_report.proofs.Carrying.CarrySteps.{carrying_starts, next_low, below_ordered, row_tail_low, row_tip_low, count_small, amount_small, carrying_goes, carrying_ends, few_added, few_terminals, none_left, popped}
use Rattle.fab_report.proofs.loads.add_routes.Goals as goal

pub loop-channel-init : goal.loop-channel-init
loop-channel-init c = record {
  room = c.in_ok-lay.ensures.room;
  order = c.in_ok-lay.ensures.order.in_order;
  carrying = carrying_starts c.args.fabric.now c.args.tables.now c.args.lid.0 c.lay.new.self.channels.items c.args.counts.now c.args.amounts.now c.in_ok-lay.ensures.order c.requires.room c.requires.terminals.whole;
}

pub bounds-amounts-row : goal.bounds-amounts-row
bounds-amounts-row c = omega (
  arith,
  row_tail_low c.args.fabric.now c.args.tables.now c.args.lid.0 c.requires.toward c.args.counts.now c.args.amounts.now (reverse c.loop-channel.order.channels.items) (reverse c.pop.new.self.items) c.loop-channel.counts c.loop-channel.amounts c.in-Some.channel
      (popped c.loop-channel.order.channels.items c.pop.new.self.items c.in-Some.channel c.in-Some.ensures.items) c.loop-channel.invariant.order c.loop-channel.invariant.carrying c.channel-row.result c.channel-row.ensures,
  c.loop-channel.invariant.carrying.room,
)

pub bounds-amounts-row-in-Some : goal.bounds-amounts-row-in-Some
bounds-amounts-row-in-Some c = omega (
  arith,
  row_tail_low c.args.fabric.now c.args.tables.now c.args.lid.0 c.requires.toward c.args.counts.now c.args.amounts.now (reverse c.loop-channel.order.channels.items) (reverse c.pop.new.self.items) c.loop-channel.counts c.loop-channel.amounts c.in-Some.channel
      (popped c.loop-channel.order.channels.items c.pop.new.self.items c.in-Some.channel c.in-Some.ensures.items) c.loop-channel.invariant.order c.loop-channel.invariant.carrying c.channel-row.result c.channel-row.ensures,
  c.loop-channel.invariant.carrying.room,
)

pub overflow_add-counts : goal.overflow_add-counts
overflow_add-counts c =
    let low = next_low c.args.fabric.now c.args.tables.now c.args.lid.0 c.requires.toward c.args.counts.now c.args.amounts.now (reverse c.loop-channel.order.channels.items) (reverse c.pop.new.self.items) c.loop-channel.counts c.loop-channel.amounts c.in-Some.channel
    (popped c.loop-channel.order.channels.items c.pop.new.self.items c.in-Some.channel c.in-Some.ensures.items) c.loop-channel.invariant.order c.loop-channel.invariant.carrying in
    omega (
      arith,
      count_small c.args.fabric.now c.args.tables.now c.args.lid.0 c.requires.toward c.args.counts.now c.args.amounts.now (reverse c.loop-channel.order.channels.items) (reverse c.pop.new.self.items) c.loop-channel.counts c.loop-channel.amounts c.in-Some.channel
          (popped c.loop-channel.order.channels.items c.pop.new.self.items c.in-Some.channel c.in-Some.ensures.items) c.loop-channel.invariant.order c.loop-channel.invariant.carrying c.channel-row.result c.channel-row.ensures,
      few_added c.args.fabric.now c.args.tables.now c.args.lid.0 c.requires.toward.fabric c.args.amounts.now c.requires.terminals c.in-Some.channel.0,
      c.requires.small c.in-Some.channel.0 0 (omega (arith, low, c.requires.room)),
    )

pub bounds-amounts-row-in-Some-2 : goal.bounds-amounts-row-in-Some-2
bounds-amounts-row-in-Some-2 c = omega (
  arith,
  row_tip_low c.args.fabric.now c.args.tables.now c.args.lid.0 c.requires.toward c.args.counts.now c.args.amounts.now (reverse c.loop-channel.order.channels.items) (reverse c.pop.new.self.items) c.loop-channel.counts c.loop-channel.amounts c.in-Some.channel
      (popped c.loop-channel.order.channels.items c.pop.new.self.items c.in-Some.channel c.in-Some.ensures.items) c.loop-channel.invariant.order c.loop-channel.invariant.carrying c.channel-row.result c.channel-row.ensures,
  c.loop-channel.invariant.carrying.room,
  length-set c.loop-channel.amounts c.channel-row.result.tail.0 0,
)

pub bounds-amounts-row-in-Some-3 : goal.bounds-amounts-row-in-Some-3
bounds-amounts-row-in-Some-3 c = omega (
  arith,
  row_tip_low c.args.fabric.now c.args.tables.now c.args.lid.0 c.requires.toward c.args.counts.now c.args.amounts.now (reverse c.loop-channel.order.channels.items) (reverse c.pop.new.self.items) c.loop-channel.counts c.loop-channel.amounts c.in-Some.channel
      (popped c.loop-channel.order.channels.items c.pop.new.self.items c.in-Some.channel c.in-Some.ensures.items) c.loop-channel.invariant.order c.loop-channel.invariant.carrying c.channel-row.result c.channel-row.ensures,
  c.loop-channel.invariant.carrying.room,
  length-set c.loop-channel.amounts c.channel-row.result.tail.0 0,
)

pub overflow_add-amounts : goal.overflow_add-amounts
overflow_add-amounts c = omega (
  arith,
  amount_small c.args.fabric.now c.args.tables.now c.args.lid.0 c.requires.toward c.args.counts.now c.args.amounts.now (reverse c.loop-channel.order.channels.items) (reverse c.pop.new.self.items) c.loop-channel.counts c.loop-channel.amounts c.in-Some.channel
      (popped c.loop-channel.order.channels.items c.pop.new.self.items c.in-Some.channel c.in-Some.ensures.items) c.loop-channel.invariant.order c.loop-channel.invariant.carrying c.channel-row.result c.channel-row.ensures,
  few_terminals c.args.fabric.now c.args.tables.now c.args.lid.0 c.requires.toward.fabric c.args.amounts.now c.requires.terminals,
)

pub loop-channel-preserved : goal.loop-channel-preserved
loop-channel-preserved c = record {
  room = c.loop-channel.invariant.room;
  order = below_ordered c.args.fabric.now c.args.tables.now c.args.lid.0 c.requires.toward c.args.counts.now c.args.amounts.now (reverse c.loop-channel.order.channels.items) (reverse c.pop.new.self.items) c.loop-channel.counts c.loop-channel.amounts c.in-Some.channel
      (popped c.loop-channel.order.channels.items c.pop.new.self.items c.in-Some.channel c.in-Some.ensures.items) c.loop-channel.invariant.order c.loop-channel.invariant.carrying;
  carrying = carrying_goes c.args.fabric.now c.args.tables.now c.args.lid.0 c.requires.toward c.args.counts.now c.args.amounts.now (reverse c.loop-channel.order.channels.items) (reverse c.pop.new.self.items) c.loop-channel.counts c.loop-channel.amounts c.in-Some.channel
      (popped c.loop-channel.order.channels.items c.pop.new.self.items c.in-Some.channel c.in-Some.ensures.items) c.loop-channel.invariant.order c.loop-channel.invariant.carrying c.channel-row.result c.channel-row.ensures;
}

pub returns-clause-added : goal.returns-clause-added
returns-clause-added c =
    carrying_ends c.args.fabric.now c.args.tables.now c.args.lid.0 c.args.counts.now c.args.amounts.now (reverse c.loop-channel.order.channels.items) c.loop-channel.counts c.loop-channel.amounts
    c.requires.toward.fabric c.requires.terminals (ap (λ (xs : List ChannelId). reverse xs) (none_left c.loop-channel.order.channels.items (omega (arith, c.loop-channel.order.channels.ok.0, c.in_default.ensures.cases.0)))) c.loop-channel.invariant.carrying
