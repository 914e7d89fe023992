use Rattle.std.proofs.Common.{arith}
use Rattle.std.specs.Prelude.{slice_get}
use Rattle.fab_dump.proofs.Writing.Pairs.{of_this, begun, none_yet, one_on, pair_added, begin_next, pairs_done, others_later, pair_map}
use Rattle.fab_dump.proofs.write_blocks.push_pairs.Goals as goal

pub loop-next-init : goal.loop-next-init
loop-next-init c = record {
  so_far = none_yet c.args.lanes.now.pairs c.args.switch.0 c.args.first c.args.text.now.items c.requires.first;
  around = begun c.args.lanes.now.pairs c.args.switch.0 c.args.first c.requires.first;
}

pub push_pair-requires : goal.push_pair-requires
push_pair-requires c = pair_map c.args.lanes.now c.loop-next.next c.in-Some.row c.requires.lanes (of_this c.args.switch.0 (slice_get c.args.lanes.now.pairs c.loop-next.next) c.in-Some.row c.in-Some.ensures).found

pub loop-next-preserved : goal.loop-next-preserved
loop-next-preserved c =
    let there = of_this c.args.switch.0 (slice_get c.args.lanes.now.pairs c.loop-next.next) c.in-Some.row c.in-Some.ensures in
    record {
      so_far = pair_added c.args.lanes.now.pairs c.args.switch.0 c.loop-next.next c.in-Some.row there c.args.text.now.items c.loop-next.text.items c.push_pair.new.text.items c.push.new.to.items c.loop-next.invariant.so_far c.in_ok-push_pair.ensures c.in_ok-push.ensures;
      around = one_on c.args.lanes.now.pairs c.args.switch.0 c.loop-next.next c.in-Some.row there c.loop-next.invariant.around;
    }

pub returns-in_default-clause-rows : goal.returns-in_default-clause-rows
returns-in_default-clause-rows c =
    pairs_done c.args.lanes.now.pairs c.args.switch.0 c.loop-next.next c.args.text.now.items c.loop-next.text.items
    (others_later c.args.lanes.now.pairs c.args.switch.0 c.loop-next.next c.args.lanes.now.switches c.requires.lanes.in_order c.requires.lanes.pairs c.in_default.ensures (omega (arith, c.loop-next-test.true, c.pairs-next-end.ensures)) c.loop-next.invariant.around)
    c.loop-next.invariant.so_far

pub returns-in_default-clause-past : goal.returns-in_default-clause-past
returns-in_default-clause-past c =
    begin_next c.args.lanes.now.pairs c.args.switch.0 c.loop-next.next (omega (arith, c.loop-next-test.true, c.pairs-next-end.ensures)) c.loop-next.invariant.around
    (others_later c.args.lanes.now.pairs c.args.switch.0 c.loop-next.next c.args.lanes.now.switches c.requires.lanes.in_order c.requires.lanes.pairs c.in_default.ensures (omega (arith, c.loop-next-test.true, c.pairs-next-end.ensures)) c.loop-next.invariant.around)
