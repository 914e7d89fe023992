use Rattle.std.proofs.Common.{suc, sym, ◌∙◌, ap, subst, arith}
use Rattle.std.proofs.lemmas.List.{nil_from_length}
use Rattle.fab_tables.specs.HopsAhead.{HopsAhead}
use Rattle.fab_tables.proofs.Rows.LevelsLow.{level_low}
use Rattle.fab_tables.proofs.Faults.StartFaults.{none_found}
use Rattle.fab_tables.proofs.Faults.HopFaults.{right_clear}
use Rattle.fab_tables.proofs.Faults.HopsJudged.{judging_starts, judging_ends, HaveMarked, marking_starts, judged_there, marking_goes, channel_low, hop_low, tail_low, judging_finds, judging_stops, judging_rests, judging_goes, marks_judged}
use Rattle.fab_tables.proofs.judging.first_hop_fault.Goals as goal

pub loop-hop-init : goal.loop-hop-init
loop-hop-init c = (
  tt,
  tt,
  (
    judging_starts c.args.faults c.args.fabric.now c.args.tables.now c.args.lanes.now c.args.lid c.args.start c.args.level c.into_iter-hop-iterator.result
        (ap (λ (a : HopsAhead). a.hops) c.into_iter-hop-iterator.ensures.into_iter_gives ∙ c.hops-hop-items.ensures),
    marking_starts c.args.faults c.args.fabric.now c.args.tables.now c.args.lanes.now c.args.lid c.args.start c.args.level c.args.marks.now c.requires.judged.room,
  ),
)

pub channel-requires : goal.channel-requires
channel-requires c =
    channel_low c.args.faults c.args.fabric.now c.args.tables.now c.args.lanes.now c.args.lid c.args.start c.args.level c.requires.starts c.loop-hop.hop-iterator c.next.new.self c.in-Some.hop c.loop-hop.before c.loop-hop.is_judged
    c.loop-hop.invariant.2.0 c.in-Some.ensures.steps

pub hop_fault-fault-requires-clause-hop : goal.hop_fault-fault-requires-clause-hop
hop_fault-fault-requires-clause-hop c =
    hop_low c.args.faults c.args.fabric.now c.args.tables.now c.args.lanes.now c.args.lid c.args.start c.args.level c.requires.starts c.loop-hop.hop-iterator c.next.new.self c.in-Some.hop c.loop-hop.before c.loop-hop.is_judged
    c.loop-hop.invariant.2.0 c.in-Some.ensures.steps

pub returns-then-is_some-clause-fault : goal.returns-then-is_some-clause-fault
returns-then-is_some-clause-fault c =
    judging_finds c.args.faults c.args.fabric.now c.args.tables.now c.args.lanes.now c.args.lid c.args.start c.args.level c.requires.starts c.loop-hop.hop-iterator c.next.new.self c.in-Some.hop c.loop-hop.before c.loop-hop.is_judged
    c.loop-hop.invariant.2.0 c.in-Some.ensures.steps c.channel.result c.channel.ensures c.hop_fault-fault.result c.hop_fault-fault.ensures (sym c.is_some.ensures ∙ c.if-is_some.true)

pub is_marked-is_judged-requires : goal.is_marked-is_judged-requires
is_marked-is_judged-requires c = omega (
  arith,
  c.loop-hop.invariant.2.1.room,
  level_low c.args.lanes.now c.args.start.switch.0 c.args.lid.0 c.args.level c.requires.starts.lanes.whole c.requires.starts.has_level,
  tail_low c.args.faults c.args.fabric.now c.args.tables.now c.args.lanes.now c.args.lid c.args.start c.args.level c.requires.starts c.loop-hop.hop-iterator c.next.new.self c.in-Some.hop c.loop-hop.before c.loop-hop.is_judged
      c.loop-hop.invariant.2.0 c.in-Some.ensures.steps c.channel.result c.channel.ensures,
)

pub returns-then-is_judged-clause-fault : goal.returns-then-is_judged-clause-fault
returns-then-is_judged-clause-fault c =
    right_clear c.args.faults c.args.fabric.now c.args.tables.now c.args.lanes.now c.args.lid c.args.start c.args.level c.requires.starts
    (judging_stops c.args.faults c.args.fabric.now c.args.tables.now c.args.lanes.now c.args.lid c.args.start c.args.level c.requires.starts c.loop-hop.hop-iterator c.next.new.self c.in-Some.hop c.loop-hop.before c.loop-hop.is_judged c.loop-hop.invariant.2.0 c.in-Some.ensures.steps c.channel.result c.channel.ensures c.hop_fault-fault.result c.hop_fault-fault.ensures (none_found c.hop_fault-fault.result (sym c.is_some.ensures ∙ c.if-is_some.false)) c.if-is_judged.true)

pub returns-then-is_judged-clause-judged : goal.returns-then-is_judged-clause-judged
returns-then-is_judged-clause-judged c none =
    marks_judged c.args.faults c.args.fabric.now c.args.tables.now c.args.lanes.now c.args.lid c.args.start c.args.level c.requires.reaches c.args.marks.now c.loop-hop.marks c.loop-hop.invariant.2.0.passed c.loop-hop.invariant.2.1
    (judging_stops c.args.faults c.args.fabric.now c.args.tables.now c.args.lanes.now c.args.lid c.args.start c.args.level c.requires.starts c.loop-hop.hop-iterator c.next.new.self c.in-Some.hop c.loop-hop.before c.loop-hop.is_judged c.loop-hop.invariant.2.0 c.in-Some.ensures.steps c.channel.result c.channel.ensures c.hop_fault-fault.result c.hop_fault-fault.ensures (none_found c.hop_fault-fault.result (sym c.is_some.ensures ∙ c.if-is_some.false)) c.if-is_judged.true)
    c.requires.judged

pub returns-then-pairs-eq0-clause-fault : goal.returns-then-pairs-eq0-clause-fault
returns-then-pairs-eq0-clause-fault c =
    right_clear c.args.faults c.args.fabric.now c.args.tables.now c.args.lanes.now c.args.lid c.args.start c.args.level c.requires.starts
    (judging_rests c.args.faults c.args.fabric.now c.args.tables.now c.args.lanes.now c.args.lid c.args.start c.args.level c.requires.starts c.loop-hop.hop-iterator c.next.new.self c.in-Some.hop c.loop-hop.before c.loop-hop.is_judged c.loop-hop.invariant.2.0 c.in-Some.ensures.steps c.channel.result c.channel.ensures c.hop_fault-fault.result c.hop_fault-fault.ensures (none_found c.hop_fault-fault.result (sym c.is_some.ensures ∙ c.if-is_some.false)) (nil_from_length c.args.lanes.now.pairs (sym c.pairs.ensures ∙ c.if-pairs-eq0.true))
    (judged_there c.args.faults c.args.fabric.now c.args.tables.now c.args.lanes.now c.args.lid c.args.start c.args.level c.requires.starts c.loop-hop.hop-iterator c.next.new.self c.in-Some.hop c.loop-hop.before c.loop-hop.is_judged c.loop-hop.invariant.2.0 c.in-Some.ensures.steps c.channel.result c.channel.ensures (level_low c.args.lanes.now c.args.start.switch.0 c.args.lid.0 c.args.level c.requires.starts.lanes.whole c.requires.starts.has_level) c.args.marks.now c.loop-hop.marks c.loop-hop.invariant.2.1 c.requires.reaches c.requires.judged (sym c.is_marked-is_judged.ensures ∙ c.if-is_judged-2.true))
    c.requires.reaches)

pub returns-then-pairs-eq0-clause-judged : goal.returns-then-pairs-eq0-clause-judged
returns-then-pairs-eq0-clause-judged c none =
    marks_judged c.args.faults c.args.fabric.now c.args.tables.now c.args.lanes.now c.args.lid c.args.start c.args.level c.requires.reaches c.args.marks.now c.loop-hop.marks c.loop-hop.invariant.2.0.passed c.loop-hop.invariant.2.1
    (judging_rests c.args.faults c.args.fabric.now c.args.tables.now c.args.lanes.now c.args.lid c.args.start c.args.level c.requires.starts c.loop-hop.hop-iterator c.next.new.self c.in-Some.hop c.loop-hop.before c.loop-hop.is_judged c.loop-hop.invariant.2.0 c.in-Some.ensures.steps c.channel.result c.channel.ensures c.hop_fault-fault.result c.hop_fault-fault.ensures (none_found c.hop_fault-fault.result (sym c.is_some.ensures ∙ c.if-is_some.false)) (nil_from_length c.args.lanes.now.pairs (sym c.pairs.ensures ∙ c.if-pairs-eq0.true))
    (judged_there c.args.faults c.args.fabric.now c.args.tables.now c.args.lanes.now c.args.lid c.args.start c.args.level c.requires.starts c.loop-hop.hop-iterator c.next.new.self c.in-Some.hop c.loop-hop.before c.loop-hop.is_judged c.loop-hop.invariant.2.0 c.in-Some.ensures.steps c.channel.result c.channel.ensures (level_low c.args.lanes.now c.args.start.switch.0 c.args.lid.0 c.args.level c.requires.starts.lanes.whole c.requires.starts.has_level) c.args.marks.now c.loop-hop.marks c.loop-hop.invariant.2.1 c.requires.reaches c.requires.judged (sym c.is_marked-is_judged.ensures ∙ c.if-is_judged-2.true))
    c.requires.reaches)
    c.requires.judged

pub mark-requires : goal.mark-requires
mark-requires c = omega (
  arith,
  c.loop-hop.invariant.2.1.room,
  level_low c.args.lanes.now c.args.start.switch.0 c.args.lid.0 c.args.level c.requires.starts.lanes.whole c.requires.starts.has_level,
  tail_low c.args.faults c.args.fabric.now c.args.tables.now c.args.lanes.now c.args.lid c.args.start c.args.level c.requires.starts c.loop-hop.hop-iterator c.next.new.self c.in-Some.hop c.loop-hop.before c.loop-hop.is_judged
      c.loop-hop.invariant.2.0 c.in-Some.ensures.steps c.channel.result c.channel.ensures,
)

pub loop-hop-preserved : goal.loop-hop-preserved
loop-hop-preserved c = (
  tt,
  tt,
  (
    judging_goes c.args.faults c.args.fabric.now c.args.tables.now c.args.lanes.now c.args.lid c.args.start c.args.level c.requires.starts c.loop-hop.hop-iterator c.next.new.self c.in-Some.hop c.loop-hop.before c.loop-hop.is_judged c.loop-hop.invariant.2.0 c.in-Some.ensures.steps c.channel.result c.channel.ensures c.hop_fault-fault.result c.hop_fault-fault.ensures (none_found c.hop_fault-fault.result (sym c.is_some.ensures ∙ c.if-is_some.false))
        c.is_marked-is_judged.result
        (λ marked. judged_there c.args.faults c.args.fabric.now c.args.tables.now c.args.lanes.now c.args.lid c.args.start c.args.level c.requires.starts c.loop-hop.hop-iterator c.next.new.self c.in-Some.hop c.loop-hop.before c.loop-hop.is_judged c.loop-hop.invariant.2.0 c.in-Some.ensures.steps c.channel.result c.channel.ensures (level_low c.args.lanes.now c.args.start.switch.0 c.args.lid.0 c.args.level c.requires.starts.lanes.whole c.requires.starts.has_level) c.args.marks.now c.loop-hop.marks c.loop-hop.invariant.2.1 c.requires.reaches c.requires.judged (sym c.is_marked-is_judged.ensures ∙ marked))
        c.requires.reaches,
    subst (λ ms. HaveMarked c.args.faults c.args.fabric.now c.args.tables.now c.args.lanes.now c.args.lid c.args.start c.args.level c.args.marks.now ms (suc c.loop-hop.invariant.2.0.passed)) (sym c.mark.ensures)
        (marking_goes c.args.faults c.args.fabric.now c.args.tables.now c.args.lanes.now c.args.lid c.args.start c.args.level c.requires.starts c.loop-hop.hop-iterator c.next.new.self c.in-Some.hop c.loop-hop.before c.loop-hop.is_judged c.loop-hop.invariant.2.0 c.in-Some.ensures.steps c.channel.result c.channel.ensures (level_low c.args.lanes.now c.args.start.switch.0 c.args.lid.0 c.args.level c.requires.starts.lanes.whole c.requires.starts.has_level) c.args.marks.now c.loop-hop.marks c.loop-hop.invariant.2.1),
  ),
)

pub returns-clause-fault : goal.returns-clause-fault
returns-clause-fault c =
    right_clear c.args.faults c.args.fabric.now c.args.tables.now c.args.lanes.now c.args.lid c.args.start c.args.level c.requires.starts
    (judging_ends c.args.faults c.args.fabric.now c.args.tables.now c.args.lanes.now c.args.lid c.args.start c.args.level c.loop-hop.hop-iterator c.loop-hop.before c.loop-hop.is_judged c.loop-hop.invariant.2.0 c.in-None.ensures.steps.0)

pub returns-clause-judged : goal.returns-clause-judged
returns-clause-judged c none =
    marks_judged c.args.faults c.args.fabric.now c.args.tables.now c.args.lanes.now c.args.lid c.args.start c.args.level c.requires.reaches c.args.marks.now c.loop-hop.marks c.loop-hop.invariant.2.0.passed c.loop-hop.invariant.2.1
    (judging_ends c.args.faults c.args.fabric.now c.args.tables.now c.args.lanes.now c.args.lid c.args.start c.args.level c.loop-hop.hop-iterator c.loop-hop.before c.loop-hop.is_judged c.loop-hop.invariant.2.0 c.in-None.ensures.steps.0)
    c.requires.judged
