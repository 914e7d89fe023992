use Rattle.std.proofs.Common.{◌≡◌, refl, sym, ◌∙◌, ap, arith}
use Rattle.std.proofs.lemmas.Bool.{eqb-true, eqb-false}
use Rattle.fab_tables.specs.declared.end.End.TheVariants.{Delivered as delivery}
use Rattle.std.proofs.lemmas.Option.{same_Some}
use Rattle.fab_tables.specs.Ahead.{end_told}
use Rattle.fab_tables.specs.Route.{route as path}
use Rattle.fab_tables.proofs.Paths.Ways.{stepped, goes_on, channel_low, tip_low, to_tip, delivered_by}
use Rattle.fab_tables.proofs.Paths.Walked.{walking_on, walking_done, walks_in_loop, walk_joins}
use Rattle.fab_tables.proofs.reaching.end_of_route.Goals as goal

pub tip-tip-requires : goal.tip-tip-requires
tip-tip-requires c =
    channel_low c.args.fabric.now c.args.tables.now c.args.lid.0 c.requires.toward c.args.from.0 c.loop-channel.route c.next.new.self c.in-Some.channel c.loop-channel.invariant.2.0 c.in-Some.ensures.steps

pub bounds : goal.bounds
bounds c = omega (
  arith,
  c.loop-channel.invariant.2.1.room,
  tip_low c.args.fabric.now c.args.tables.now c.args.lid.0 c.requires.toward c.args.from.0 c.loop-channel.route c.next.new.self c.in-Some.channel c.loop-channel.invariant.2.0 c.in-Some.ensures.steps c.tip-tip.result c.tip-tip.ensures,
)

pub returns-then-eq-clause-end : goal.returns-then-eq-clause-end
returns-then-eq-clause-end c =
    let t = c.args.fabric.now in
    let e = c.args.tables.now in
    let lid = c.args.lid.0 in
    let from = c.args.from.0 in
    let old = c.loop-channel.route in
    let new = c.next.new.self in
    let way = c.loop-channel.invariant.2.0 in
    let steps = c.in-Some.ensures.steps in
    sym (walks_in_loop t e lid from c.requires.toward way.passed c.loop-channel.delivered c.loop-channel.invariant.2.1 c.in-Some.channel.0 c.tip-tip.result.0 (stepped t e lid c.requires.toward from old new c.in-Some.channel way steps).0
    (to_tip t e lid c.requires.toward from old new c.in-Some.channel way steps c.tip-tip.result c.tip-tip.ensures) c.in-Some-delivered.first c.in-Some-delivered.is
    (eqb-true c.in-Some-delivered.first.0 from (sym c.eq.ensures ∙ c.if-eq.true)) c.requires.switch)

pub returns-else-eq-clause-end : goal.returns-else-eq-clause-end
returns-else-eq-clause-end c =
    let t = c.args.fabric.now in
    let e = c.args.tables.now in
    let lid = c.args.lid.0 in
    let from = c.args.from.0 in
    let old = c.loop-channel.route in
    let new = c.next.new.self in
    let way = c.loop-channel.invariant.2.0 in
    let steps = c.in-Some.ensures.steps in
    sym (delivered_by t e lid c.requires.toward from old new c.in-Some.channel way steps c.tip-tip.result c.tip-tip.ensures c.requires.switch
    (walk_joins t e lid from c.requires.toward way.passed c.loop-channel.delivered c.loop-channel.invariant.2.1 c.in-Some.channel.0 c.tip-tip.result.0 (stepped t e lid c.requires.toward from old new c.in-Some.channel way steps).0
    (to_tip t e lid c.requires.toward from old new c.in-Some.channel way steps c.tip-tip.result c.tip-tip.ensures) c.in-Some-delivered.first c.in-Some-delivered.is
    (eqb-false c.in-Some-delivered.first.0 from (sym c.eq.ensures ∙ c.if-eq.false))))

pub returns-else-eq-clause-marks : goal.returns-else-eq-clause-marks
returns-else-eq-clause-marks c is =
    walking_done c.args.fabric.now c.args.tables.now c.args.lid.0 c.args.from.0 c.requires.toward c.loop-channel.invariant.2.0.passed c.loop-channel.delivered c.loop-channel.invariant.2.1 (sym (returns-else-eq-clause-end c))

pub bounds-delivered-tip-in-Some : goal.bounds-delivered-tip-in-Some
bounds-delivered-tip-in-Some c = omega (
  arith,
  c.loop-channel.invariant.2.1.room,
  tip_low c.args.fabric.now c.args.tables.now c.args.lid.0 c.requires.toward c.args.from.0 c.loop-channel.route c.next.new.self c.in-Some.channel c.loop-channel.invariant.2.0 c.in-Some.ensures.steps c.tip-tip.result c.tip-tip.ensures,
)

pub loop-channel-preserved : goal.loop-channel-preserved
loop-channel-preserved c =
    let t = c.args.fabric.now in
    let e = c.args.tables.now in
    let lid = c.args.lid.0 in
    let from = c.args.from.0 in
    let old = c.loop-channel.route in
    let new = c.next.new.self in
    let way = c.loop-channel.invariant.2.0 in
    let steps = c.in-Some.ensures.steps in (
      tt,
      tt,
      (
        goes_on t e lid c.requires.toward from old new c.in-Some.channel way steps,
        walking_on t e lid from c.requires.toward way.passed c.loop-channel.delivered c.loop-channel.invariant.2.1 c.in-Some.channel.0 c.tip-tip.result.0
            (stepped t e lid c.requires.toward from old new c.in-Some.channel way steps).0
            (to_tip t e lid c.requires.toward from old new c.in-Some.channel way steps c.tip-tip.result c.tip-tip.ensures) c.args.from refl
            (tip_low t e lid c.requires.toward from old new c.in-Some.channel way steps c.tip-tip.result c.tip-tip.ensures),
      ),
    )

pub returns-clause-marks : goal.returns-clause-marks
returns-clause-marks c is =
    let way = c.loop-channel.invariant.2.0 in
    let ended : (path c.args.fabric.now c.args.tables.now c.args.from.0 c.args.lid.0).end ≡ delivery
    = sym way.end ∙ same_Some c.loop-channel.route.end c.unwrap.result (sym (ap end_told c.in_default.ensures.steps.1) ∙ sym c.end.ensures ∙ c.unwrap.ensures) ∙ is in
    walking_done c.args.fabric.now c.args.tables.now c.args.lid.0 c.args.from.0 c.requires.toward way.passed c.loop-channel.delivered c.loop-channel.invariant.2.1 ended
