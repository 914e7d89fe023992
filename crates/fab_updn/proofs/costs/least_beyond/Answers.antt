use Rattle.std.proofs.Common.{◌<◌, ◌≤◌, subst, arith}
use Rattle.fab_updn.proofs.Beyond.{none_so_far, least_of_all, leaves_here, tip_within, no_count, first_count, another_count}
use Rattle.fab_updn.proofs.costs.least_beyond.Goals as goal
use Rattle.fab_updn.proofs.costs.least_beyond.Goals.{in-Some+in-None, in-Some+in-Some-least, in_default}

pub loop-number-init : goal.loop-number-init
loop-number-init c = rw c.leaves-first.ensures.first (none_so_far c.args.fabric.now c.requires.fabric.rows c.args.ranks.now c.args.costs.now c.args.direction c.args.s.0)

pub count_beyond-requires-clause-tail : goal.count_beyond-requires-clause-tail
count_beyond-requires-clause-tail c =
    let from = subst (λ n. n ≤ c.loop-number.number) c.leaves-first.ensures.first c.loop-number.auto.number in
    let past = subst (λ n. c.loop-number.number < n) c.leaves-first.ensures.past c.loop-number-test.true in
    omega (arith, leaves_here c.args.fabric.now c.requires.fabric.rows c.args.ranks.now c.args.costs.now c.args.direction c.args.s.0 c.loop-number.number c.channel-channel.result c.channel-channel.ensures from past)

pub count_beyond-requires-clause-tip : goal.count_beyond-requires-clause-tip
count_beyond-requires-clause-tip c =
    let from = subst (λ n. n ≤ c.loop-number.number) c.leaves-first.ensures.first c.loop-number.auto.number in
    let past = subst (λ n. c.loop-number.number < n) c.leaves-first.ensures.past c.loop-number-test.true in
    omega (arith, tip_within c.args.fabric.now c.requires.fabric.rows c.args.ranks.now c.args.costs.now c.args.direction c.args.s.0 c.loop-number.number c.channel-channel.result c.channel-channel.ensures from past)

pub loop-number-preserved : goal.loop-number-preserved
loop-number-preserved c =
    let t = c.args.fabric.now in
    let good = c.requires.fabric.rows in
    let ranks = c.args.ranks.now in
    let costs = c.args.costs.now in
    let direction = c.args.direction in
    let s = c.args.s.0 in
    let row = c.channel-channel.result in
    let number = c.loop-number.number in
    let from = subst (λ n. n ≤ number) c.leaves-first.ensures.first c.loop-number.auto.number in
    let past = subst (λ n. number < n) c.leaves-first.ensures.past c.loop-number-test.true in
    elim c.match-count_beyond.branch [
      | in-Some+in-None w ↦ rw w.least-is (first_count t good ranks costs direction s number row c.channel-channel.ensures from past c.loop-number.least w.in-Some.count c.loop-number.invariant w.in-None.is w.in-Some.ensures)
      | in-Some+in-Some-least w ↦
          rw w.least-is (another_count t good ranks costs direction s number row c.channel-channel.ensures from past c.loop-number.least w.in-Some-least.kept w.in-Some.count w.min.result c.loop-number.invariant w.in-Some-least.is w.in-Some.ensures
          (grind (arith, w.min.ensures)) (omega (arith, w.min.ensures)) (omega (arith, w.min.ensures)))
      | in_default w ↦ rw w.least-is (no_count t good ranks costs direction s number row c.channel-channel.ensures from past c.loop-number.least c.loop-number.invariant w.in_default.ensures)
    ]

pub returns : goal.returns
returns c = least_of_all c.args.fabric.now c.requires.fabric.rows c.args.ranks.now c.args.costs.now c.args.direction c.args.s.0 c.loop-number.number c.loop-number.least (omega (arith, c.leaves-first.ensures.past)) c.loop-number.invariant
