use Rattle.std.proofs.Common.{◌∙◌, Bool, length, ap, subst, arith}
use Rattle.fab_depgraph.specs.declared.dep.Dep.{Dep}
use Rattle.fab_lash.specs.Placing.{IsTried}
use Rattle.fab_lash.proofs.Places.{placed, still_same, one_more_refused}
use Rattle.fab_lash.proofs.placing.place.Goals as goal

pub try_lane-requires-clause-room : goal.try_lane-requires-clause-room
try_lane-requires-clause-room g c lane = omega (arith, c.requires.room lane, ap (length {A = Dep}) (c.loop-lane.invariant.same lane))

pub returns-then-branch : goal.returns-then-branch
returns-then-branch g c =
    let was = c.loop-lane.invariant in
    let P : Bool → Type 0 = λ took. IsTried c.loop-lane.lane c.loop-lane.used c.try_lane.new.used c.args.dependencies.now took in
    placed c.args.used.now c.loop-lane.used c.try_lane.new.used c.args.dependencies.now c.loop-lane.lane was.channels was.same was.refused (subst P c.if-branch.true c.in_ok-try_lane.ensures)
    (omega (arith, c.loop-lane-test.true, c.loop-lane.auto.lane-end, c.lanes-lane-end.ensures))

pub loop-lane-preserved : goal.loop-lane-preserved
loop-lane-preserved g c =
    let was = c.loop-lane.invariant in
    let P : Bool → Type 0 = λ took. IsTried c.loop-lane.lane c.loop-lane.used c.try_lane.new.used c.args.dependencies.now took in
    let tried = subst P c.if-branch.false c.in_ok-try_lane.ensures in
    record {
      channels = tried.channels ∙ was.channels;
      same = still_same c.args.used.now c.loop-lane.used c.try_lane.new.used c.args.dependencies.now c.loop-lane.lane was.channels was.same was.refused tried;
      refused = one_more_refused c.args.used.now c.loop-lane.used c.try_lane.new.used c.args.dependencies.now c.loop-lane.lane was.channels was.same was.refused tried;
    }
