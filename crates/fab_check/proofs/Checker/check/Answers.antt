use Rattle.std.proofs.Common.{Some, None, Option, sym, subst}
use Rattle.fab_model.specs.Topology.{Topology}
use Rattle.fab_tables.specs.declared.verdict.Verdict.{Verdict}
use Rattle.fab_tables.specs.declared.verdict.Verdict.TheVariants.{Routes}
use Rattle.fab_tables.specs.LaneTables.{LaneTables}
use Rattle.fab_tables.specs.Verdicts.{IsFaultAt, IsVerdict}
use Rattle.fab_tables.specs.First.{FindsFirst}
use Rattle.fab_tables.proofs.Faults.Reached.{all_reached}
use Rattle.fab_check.proofs.Verdict.{route_is_verdict, routes_is_verdict, lanes_is_verdict, routes_exactly, lanes_exactly, lanes_free}
use Rattle.fab_check.proofs.Checker.check.Goals as goal

pub first_lane_fault-requires-clause-reaches : goal.first_lane_fault-requires-clause-reaches
first_lane_fault-requires-clause-reaches c =
    all_reached c.self.inside.fabric.now c.args.plan.now.tables
    (subst (λ (o : Option Verdict). FindsFirst (IsFaultAt c.self.inside.fabric.now c.args.plan.now.tables None) o) c.in-None-Some.is-0 c.first_unreached-unreached.ensures)

-- a route that isn't delivered
pub returns-in-Some-default-clause-verdict : goal.returns-in-Some-default-clause-verdict
returns-in-Some-default-clause-verdict c =
    let t = c.self.inside.fabric.now in
    let e = c.args.plan.now.tables in
    let lanes = c.args.plan.now.lanes in
    let fault = c.in-Some-default.fault in
    subst (λ (x : Topology). IsVerdict x e lanes fault) c.self.view_is
    (route_is_verdict t e lanes fault (subst (λ (o : Option Verdict). FindsFirst (IsFaultAt t e None) o) c.in-Some-default.is-0 c.first_unreached-unreached.ensures))

-- no lanes
pub returns-in-None-None-clause-verdict : goal.returns-in-None-None-clause-verdict
returns-in-None-None-clause-verdict c =
    let t = c.self.inside.fabric.now in
    let e = c.args.plan.now.tables in
    subst (λ (x : Topology). IsVerdict x e c.args.plan.now.lanes Routes) c.self.view_is
    (subst (λ (o : Option LaneTables). IsVerdict t e o Routes) (sym c.in-None-None.is-1)
    (routes_is_verdict t e (subst (λ (o : Option Verdict). FindsFirst (IsFaultAt t e None) o) c.in-None-None.is-0 c.first_unreached-unreached.ensures)))

pub returns-in-None-None-clause-reaches : goal.returns-in-None-None-clause-reaches
returns-in-None-None-clause-reaches c = routes_exactly c.args.self.now c.args.plan.now Routes (returns-in-None-None-clause-verdict c)

-- lanes
pub returns-in-None-Some-clause-verdict : goal.returns-in-None-Some-clause-verdict
returns-in-None-Some-clause-verdict c =
    let t = c.self.inside.fabric.now in
    let e = c.args.plan.now.tables in
    let routes : FindsFirst (IsFaultAt t e None) None = subst (λ (o : Option Verdict). FindsFirst (IsFaultAt t e None) o) c.in-None-Some.is-0 c.first_unreached-unreached.ensures in
    subst (λ (x : Topology). IsVerdict x e c.args.plan.now.lanes c.unwrap_or.result) c.self.view_is
    (subst (λ (o : Option LaneTables). IsVerdict t e o c.unwrap_or.result) (sym c.in-None-Some.is-1)
    (subst (λ (v : Verdict). IsVerdict t e (Some c.in-None-Some.lanes) v) (sym c.unwrap_or.ensures)
    (lanes_is_verdict t e c.in-None-Some.lanes routes c.first_lane_fault.result c.first_lane_fault.ensures.fault)))

pub returns-in-None-Some-clause-certified : goal.returns-in-None-Some-clause-certified
returns-in-None-Some-clause-certified c = lanes_exactly c.args.self.now c.args.plan.now c.unwrap_or.result (returns-in-None-Some-clause-verdict c)

pub returns-in-None-Some-clause-free : goal.returns-in-None-Some-clause-free
returns-in-None-Some-clause-free c = lanes_free c.args.self.now c.args.plan.now c.unwrap_or.result (returns-in-None-Some-clause-verdict c)
