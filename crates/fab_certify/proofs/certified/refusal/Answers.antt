use Rattle.std.proofs.Common.{◌≡◌, ap, subst}
use Rattle.std.specs.Prelude.{Option, Some, None, Result, IfOk, MatchOption}
use Rattle.std.proofs.lemmas.Result.{IfOk-weaker}
use Rattle.fab_model.specs.Topology.{Topology}
use Rattle.fab_tables.specs.declared.plan.Plan.{Plan}
use Rattle.fab_tables.specs.declared.verdict.Verdict.{Verdict}
use Rattle.fab_tables.specs.LaneTables.{LaneTables}
use Rattle.fab_tables.specs.Dependencies.{AreReadLanes}
use Rattle.fab_tables.specs.Verdicts.{IsRefusal}
use Rattle.fab_certify.specs.Numbered.{IsSound}
use Rattle.fab_certify.specs.declared.certified.Certified.TheVariants.{Refused}
use Rattle.fab_certify.specs.Certificate.{IsCertificate, IsSoundPlan}
use Rattle.fab_certify.proofs.certified.refusal.Goals as goal

-- what is said with the lanes with which the plan is read is said of the plan
of_plan : (t : Topology) (p q : Plan) (l : LaneTables) → q ≡ p → AreReadLanes t q.lanes l → (fault : Option Verdict)
    → MatchOption fault (IsSound t q.tables l) (IsRefusal t q.tables l) → MatchOption fault (IsSoundPlan t p) (λ verdict. IsCertificate t p (Refused verdict))
of_plan t p q l same read None sound = (l, subst (λ (r : Plan). AreReadLanes t r.lanes l) same read, subst (λ (r : Plan). IsSound t r.tables l) same sound)
of_plan t p q l same read (Some fault) found = (l, subst (λ (r : Plan). AreReadLanes t r.lanes l) same read, subst (λ (r : Plan). IsRefusal t r.tables l fault) same found)

pub returns : goal.returns
returns c =
    let t = c.args.fabric.now in
    let p = c.args.plan.now in
    let q = c.in_ok-tables.field-0 in
    let l = c.in_ok-lanes.lanes in
    IfOk-weaker c.first_fault.result (λ fault. MatchOption fault (IsSound t q.tables l) (IsRefusal t q.tables l)) (λ fault. MatchOption fault (IsSoundPlan t p) (λ verdict. IsCertificate t p (Refused verdict)))
    (λ fault found. of_plan t p q l c.in_ok-tables.ensures c.in_ok-lanes.ensures fault found) c.first_fault.ensures.fault
