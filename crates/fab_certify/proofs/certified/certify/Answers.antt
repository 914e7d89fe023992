use Rattle.std.proofs.Common.{◌≡◌, ap, subst}
use Rattle.std.specs.Prelude.{IfOk, MatchOption}
use Rattle.std.proofs.lemmas.Result.{IfOk-weaker}
use Rattle.fab_tables.specs.declared.plan.Plan.{Plan}
use Rattle.fab_tables.specs.Fit.{PlanFits, IsTidy}
use Rattle.fab_tables.specs.Certified.{IsCertified}
use Rattle.fab_tables.specs.Dependencies.{AreReadLanes}
use Rattle.fab_tables.specs.Verdicts.{IsRefusal}
use Rattle.fab_certify.specs.Numbered.{IsSound}
use Rattle.fab_certify.specs.declared.certified.Certified.TheVariants.{Refused, Numbers}
use Rattle.fab_certify.specs.Certificate.{IsCertificate, HasNoPair, IsPlainCertificate}
use Rattle.fab_certify.proofs.Numbered.Certificates.{certificate_by, certificate_certified, certificate_fits, certificate_tidy}
use Rattle.fab_certify.proofs.Plainly.{plain_certificate}
use Rattle.fab_certify.proofs.certified.certify.Goals as goal

pub returns-in-Some-clause-plain : goal.returns-in-Some-clause-plain
returns-in-Some-clause-plain c =
    let t = c.args.fabric.now in
    let p = c.args.plan.now in
    let l = c.in_ok-lanes.lanes in
    let read : AreReadLanes t p.lanes l = subst (λ o. AreReadLanes t o l) (ap (λ (q : Plan). q.lanes) c.in_ok-tables.ensures) c.in_ok-lanes.ensures in
    let found : MatchOption c.in_ok-fault.fault (IsSound t p.tables l) (IsRefusal t p.tables l) = subst (λ (q : Plan). MatchOption c.in_ok-fault.fault (IsSound t q.tables l) (IsRefusal t q.tables l)) c.in_ok-tables.ensures c.in_ok-fault.ensures.fault in
    let fault : IsRefusal t p.tables l c.in-Some.fault = subst (λ o. MatchOption o (IsSound t p.tables l) (IsRefusal t p.tables l)) c.in-Some.is found in
    λ none. plain_certificate t p (Refused c.in-Some.fault) none (l, read, fault)

certificate : (c : goal.After-drop-components-inside-2) → IfOk c.numbered.result (IsCertificate c.args.fabric.now c.args.plan.now)
certificate c =
    let t = c.args.fabric.now in
    let p = c.args.plan.now in
    let q = c.in_ok-tables.field-0 in
    certificate_by t p q.tables q.lanes c.in_ok-lanes.lanes c.numbered.result (ap (λ (q : Plan). q.tables) c.in_ok-tables.ensures) (ap (λ (q : Plan). q.lanes) c.in_ok-tables.ensures) c.in_ok-lanes.ensures c.numbered.ensures

pub returns-clause-plain : goal.returns-clause-plain
returns-clause-plain c =
    let t = c.args.fabric.now in
    let p = c.args.plan.now in
    IfOk-weaker c.numbered.result (IsCertificate t p) (λ answer. HasNoPair p → IsPlainCertificate t p answer) (λ answer x none. plain_certificate t p answer none x) (certificate c)

pub returns-clause-certified : goal.returns-clause-certified
returns-clause-certified c =
    let t = c.args.fabric.now in
    let p = c.args.plan.now in
    IfOk-weaker c.numbered.result (IsCertificate t p) (λ answer. (new : Plan) → answer ≡ Numbers new → IsCertified t new)
    (λ answer x new is. certificate_certified t p new (subst (IsCertificate t p) is x)) (certificate c)

pub returns-clause-fits : goal.returns-clause-fits
returns-clause-fits c =
    let t = c.args.fabric.now in
    let p = c.args.plan.now in
    IfOk-weaker c.numbered.result (IsCertificate t p) (λ answer. (new : Plan) → answer ≡ Numbers new → PlanFits t new)
    (λ answer x new is. certificate_fits t p new (subst (IsCertificate t p) is x) c.requires) (certificate c)

pub returns-clause-tidy : goal.returns-clause-tidy
returns-clause-tidy c =
    let t = c.args.fabric.now in
    let p = c.args.plan.now in
    IfOk-weaker c.numbered.result (IsCertificate t p) (λ answer. (new : Plan) → answer ≡ Numbers new → IsTidy t p → IsTidy t new)
    (λ answer x new is. certificate_tidy t p new (subst (IsCertificate t p) is x)) (certificate c)
