use Rattle.std.proofs.Common.{subst}
use Rattle.std.specs.Prelude.{MatchOption}
use Rattle.fab_certify.specs.declared.certified.Certified.TheVariants as certified
use Rattle.fab_certify.specs.Certificate.{IsCertificate, IsSoundPlan}
use Rattle.fab_drain.proofs.filling.fill.Goals as goal

pub filled-requires-clause-admitted : goal.filled-requires-clause-admitted
filled-requires-clause-admitted c =
    subst (λ o. MatchOption o (IsSoundPlan c.args.fabric.now c.args.plan.now) (λ verdict. IsCertificate c.args.fabric.now c.args.plan.now (certified.Refused verdict))) c.in_default.is c.in_ok-fault.ensures

pub returns-in-Some : goal.returns-in-Some
returns-in-Some c =
    subst (λ o. MatchOption o (IsSoundPlan c.args.fabric.now c.args.plan.now) (λ verdict. IsCertificate c.args.fabric.now c.args.plan.now (certified.Refused verdict))) c.in-Some.is c.in_ok-fault.ensures

pub returns : goal.returns
returns c =
    let sound : IsSoundPlan c.args.fabric.now c.args.plan.now =
    subst (λ o. MatchOption o (IsSoundPlan c.args.fabric.now c.args.plan.now) (λ verdict. IsCertificate c.args.fabric.now c.args.plan.now (certified.Refused verdict))) c.in_default.is c.in_ok-fault.ensures in
    (sound, c.in_ok-state.ensures)
