use Rattle.std.proofs.Common.{subst, sym}
use Rattle.std.specs.Prelude.{MatchOption}
use Rattle.fab_tables.specs.Starts.{AreStartsFor}
use Rattle.fab_replies.specs.declared.replied.Replied.TheVariants.{Refused}
use Rattle.fab_replies.specs.Answers.{IsAnswerTo}
use Rattle.fab_certify.specs.Certificate.{IsSoundPlan}
use Rattle.fab_replies.specs.Jointly.{IsJoint}
use Rattle.fab_replies.specs.Read.{Read}
use Rattle.fab_replies.proofs.Covering.{covered_by, covered_answer}
use Rattle.fab_replies.proofs.RingMessages.{deadlocked_by, deadlocked_answer}
use Rattle.fab_replies.proofs.ReadPlans.{lanes_fit, sound_there, answered_by, fault_to}
use Rattle.fab_replies.proofs.certifying.replies.Goals as goal

pub returns-in-Some : goal.returns-in-Some
returns-in-Some c =
    let answer : IsAnswerTo c.args.fabric.now c.args.plan.now (Refused c.in-Some.fault) =
    subst (λ o. MatchOption o (IsSoundPlan c.args.fabric.now c.args.plan.now) (λ verdict. IsAnswerTo c.args.fabric.now c.args.plan.now (Refused verdict))) c.in-Some.is c.in_ok-fault.ensures in
    record { answer = answer; covered = covered_by c.args.fabric.now c.args.plan.now c.requires (Refused c.in-Some.fault) answer; deadlocked = deadlocked_by c.args.fabric.now c.args.plan.now (Refused c.in-Some.fault) answer }

pub new-reading-requires-clause-lanes : goal.new-reading-requires-clause-lanes
new-reading-requires-clause-lanes c = lanes_fit c.args.fabric.now c.args.plan.now c.in_ok-tables.field-0 c.in_ok-tables.ensures c.in_ok-lanes.lanes c.in_ok-lanes.ensures c.requires

pub collect-requires-clause-sound : goal.collect-requires-clause-sound
collect-requires-clause-sound c =
    let sound : IsSoundPlan c.args.fabric.now c.args.plan.now =
    subst (λ o. MatchOption o (IsSoundPlan c.args.fabric.now c.args.plan.now) (λ verdict. IsAnswerTo c.args.fabric.now c.args.plan.now (Refused verdict))) c.in_default.is c.in_ok-fault.ensures in
    sound_there c.args.fabric.now c.args.plan.now c.in_ok-tables.field-0 c.in_ok-tables.ensures c.in_ok-lanes.lanes c.in_ok-lanes.ensures c.new-reading.result c.new-reading.ensures sound

pub collect-requires-clause-starts : goal.collect-requires-clause-starts
collect-requires-clause-starts c =
    subst (λ (r : Read). AreStartsFor r.fabric r.lanes c.standing.result.now) (sym c.new-reading.ensures) (c.standing.ensures c.args.fabric.now c.in_ok-starts.ensures)

pub numbered-requires-clause-sound : goal.numbered-requires-clause-sound
numbered-requires-clause-sound c =
    let sound : IsSoundPlan c.args.fabric.now c.args.plan.now =
    subst (λ o. MatchOption o (IsSoundPlan c.args.fabric.now c.args.plan.now) (λ verdict. IsAnswerTo c.args.fabric.now c.args.plan.now (Refused verdict))) c.in_default.is c.in_ok-fault.ensures in
    sound_there c.args.fabric.now c.args.plan.now c.in_ok-tables.field-0 c.in_ok-tables.ensures c.in_ok-lanes.lanes c.in_ok-lanes.ensures c.new-reading.result c.new-reading.ensures sound

pub numbered-requires-clause-good : goal.numbered-requires-clause-good
numbered-requires-clause-good c =
    let joint = subst (IsJoint c.new-reading.result.fabric c.new-reading.result.entries c.new-reading.result.lanes) c.in-Dependencies.is c.in_ok-dependencies.ensures in
    joint.0

pub numbered-requires-clause-are : goal.numbered-requires-clause-are
numbered-requires-clause-are c =
    let joint = subst (IsJoint c.new-reading.result.fabric c.new-reading.result.entries c.new-reading.result.lanes) c.in-Dependencies.is c.in_ok-dependencies.ensures in
    joint.1

pub returns-in-Dependencies : goal.returns-in-Dependencies
returns-in-Dependencies c =
    let answer = answered_by c.args.fabric.now c.args.plan.now c.in_ok-tables.field-0 c.in_ok-tables.ensures c.in_ok-lanes.lanes c.in_ok-lanes.ensures c.new-reading.result c.new-reading.ensures c.numbered.result c.numbered.ensures in
    record { answer = answer; covered = covered_answer c.args.fabric.now c.args.plan.now c.requires c.numbered.result answer; deadlocked = deadlocked_answer c.args.fabric.now c.args.plan.now c.numbered.result answer }

pub returns : goal.returns
returns c =
    let sound : IsSoundPlan c.args.fabric.now c.args.plan.now =
    subst (λ o. MatchOption o (IsSoundPlan c.args.fabric.now c.args.plan.now) (λ verdict. IsAnswerTo c.args.fabric.now c.args.plan.now (Refused verdict))) c.in_default.is c.in_ok-fault.ensures in
    let answer : IsAnswerTo c.args.fabric.now c.args.plan.now c.in-Fault.fault = fault_to c.args.fabric.now c.args.plan.now c.in_ok-tables.field-0 c.in_ok-tables.ensures c.in_ok-lanes.lanes c.in_ok-lanes.ensures c.new-reading.result c.new-reading.ensures c.in-Fault.fault sound (subst (IsJoint c.new-reading.result.fabric c.new-reading.result.entries c.new-reading.result.lanes) c.in-Fault.is c.in_ok-dependencies.ensures) in
    record { answer = answer; covered = covered_by c.args.fabric.now c.args.plan.now c.requires c.in-Fault.fault answer; deadlocked = deadlocked_by c.args.fabric.now c.args.plan.now c.in-Fault.fault answer }
