use Rattle.std.proofs.Common.{◌∙◌, ◌∷◌, [], List, ℕ}
use Rattle.fab_model.specs.declared.rows.Cable.{Cable}
use Rattle.fab_model.specs.Topology.{Topology}
use Rattle.fab_tables.specs.declared.plan.Plan.{Plan}
use Rattle.fab_top.specs.Answer.{Answer}
use Rattle.fab_top.specs.Answers.{IsRepairAnswer}
use Rattle.fab_top.specs.Files.{fabric_in, plan_in, failed_in}
use Rattle.fab_top.specs.Headline.{RepairsTruly}
use Rattle.fab_top.specs.Seen.{Seen, WithPlan, WithoutFailed}
use Rattle.fab_top.proofs.Running.{word_is}
use Rattle.fab_top.proofs.Steps.AfterList.{OfList, found_likewise}
use Rattle.fab_top.proofs.Steps.Concluding.{goes_on, stops, found}
use Rattle.fab_top.proofs.Steps.Taking.{place_within}
use Rattle.fab_top.proofs.commands.failed_cables.repair.Goals as goal

-- what is said of a plan and the fabric without the cables is said of the fabric, and then of the plan
abbrev OfFabric : ℕ → ℕ → (Plan → Topology → Answer → Type 0) → Topology → Seen → Answer → Type 0
OfFabric plan failed rest t w answer = WithPlan w t plan (λ p. WithoutFailed w t failed (rest p)) answer

abbrev OfPlan : ℕ → (Plan → Topology → Answer → Type 0) → Topology → Plan → Seen → Answer → Type 0
OfPlan failed rest t p w answer = WithoutFailed w t failed (rest p) answer

abbrev A : ℕ → Plan → Topology → Answer → Type 0
A lanes p = IsRepairAnswer lanes p

abbrev H : ℕ → Plan → Topology → Answer → Type 0
H lanes p = RepairsTruly lanes p

pub returns-in_err-fabric : goal.returns-in_err-fabric
returns-in_err-fabric g c =
    stops c.args.fabric fabric_in (c.args.plan ∷ c.args.failed ∷ []) (OfFabric c.args.plan c.args.failed (A c.args.lanes)) (OfFabric c.args.plan c.args.failed (H c.args.lanes)) _ _ _ _ _ _
    c.in_err-fabric.ensures.taken c.from_residual.ensures.1

pub returns-in_err-plan : goal.returns-in_err-plan
returns-in_err-plan g c =
    let t : Topology = c.in_ok-fabric.fabric in
    goes_on c.args.fabric fabric_in (c.args.plan ∷ c.args.failed ∷ []) (OfFabric c.args.plan c.args.failed (A c.args.lanes)) (OfFabric c.args.plan c.args.failed (H c.args.lanes)) _ _ _ _ _ _ t _
    c.in_ok-fabric.ensures.taken c.in_ok-fabric.ensures.told
    (stops c.args.plan (plan_in t) (c.args.failed ∷ []) (OfPlan c.args.failed (A c.args.lanes) t) (OfPlan c.args.failed (H c.args.lanes) t) _ _ _ _ _ _ c.in_err-plan.ensures.taken c.from_residual-in_err-plan.ensures.1)

pub returns-in_err-cables : goal.returns-in_err-cables
returns-in_err-cables g c =
    let t : Topology = c.in_ok-fabric.fabric in
    let p : Plan = c.in_ok-plan.plan in
    goes_on c.args.fabric fabric_in (c.args.plan ∷ c.args.failed ∷ []) (OfFabric c.args.plan c.args.failed (A c.args.lanes)) (OfFabric c.args.plan c.args.failed (H c.args.lanes)) _ _ _ _ _ _ t _
    c.in_ok-fabric.ensures.taken c.in_ok-fabric.ensures.told
    (goes_on c.args.plan (plan_in t) (c.args.failed ∷ []) (OfPlan c.args.failed (A c.args.lanes) t) (OfPlan c.args.failed (H c.args.lanes) t) _ _ _ _ _ _ p _ c.in_ok-plan.ensures.taken c.in_ok-plan.ensures.told
    (stops c.args.failed failed_in [] (OfList c.args.failed (A c.args.lanes p) t) (OfList c.args.failed (H c.args.lanes p) t) _ _ _ _ _ _ c.in_err-cables.ensures.taken c.from_residual-in_err-cables.ensures.1))

pub returns : goal.returns
returns g c =
    let t : Topology = c.in_ok-fabric.fabric in
    let p : Plan = c.in_ok-plan.plan in
    let cables : List Cable = c.in_ok-cables.cables.items in
    goes_on c.args.fabric fabric_in (c.args.plan ∷ c.args.failed ∷ []) (OfFabric c.args.plan c.args.failed (A c.args.lanes)) (OfFabric c.args.plan c.args.failed (H c.args.lanes)) _ _ _ _ _ _ t _
    c.in_ok-fabric.ensures.taken c.in_ok-fabric.ensures.told
    (goes_on c.args.plan (plan_in t) (c.args.failed ∷ []) (OfPlan c.args.failed (A c.args.lanes) t) (OfPlan c.args.failed (H c.args.lanes) t) _ _ _ _ _ _ p _ c.in_ok-plan.ensures.taken c.in_ok-plan.ensures.told
    (goes_on c.args.failed failed_in [] (OfList c.args.failed (A c.args.lanes p) t) (OfList c.args.failed (H c.args.lanes p) t) _ _ _ _ _ _ cables _ c.in_ok-cables.ensures.taken c.in_ok-cables.ensures.told
    (found (OfList c.args.failed (A c.args.lanes p) t cables) (OfList c.args.failed (H c.args.lanes p) t cables) _ _ _ _
    (found_likewise (A c.args.lanes p) (H c.args.lanes p) _ _ t _ cables c.repaired_plan.result
    (c.as_str.ensures.value ∙ word_is _ _ _ (place_within c.args.words.now c.args.failed c.requires.failed) c.index-words-failed.is) c.deref.ensures.value c.repaired_plan.ensures))))
