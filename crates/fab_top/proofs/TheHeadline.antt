-- The headline, from what each command promises.
use Rattle.std.proofs.Common.{◌≡◌, ℕ, inl, inr, List, Option, Some, Result, Ok, refl, ◌∙◌, ap, subst}
use Rattle.std.specs.Prelude.{MatchOption}
use Rattle.fab_model.specs.declared.rows.Cable.{Cable}
use Rattle.fab_model.specs.Topology.{Topology}
use Rattle.fab_model.specs.WellFormed.{IsFabric}
use Rattle.fab_tables.specs.declared.plan.Plan.{Plan}
use Rattle.fab_tables.specs.Certified.{IsCertified}
use Rattle.fab_top.specs.declared.command.Command.{Command}
use Rattle.fab_top.specs.declared.command.Command.TheVariants.{Check, Route, Repair}
use Rattle.fab_top.specs.declared.command.Engine.{Engine}
use Rattle.fab_top.specs.declared.command.Engine.TheVariants.{Nue}
use Rattle.fab_top.specs.Answer.{Answer, done}
use Rattle.fab_top.specs.Answers.{IsAnswer, IsAnswerTo, IsCheckAnswer, IsRouteAnswer, IsRepairAnswer, verdict_answer, usage}
use Rattle.fab_top.specs.Files.{fabric_in, plan_in, failed_in, without_failed}
use Rattle.fab_top.specs.Headline.{Headline, FollowsWell, RisesAlongRoutes, ChecksTruly, IsSafe, SaysFabric, SaysPlan, SaysLeft, AsksCheck, AsksRoute, AsksRepair, AsksLanes, AsksNue, IsAccepted, IsCertifiedAgain, RoutesTruly, RepairsTruly}
use Rattle.fab_top.specs.Seen.{Seen, Content, After, AfterFile, WithFabric, WithPlan, WithBoth, WithoutFailed, word_at}
use Rattle.fab_top.specs.Texts.{ok_lanes}
use Rattle.fab_top.specs.Words.{command_of}
use Rattle.fab_top.proofs.Judging.{true_verdict, verdict_keeps}
use Rattle.fab_top.proofs.Laying.EngineAnswers.{route_keeps}
use Rattle.fab_top.proofs.ReadFits.{fabric_fits, left_fits}
use Rattle.fab_top.proofs.Repairing.{repair_keeps}

-- ---- what is answered after files that say something

-- what answers the words answers the command that they spell
to_command : (w : Seen) (command : Command) (a : Answer) → command_of w.words ≡ Some command → IsAnswer w a → IsAnswerTo w command a
to_command w command a spelled is = let P : Option Command → Type 0 = λ c. MatchOption c (a ≡ usage) (λ x. IsAnswerTo w x a) in subst P spelled is

after_said : {X : Type 0} (name : List ℕ) (content : Content) (bytes : List ℕ) (read : List ℕ → List ℕ → Result X (List ℕ)) (x : X) (rest : X → Answer → Type 0) (a : Answer) →
    content ≡ Content.Holds bytes → read name bytes ≡ Ok x → AfterFile name content read rest a → rest x a
after_said {X} name content bytes read x rest a holds says is =
    let P : Content → Type 0 = λ c. AfterFile name c read rest a in
    let Q : Result X (List ℕ) → Type 0 = λ r. After r rest a in
    subst Q says (subst P holds is)

after_fabric : (w : Seen) (place : ℕ) (t : Topology) (rest : Topology → Answer → Type 0) (a : Answer) → SaysFabric w place t → WithFabric w place rest a → rest t a
after_fabric w place t rest a says is = after_said (word_at w.words place) (w.content place) says.0 fabric_in t rest a says.1 says.2 is

after_plan : (w : Seen) (t : Topology) (place : ℕ) (p : Plan) (rest : Plan → Answer → Type 0) (a : Answer) → SaysPlan w t place p → WithPlan w t place rest a → rest p a
after_plan w t place p rest a says is = after_said (word_at w.words place) (w.content place) says.0 (plan_in t) p rest a says.1 says.2 is

after_left : (w : Seen) (t : Topology) (place : ℕ) (left : Topology) (rest : Topology → Answer → Type 0) (a : Answer) → SaysLeft w t place left → WithoutFailed w t place rest a → rest left a
after_left w t place left rest a says is =
    let name : List ℕ = word_at w.words place in
    let P : Result Topology (List ℕ) → Type 0 = λ r. After r rest a in
    subst P says.4 (after_said name (w.content place) says.0 failed_in says.1 (λ (cables : List Cable). After (without_failed name t cables) rest) a says.2 says.3 is)

said_fabric : (w : Seen) (place : ℕ) (t : Topology) → SaysFabric w place t → IsFabric t
said_fabric w place t says = fabric_fits (word_at w.words place) says.0 t says.2

-- ---- check

checked : (w : Seen) (t : Topology) (p : Plan) (a : Answer) → AsksCheck w t p → IsAnswer w a → a ≡ done ok_lanes → FollowsWell t p.tables × RisesAlongRoutes t p
checked w t p a asks is told =
    let answer : WithBoth w asks.0 asks.1 IsCheckAnswer a = to_command w (Check asks.0 asks.1) a asks.2 is in
    let of_plan : IsCheckAnswer t p a = after_plan w t asks.1 p (IsCheckAnswer t) a asks.4 (after_fabric w asks.0 t (λ u. WithPlan w u asks.1 (IsCheckAnswer u)) a asks.3 answer) in
    let keeps : ChecksTruly t p a = verdict_keeps t p of_plan.0 a (true_verdict t p of_plan.0 (said_fabric w asks.0 t asks.3) of_plan.1) of_plan.2 in
    let out : a.out ≡ ok_lanes = ap (λ (b : Answer). b.out) told in
    let safe : IsSafe t p = keeps.safe out in
    let certified : IsCertified t p = keeps.certified.0 out in
    (safe.follows, (certified.0, certified.1, certified.3))

accepted : (t : Topology) (text : List ℕ) → IsCertifiedAgain t text → IsAccepted t text
accepted t text again w fabric plan a spelled says holds is =
    let answer : WithBoth w fabric plan IsCheckAnswer a = to_command w (Check fabric plan) a spelled is in
    let of_plan : IsCheckAnswer t again.0 a =
    after_plan w t plan again.0 (IsCheckAnswer t) a (text, holds, again.1 (word_at w.words plan)) (after_fabric w fabric t (λ u. WithPlan w u plan (IsCheckAnswer u)) a says answer) in
    of_plan.2 ∙ ap (verdict_answer t) ((true_verdict t again.0 of_plan.0 (said_fabric w fabric t says) of_plan.1).certified.1 again.2)

-- ---- engines and repairs

routed : (w : Seen) (engine : Engine) (t : Topology) (a : Answer) → AsksRoute w engine t → IsAnswer w a → RoutesTruly engine t a
routed w engine t a asks is =
    route_keeps engine t a (said_fabric w asks.0 t asks.2) (after_fabric w asks.0 t (IsRouteAnswer engine) a asks.2 (to_command w (Route asks.0 engine) a asks.1 is))

-- with the lane count and the old plan that were named
mended : (w : Seen) (left : Topology) (a : Answer) → (asks : AsksRepair w left) → IsAnswer w a → RepairsTruly asks.3 asks.5 left a
mended w left a asks is =
    let t : Topology = asks.4 in
    let IsOf : Topology → Plan → Answer → Type 0 = λ u q. WithoutFailed w u asks.2 (IsRepairAnswer asks.3 q) in
    let answer : WithBoth w asks.0 asks.1 IsOf a = to_command w (Repair asks.0 asks.1 asks.2 asks.3) a asks.6 is in
    let of_plan : IsOf t asks.5 a = after_plan w t asks.1 asks.5 (IsOf t) a asks.8 (after_fabric w asks.0 t (λ u. WithPlan w u asks.1 (IsOf u)) a asks.7 answer) in
    repair_keeps asks.3 asks.5 left a (left_fits (word_at w.words asks.2) t left asks.9.1 (said_fabric w asks.0 t asks.7) asks.9.4) (after_left w t asks.2 left (IsRepairAnswer asks.3 asks.5) a asks.9 of_plan)

written : (w : Seen) (t : Topology) (a : Answer) → AsksLanes w t → IsAnswer w a → a.status ≡ 0 → IsAccepted t a.out
written w t a (inl x) is ends = accepted t a.out ((routed w x.0 t a x.2 is).certified x.1 ends)
written w t a (inr x) is ends = accepted t a.out (mended w t a x is).certified

never_refused : (w : Seen) (t : Topology) (a : Answer) → AsksNue w t → IsAnswer w a → a.status ≡ 0
never_refused w t a (inl x) is = (routed w (Nue x.0) t a x.1 is).never_refused refl
never_refused w t a (inr x) is = (mended w t a x is).done

pub headline : Headline
headline = record { checked = checked; written = written; never_refused = never_refused }
