-- The plans of engines as answers, written or counted.
use Rattle.std.proofs.Common.{◌≡◌, ℕ, ◌≤◌, ◌++◌, ◌⊎◌, inl, inr, List, Result, Ok, Err, Vec, Global, refl, sym, ◌∙◌, ap, subst, arith}
use Rattle.std.specs.Prelude.{IsErrAnd}
use Rattle.fab_model.specs.Topology.{Topology}
use Rattle.fab_model.specs.WellFormed.{IsFabric}
use Rattle.fab_tables.specs.declared.plan.Plan.{Plan}
use Rattle.fab_tables.specs.declared.verdict.Verdict.{Verdict}
use Rattle.fab_tables.specs.Verdicts.{IsVerdict}
use Rattle.fab_tables.proofs.Verdicts.OneVerdict.{one_verdict}
use Rattle.fab_tables.proofs.Verdicts.VerdictExists.{verdict_exists}
use Rattle.fab_dump.specs.Writing.{plan_text}
use Rattle.fab_report.specs.declared.recipe.Recipe.{Recipe}
use Rattle.fab_report.specs.declared.rows.SummaryRow.{SummaryRow}
use Rattle.fab_report.specs.Recipes.{generated}
use Rattle.fab_report.specs.Summary.{summary_of}
use Rattle.fab_top.specs.declared.command.Engine.{Engine}
use Rattle.fab_top.specs.declared.engines.EngineAnswer.{EngineAnswer}
use Rattle.fab_top.specs.declared.engines.EngineAnswer.TheVariants as engine_answer
use Rattle.fab_top.specs.declared.outcome.Outcome.{Outcome}
use Rattle.fab_top.specs.declared.outcome.Stop.{Stop}
use Rattle.fab_top.specs.declared.outcome.Stop.TheVariants.{Refused, Unread, Memory}
use Rattle.fab_top.specs.Answer.{Answer, done, no, refused}
use Rattle.fab_top.specs.Answers.{AfterEngine, IsPlanText, IsSummary, IsRouteAnswer, IsDemoAnswer}
use Rattle.fab_top.specs.Engines.{Lays, RefusesWith, HasLaneCount}
use Rattle.fab_top.specs.Headline.{Done, IsGood, RoutesTruly, ShowsOff, ok_text}
use Rattle.fab_top.specs.Outcomes.{IsRightOutcome, FindsRightly, LaysRightly, CanBePut, answer_of}
use Rattle.fab_top.specs.ReportTexts.{summary_text}
use Rattle.fab_top.specs.Texts.{verdict_text}
use Rattle.fab_top.proofs.Steps.AfterFiles.{HasRightAnswer}
use Rattle.fab_top.proofs.Certifying.{plan_keeps, plan_is_small}
use Rattle.fab_top.proofs.Steps.Concluding.{found_at_most_1}
use Rattle.fab_top.proofs.Laying.EnginePlans.{laid_in_order, laid_certified, one_laid, one_refusal, lays_or_refuses, refusal_is, refuses_never, engine_answers}
use Rattle.fab_top.proofs.Generating.{done_is_small}
use Rattle.fab_top.proofs.Judging.{true_verdict}

at_most_3 : (n : ℕ) → n ≤ 1 → n ≤ 3
at_most_3 n small = omega (arith, small)

-- ---- what an engine's answer leads to

-- what is said of an engine's plan, or of its refusal
one_after : (engine : Engine) (rest : Topology → Plan → Answer → Type 0) (t : Topology) (a b : Answer) → IsFabric t → ((p : Plan) → rest t p a → rest t p b → a ≡ b) →
    AfterEngine engine rest t a → AfterEngine engine rest t b → a ≡ b
one_after engine rest t a b fabric one (inl x) (inl y) =
    let P : Plan → Type 0 = λ p. rest t p b in
    one x.0 x.2 (subst P (sym (one_laid t engine x.0 y.0 fabric x.1 y.1)) y.2)
one_after engine rest t a b fabric one (inl x) (inr y) = absurd (lays_or_refuses t engine x.0 b fabric x.1 y)
one_after engine rest t a b fabric one (inr x) (inl y) = absurd (lays_or_refuses t engine y.0 a fabric y.1 x)
one_after engine rest t a b fabric one (inr x) (inr y) = one_refusal t engine a b fabric x y

small_after : (engine : Engine) (rest : Topology → Plan → Answer → Type 0) (t : Topology) (a : Answer) → ((p : Plan) → rest t p a → a.status ≤ 1) → AfterEngine engine rest t a → a.status ≤ 3
small_after engine rest t a small (inl x) = at_most_3 a.status (small x.0 x.2)
small_after engine rest t a small (inr x) = (refusal_is t engine a x).status.0

exists_after : (engine : Engine) (rest : Topology → Plan → Answer → Type 0) (t : Topology) → IsFabric t → HasLaneCount engine → ((p : Plan) → HasRightAnswer (rest t p)) → HasRightAnswer (AfterEngine engine rest t)
exists_after engine rest t fabric lanes exists = by (engine_answers t engine fabric lanes)
  where
    by : ((p : Plan) × Lays t engine p) ⊎ ((a : Answer) × RefusesWith t engine a) → HasRightAnswer (AfterEngine engine rest t)
    by (inl x) = let a = exists x.0 in (a.0, inl (x.0, x.1, a.1))
    by (inr x) = (x.0, inr x.1)

-- ---- what an engine's function answers

pub plan_is_laid : (t : Topology) (engine : Engine) (answer : EngineAnswer) (p : Plan) → answer ≡ engine_answer.Plan p → LaysRightly t engine (Ok answer) → Lays t engine p
plan_is_laid t engine answer p is lays = let P : EngineAnswer → Type 0 = λ x. LaysRightly t engine (Ok x) in subst P is lays

no_is_refusal : (t : Topology) (engine : Engine) (answer : EngineAnswer) (reason : Vec ℕ Global) → answer ≡ engine_answer.No reason → LaysRightly t engine (Ok answer) → RefusesWith t engine (no reason.items)
no_is_refusal t engine answer reason is lays = let P : EngineAnswer → Type 0 = λ x. LaysRightly t engine (Ok x) in subst P is lays

-- where each refusal is a right answer and keeps what is promised
module _ (t : Topology) (engine : Engine) (A H : Answer → Type 0) (right : (a : Answer) → RefusesWith t engine a → A a × H a) where
  no_found : (answer : EngineAnswer) (reason : Vec ℕ Global) (outcome : Outcome) → answer ≡ engine_answer.No reason → LaysRightly t engine (Ok answer) → answer_of outcome ≡ no reason.items → CanBePut outcome →
      IsRightOutcome A H outcome
  no_found answer reason outcome is lays told put =
      let refuses : RefusesWith t engine (answer_of outcome) = subst (λ a. RefusesWith t engine a) (sym told) (no_is_refusal t engine answer reason is lays) in
      let both = right (answer_of outcome) refuses in
      record { is = both.0; headline = both.1; status = (refusal_is t engine (answer_of outcome) refuses).status; can_be_put = put }

  stops_there : (stop : Stop) → LaysRightly t engine (Err stop) → FindsRightly A H (Err stop)
  stops_there (Refused text) lays = let both = right (refused text.items) lays in record { is = both.0; headline = both.1 }
  stops_there (Unread place) lays = lays
  stops_there (Memory lack) lays = tt

  engine_stops : (stop : Stop) (result : Result Outcome Stop) → LaysRightly t engine (Err stop) → IsErrAnd result (λ handed. handed ≡ stop) → FindsRightly A H result
  engine_stops stop (Ok outcome) lays hands = absurd hands
  engine_stops stop (Err handed) lays hands = let P : Stop → Type 0 = λ s. FindsRightly A H (Err s) in subst P (sym hands) (stops_there stop lays)

-- ---- route

pub one_route : (engine : Engine) (t : Topology) (a b : Answer) → IsFabric t → IsRouteAnswer engine t a → IsRouteAnswer engine t b → a ≡ b
one_route engine t a b fabric first second = one_after engine IsPlanText t a b fabric (λ p x y. x ∙ sym y) first second

pub route_keeps : (engine : Engine) (t : Topology) (a : Answer) → IsFabric t → IsRouteAnswer engine t a → RoutesTruly engine t a
route_keeps engine t a fabric (inl x) =
    let order = laid_in_order t engine x.0 fabric x.1 in
    let again = plan_keeps t x.0 a fabric order.fits order.tidy x.2 in
    record {
      done = inl again.0;
      nothing = λ other. absurd (other again.0);
      laid = λ is. (x.0, x.1, order.good, again.1);
      certified = λ lanes is. (x.0, again.1, laid_certified t engine x.0 fabric lanes x.1);
      never_refused = λ never. again.0;
    }
route_keeps engine t a fabric (inr x) =
    let refusal = refusal_is t engine a x in
    record {
      done = inr x;
      nothing = λ other. refusal.nothing;
      laid = λ is. absurd (refusal.not_done is);
      certified = λ lanes is. absurd (refusal.not_done is);
      never_refused = λ never. absurd (refuses_never t engine a never x);
    }

pub route_is_small : (engine : Engine) (t : Topology) (a : Answer) → IsRouteAnswer engine t a → a.status ≤ 3
route_is_small engine t a is = small_after engine IsPlanText t a (λ p x. plan_is_small t p a x) is

pub route_exists : (engine : Engine) (t : Topology) → IsFabric t → HasLaneCount engine → HasRightAnswer (IsRouteAnswer engine t)
route_exists engine t fabric lanes = exists_after engine IsPlanText t fabric lanes (λ p. (done (plan_text t p), refl))

-- an engine's plan that is to be written
pub plan_found : (engine : Engine) (t : Topology) (p : Plan) (outcome : Outcome) → IsFabric t → Lays t engine p → answer_of outcome ≡ done (plan_text t p) → CanBePut outcome →
    IsRightOutcome (IsRouteAnswer engine t) (RoutesTruly engine t) outcome
plan_found engine t p outcome fabric laid answer put = record {
  is = inl (p, laid, answer);
  headline = route_keeps engine t (answer_of outcome) fabric (inl (p, laid, answer));
  status = found_at_most_1 (answer_of outcome).status (plan_is_small t p (answer_of outcome) answer);
  can_be_put = put;
}

route_refused : (engine : Engine) (t : Topology) → IsFabric t → (a : Answer) → RefusesWith t engine a → IsRouteAnswer engine t a × RoutesTruly engine t a
route_refused engine t fabric a refuses = (inr refuses, route_keeps engine t a fabric (inr refuses))

pub route_no : (engine : Engine) (t : Topology) (answer : EngineAnswer) (reason : Vec ℕ Global) (outcome : Outcome) → IsFabric t → answer ≡ engine_answer.No reason → LaysRightly t engine (Ok answer) →
    answer_of outcome ≡ no reason.items → CanBePut outcome → IsRightOutcome (IsRouteAnswer engine t) (RoutesTruly engine t) outcome
route_no engine t answer reason outcome fabric is lays told put =
    no_found t engine (IsRouteAnswer engine t) (RoutesTruly engine t) (route_refused engine t fabric) answer reason outcome is lays told put

pub route_stops : (engine : Engine) (t : Topology) (stop : Stop) (result : Result Outcome Stop) → IsFabric t → LaysRightly t engine (Err stop) → IsErrAnd result (λ handed. handed ≡ stop) →
    FindsRightly (IsRouteAnswer engine t) (RoutesTruly engine t) result
route_stops engine t stop result fabric lays hands = engine_stops t engine (IsRouteAnswer engine t) (RoutesTruly engine t) (route_refused engine t fabric) stop result lays hands

-- ---- demo

-- the verdict on a good plan is the good one
good_verdict : (t : Topology) (p : Plan) (v : Verdict) → IsFabric t → IsVerdict t p.tables p.lanes v → IsGood t p → verdict_text t v ≡ ok_text p.lanes
good_verdict t p v fabric is (inl plain) = ap (verdict_text t) ((true_verdict t p v fabric is).reaches.1 plain) ∙ sym (ap ok_text plain.0)
good_verdict t p v fabric is (inr certified) = ap (verdict_text t) ((true_verdict t p v fabric is).certified.1 certified) ∙ sym (ap ok_text certified.1)

one_summary : (t : Topology) (p : Plan) (a b : Answer) → IsSummary t p a → IsSummary t p b → a ≡ b
one_summary t p a b first second =
    first.2 ∙ ap (λ (v : Verdict). done (summary_text (summary_of t p) ++ verdict_text t v)) (one_verdict t p.tables p.lanes first.0 second.0 first.1 second.1) ∙ sym second.2

summary_is_small : (t : Topology) (p : Plan) (a : Answer) → IsSummary t p a → a.status ≤ 1
summary_is_small t p a is = done_is_small (summary_text (summary_of t p) ++ verdict_text t is.0) a is.2

pub one_demo : (engine : Engine) (t : Topology) (a b : Answer) → IsFabric t → IsDemoAnswer engine t a → IsDemoAnswer engine t b → a ≡ b
one_demo engine t a b fabric first second = one_after engine IsSummary t a b fabric (λ p x y. one_summary t p a b x y) first second

pub demo_keeps : (engine : Engine) (t : Topology) (a : Answer) → IsFabric t → IsDemoAnswer engine t a → ShowsOff engine t a
demo_keeps engine t a fabric (inl x) =
    let good : IsGood t x.0 = (laid_in_order t engine x.0 fabric x.1).good in
    let counts : List ℕ = summary_text (summary_of t x.0) in
    let text : a.out ≡ counts ++ ok_text x.0.lanes = ap (λ (b : Answer). b.out) x.2.2 ∙ ap (λ (line : List ℕ). counts ++ line) (good_verdict t x.0 x.2.0 fabric x.2.1 good) in
    let is_done : Done a = ap (λ (b : Answer). b.status) x.2.2 in
    record { done = inl is_done; nothing = λ other. absurd (other is_done); shown = λ is. (x.0, x.1, good, text); never_refused = λ never. is_done }
demo_keeps engine t a fabric (inr x) =
    let refusal = refusal_is t engine a x in
    record { done = inr x; nothing = λ other. refusal.nothing; shown = λ is. absurd (refusal.not_done is); never_refused = λ never. absurd (refuses_never t engine a never x) }

pub demo_is_small : (engine : Engine) (t : Topology) (a : Answer) → IsDemoAnswer engine t a → a.status ≤ 3
demo_is_small engine t a is = small_after engine IsSummary t a (λ p x. summary_is_small t p a x) is

pub demo_exists : (engine : Engine) (t : Topology) → IsFabric t → HasLaneCount engine → HasRightAnswer (IsDemoAnswer engine t)
demo_exists engine t fabric lanes = exists_after engine IsSummary t fabric lanes (λ p.
    let v : (v : Verdict) × IsVerdict t p.tables p.lanes v = verdict_exists t p.tables p.lanes fabric in
    (done (summary_text (summary_of t p) ++ verdict_text t v.0), (v.0, v.1, refl)))

-- the counts of a plan and its verdict, part by part
pub counts_told : (t : Topology) (p : Plan) (v : Verdict) (counts : SummaryRow) (text line all : List ℕ) (a : Answer) → IsVerdict t p.tables p.lanes v → counts ≡ summary_of t p → text ≡ summary_text counts →
    line ≡ verdict_text t v → all ≡ text ++ line → a ≡ done all → IsSummary t p a
counts_told t p v counts text line all a is are first second both answer =
    (v, is, answer ∙ ap done (both ∙ ap (λ xs. xs ++ line) (first ∙ ap summary_text are) ∙ ap (λ xs. summary_text (summary_of t p) ++ xs) second))

-- the counts of an engine's plan
pub counts_found : (engine : Engine) (t : Topology) (p : Plan) (outcome : Outcome) → IsFabric t → Lays t engine p → IsSummary t p (answer_of outcome) → CanBePut outcome →
    IsRightOutcome (IsDemoAnswer engine t) (ShowsOff engine t) outcome
counts_found engine t p outcome fabric laid answer put = record {
  is = inl (p, laid, answer);
  headline = demo_keeps engine t (answer_of outcome) fabric (inl (p, laid, answer));
  status = found_at_most_1 (answer_of outcome).status (summary_is_small t p (answer_of outcome) answer);
  can_be_put = put;
}

demo_refused : (engine : Engine) (t : Topology) → IsFabric t → (a : Answer) → RefusesWith t engine a → IsDemoAnswer engine t a × ShowsOff engine t a
demo_refused engine t fabric a refuses = (inr refuses, demo_keeps engine t a fabric (inr refuses))

pub demo_no : (engine : Engine) (t : Topology) (answer : EngineAnswer) (reason : Vec ℕ Global) (outcome : Outcome) → IsFabric t → answer ≡ engine_answer.No reason → LaysRightly t engine (Ok answer) →
    answer_of outcome ≡ no reason.items → CanBePut outcome → IsRightOutcome (IsDemoAnswer engine t) (ShowsOff engine t) outcome
demo_no engine t answer reason outcome fabric is lays told put =
    no_found t engine (IsDemoAnswer engine t) (ShowsOff engine t) (demo_refused engine t fabric) answer reason outcome is lays told put

pub demo_stops : (engine : Engine) (t : Topology) (stop : Stop) (result : Result Outcome Stop) → IsFabric t → LaysRightly t engine (Err stop) → IsErrAnd result (λ handed. handed ≡ stop) →
    FindsRightly (IsDemoAnswer engine t) (ShowsOff engine t) result
demo_stops engine t stop result fabric lays hands = engine_stops t engine (IsDemoAnswer engine t) (ShowsOff engine t) (demo_refused engine t fabric) stop result lays hands

pub demo_found : (recipe : Recipe) (engine : Engine) (t : Topology) (result : Result Outcome Stop) → t ≡ generated recipe →
    FindsRightly (IsDemoAnswer engine t) (ShowsOff engine t) result → FindsRightly (IsDemoAnswer engine (generated recipe)) (ShowsOff engine (generated recipe)) result
demo_found recipe engine t result same finds = let P : Topology → Type 0 = λ u. FindsRightly (IsDemoAnswer engine u) (ShowsOff engine u) result in subst P same finds
