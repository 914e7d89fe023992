-- The laws of answers, by command.
use Rattle.std.proofs.Common.{◌≡◌, ℕ, ◌≤◌, List, [], ◌∷◌, Option, None, Some, refl, sym, ap, ◌∙◌, arith, Contains}
use Rattle.std.specs.Prelude.{MatchOption}
use Rattle.std.specs.Option.{option_map_or}
use Rattle.fab_model.specs.Topology.{Topology}
use Rattle.fab_tables.specs.declared.plan.Plan.{Plan}
use Rattle.fab_tables.specs.declared.verdict.Verdict.{Verdict}
use Rattle.fab_tables.specs.Fit.{PlanFits}
use Rattle.fab_tables.specs.Verdicts.{IsVerdict}
use Rattle.fab_certify.specs.declared.certified.Certified.{Certified}
use Rattle.fab_certify.specs.Certificate.{IsCertificate}
use Rattle.fab_tables.proofs.Verdicts.OneVerdict.{one_verdict}
use Rattle.fab_tables.proofs.Verdicts.VerdictExists.{verdict_exists}
use Rattle.fab_certify.proofs.Exists.Certificates.{certificate_exists}
use Rattle.fab_certify.proofs.OneCertificate.{one_certificate}
use Rattle.fab_dump.specs.Writing.{plan_text}
use Rattle.fab_netdiscover.specs.Writing.{text_of}
use Rattle.fab_report.specs.Loads.{loads_of}
use Rattle.fab_report.specs.Recipes.{generated}
use Rattle.fab_top.specs.declared.command.Command.{Command}
use Rattle.fab_top.specs.declared.command.Command.TheVariants.{Check, Route, Certify, Convert, Repair, Cut, Show, Load, Gen, Demo, Transit, Drain, Mcast, Spread, Sweep, Export, Replies}
use Rattle.fab_top.specs.Answer.{Answer, done}
use Rattle.fab_top.specs.Answers.{IsAnswerTo, IsCheckAnswer, IsRouteAnswer, IsCertifyAnswer, IsPlanText, IsShowAnswer, IsLoadAnswer, IsDrainAnswer, IsSweepAnswer, IsExportAnswer, IsRepliesAnswer, verdict_answer, certified_answer, usage}
use Rattle.fab_top.specs.Headline.{KeepsHeadlineOf, ChecksTruly, RoutesTruly, CertifiesTruly, ConvertsTruly, ShowsTruly, IsDone, DrainsTruly, SweepsTruly, ExportsTruly, RepliesTruly}
use Rattle.fab_top.specs.Laws.{OneAnswer, AnswersKeepHeadline, StatusIsSmall, AnswerExists}
use Rattle.fab_top.specs.Ran.{files_of}
use Rattle.fab_top.specs.ReportTexts.{load_text}
use Rattle.fab_top.specs.Seen.{Seen, WithPlan, WithBoth}
use Rattle.fab_top.specs.Words.{command_of}
use Rattle.fab_top.proofs.Steps.AfterFiles.{IsTold, HasRightAnswer, IsReadPlan, fabric_weaker, fabric_one, fabric_small, fabric_exists, plan_weaker, plan_one, plan_small, plan_exists}
use Rattle.fab_top.proofs.Certifying.{certificate_keeps, certificate_is_small, plan_keeps, plan_is_small}
use Rattle.fab_top.proofs.Cutting.{cut_keeps, one_cut, cut_is_small, cut_exists}
use Rattle.fab_top.proofs.Generating.{done_is_small, fitting_is_fabric, generates_truly}
use Rattle.fab_top.proofs.Judging.{true_verdict, verdict_keeps, verdict_is_small}
use Rattle.fab_top.proofs.Loading.{load_keeps}
use Rattle.fab_top.proofs.Laying.EngineAnswers.{one_route, route_keeps, route_is_small, route_exists, one_demo, demo_keeps, demo_is_small, demo_exists}
use Rattle.fab_top.proofs.Repairing.{repair_kept, one_repair, repair_is_small, repair_exists}
use Rattle.fab_top.proofs.Showing.{one_show, show_keeps, show_is_small, show_exists}
use Rattle.fab_top.proofs.Transiting.{transit_kept, one_transit, transit_is_small, transit_exists}
use Rattle.fab_top.proofs.Draining.{one_drain, drain_keeps, drain_is_small, drain_exists}
use Rattle.fab_top.proofs.Spreading.{mcast_kept, one_mcast_to, mcast_is_small, mcast_to_exists, spread_kept, one_spread_to, spread_is_small, spread_to_exists}
use Rattle.fab_top.proofs.Sweeping.{one_sweep, sweep_keeps, sweep_is_small, sweep_exists}
use Rattle.fab_top.proofs.Exporting.{one_export, export_keeps, export_is_small, export_exists}
use Rattle.fab_top.proofs.Replying.{one_replies, replies_keep, replies_is_small, replies_exist}
use Rattle.fab_top.proofs.SpelledCommands.{CanBeDone, can_be_done}

-- ---- after a fabric and a plan of it

-- the files of the command are told
abbrev AreTold : Seen → List ℕ → Type 0
AreTold w places = (place : ℕ) → Contains places place → IsTold (w.content place)

first_told : (w : Seen) (first : ℕ) (others : List ℕ) → AreTold w (first ∷ others) → IsTold (w.content first)
first_told w first others told = told first (grind arith)

second_told : (w : Seen) (first second : ℕ) (others : List ℕ) → AreTold w (first ∷ second ∷ others) → IsTold (w.content second)
second_told w first second others told = told second (grind arith)

third_told : (w : Seen) (first second third : ℕ) → AreTold w (first ∷ second ∷ third ∷ []) → IsTold (w.content third)
third_told w first second third told = told third (grind arith)

both_weaker : (w : Seen) (fabric plan : ℕ) (rest other : Topology → Plan → Answer → Type 0) (a : Answer) → ((t : Topology) (p : Plan) → IsReadPlan t p → rest t p a → other t p a) →
    WithBoth w fabric plan rest a → WithBoth w fabric plan other a
both_weaker w fabric plan rest other a weaker is =
    fabric_weaker w fabric (λ t. WithPlan w t plan (rest t)) (λ t. WithPlan w t plan (other t)) a (λ t made. plan_weaker w t plan (rest t) (other t) a made (weaker t)) is

both_one : (w : Seen) (fabric plan : ℕ) (rest : Topology → Plan → Answer → Type 0) (a b : Answer) → AreTold w (fabric ∷ plan ∷ []) →
    ((t : Topology) (p : Plan) → IsReadPlan t p → rest t p a → rest t p b → a ≡ b) → WithBoth w fabric plan rest a → WithBoth w fabric plan rest b → a ≡ b
both_one w fabric plan rest a b told one first second =
    fabric_one w fabric (λ t. WithPlan w t plan (rest t)) a b (first_told w fabric (plan ∷ []) told)
    (λ t made. plan_one w t plan (rest t) a b made (second_told w fabric plan [] told) (one t)) first second

at_most_3 : (n : ℕ) → n ≤ 1 → n ≤ 3
at_most_3 n small = omega (arith, small)

both_at_most_3 : (w : Seen) (fabric plan : ℕ) (rest : Topology → Plan → Answer → Type 0) (a : Answer) → AreTold w (fabric ∷ plan ∷ []) →
    ((t : Topology) (p : Plan) → rest t p a → a.status ≤ 3) → WithBoth w fabric plan rest a → a.status ≤ 3
both_at_most_3 w fabric plan rest a told small is =
    fabric_small w fabric (λ t. WithPlan w t plan (rest t)) a (first_told w fabric (plan ∷ []) told)
    (λ t. plan_small w t plan (rest t) a (second_told w fabric plan [] told) (small t)) is

both_small : (w : Seen) (fabric plan : ℕ) (rest : Topology → Plan → Answer → Type 0) (a : Answer) → AreTold w (fabric ∷ plan ∷ []) →
    ((t : Topology) (p : Plan) → rest t p a → a.status ≤ 1) → WithBoth w fabric plan rest a → a.status ≤ 3
both_small w fabric plan rest a told small is =
    fabric_small w fabric (λ t. WithPlan w t plan (rest t)) a (first_told w fabric (plan ∷ []) told)
    (λ t. plan_small w t plan (rest t) a (second_told w fabric plan [] told) (λ p h. at_most_3 a.status (small t p h))) is

both_exist : (w : Seen) (fabric plan : ℕ) (rest : Topology → Plan → Answer → Type 0) → AreTold w (fabric ∷ plan ∷ []) →
    ((t : Topology) (p : Plan) → IsReadPlan t p → HasRightAnswer (rest t p)) → HasRightAnswer (WithBoth w fabric plan rest)
both_exist w fabric plan rest told exists =
    fabric_exists w fabric (λ t. WithPlan w t plan (rest t)) (first_told w fabric (plan ∷ []) told)
    (λ t made. plan_exists w t plan (rest t) made (second_told w fabric plan [] told) (exists t))

abbrev AnswersIt : Seen → Option Command → Answer → Type 0
AnswersIt w command a = MatchOption command (a ≡ usage) (λ c. IsAnswerTo w c a)

-- ---- what a command asks for

abbrev IfDoable : Option Command → Type 0
IfDoable None = Unit {0}
IfDoable (Some command) = CanBeDone command

if_doable : (words : List (List ℕ)) (command : Option Command) → command_of words ≡ command → IfDoable command
if_doable words None e = tt
if_doable words (Some command) e = can_be_done words command e

-- ---- one answer

one_check : (t : Topology) (p : Plan) (a b : Answer) → IsCheckAnswer t p a → IsCheckAnswer t p b → a ≡ b
one_check t p a b first second =
    let same : first.0 ≡ second.0 = one_verdict t p.tables p.lanes first.0 second.0 first.1 second.1 in
    first.2 ∙ ap (verdict_answer t) same ∙ sym second.2

one_certified : (t : Topology) (p : Plan) (a b : Answer) → PlanFits t p → IsCertifyAnswer t p a → IsCertifyAnswer t p b → a ≡ b
one_certified t p a b fits first second =
    let same : first.0 ≡ second.0 = one_certificate t p first.0 second.0 fits first.1 second.1 in
    first.2 ∙ ap (certified_answer t p) same ∙ sym second.2

one_answer_to : (w : Seen) (command : Option Command) (a b : Answer) → IfDoable command → AreTold w (option_map_or files_of command []) → AnswersIt w command a → AnswersIt w command b → a ≡ b
one_answer_to w None a b doable told first second = first ∙ sym second
one_answer_to w (Some (Check fabric plan)) a b doable told first second =
    both_one w fabric plan IsCheckAnswer a b told (λ t p read x y. one_check t p a b x y) first second
one_answer_to w (Some (Route fabric engine)) a b doable told first second =
    fabric_one w fabric (IsRouteAnswer engine) a b (first_told w fabric [] told) (λ t made x y. one_route engine t a b made x y) first second
one_answer_to w (Some (Certify fabric plan)) a b doable told first second =
    both_one w fabric plan IsCertifyAnswer a b told (λ t p read x y. one_certified t p a b read.fits x y) first second
one_answer_to w (Some (Convert fabric plan)) a b doable told first second =
    both_one w fabric plan IsPlanText a b told (λ t p read x y. x ∙ sym y) first second
one_answer_to w (Some (Repair fabric plan failed lanes)) a b doable told first second =
    one_repair w fabric plan failed lanes (first_told w fabric (plan ∷ failed ∷ []) told) (second_told w fabric plan (failed ∷ []) told) (third_told w fabric plan failed told) a b first second
one_answer_to w (Some (Cut fabric failed)) a b doable told first second =
    one_cut w fabric failed (first_told w fabric (failed ∷ []) told) (second_told w fabric failed [] told) a b first second
one_answer_to w (Some (Show fabric plan from to)) a b doable told first second =
    both_one w fabric plan (IsShowAnswer from.0 to.0) a b told (λ t p read x y. one_show t p from.0 to.0 a b x y) first second
one_answer_to w (Some (Load fabric plan)) a b doable told first second =
    both_one w fabric plan IsLoadAnswer a b told (λ t p read x y. x ∙ sym y) first second
one_answer_to w (Some (Gen recipe)) a b doable told first second = first ∙ sym second
one_answer_to w (Some (Demo recipe engine)) a b doable told first second = one_demo engine (generated recipe) a b (fitting_is_fabric recipe doable.recipe) first second
one_answer_to w (Some (Transit fabric old new)) a b doable told first second =
    one_transit w fabric old new (first_told w fabric (old ∷ new ∷ []) told) (second_told w fabric old (new ∷ []) told) (third_told w fabric old new told) a b first second
one_answer_to w (Some (Drain fabric plan)) a b doable told first second =
    both_one w fabric plan IsDrainAnswer a b told (λ t p read x y. one_drain t p a b read x y) first second
one_answer_to w (Some (Mcast fabric groups)) a b doable told first second =
    one_mcast_to w fabric groups (first_told w fabric (groups ∷ []) told) (second_told w fabric groups [] told) a b first second
one_answer_to w (Some (Spread fabric groups group from)) a b doable told first second =
    one_spread_to w fabric groups group from.0 (first_told w fabric (groups ∷ []) told) (second_told w fabric groups [] told) a b first second
one_answer_to w (Some (Sweep what fabric plan lanes)) a b doable told first second =
    both_one w fabric plan (IsSweepAnswer what lanes) a b told (λ t p read x y. one_sweep what lanes t p a b read.fabric doable.lanes x y) first second
one_answer_to w (Some (Export of_part fabric plan)) a b doable told first second =
    both_one w fabric plan (IsExportAnswer of_part) a b told (λ t p read x y. one_export of_part t p a b x y) first second
one_answer_to w (Some (Replies fabric plan)) a b doable told first second =
    both_one w fabric plan IsRepliesAnswer a b told (λ t p read x y. one_replies t p a b read x y) first second

pub one_answer : OneAnswer
one_answer w a b told first second = one_answer_to w (command_of w.words) a b (if_doable w.words (command_of w.words) refl) told first second

-- ---- promises

check_keeps : (t : Topology) (p : Plan) (a : Answer) → IsReadPlan t p → IsCheckAnswer t p a → ChecksTruly t p a
check_keeps t p a read is = verdict_keeps t p is.0 a (true_verdict t p is.0 read.fabric is.1) is.2

certify_keeps : (t : Topology) (p : Plan) (a : Answer) → IsReadPlan t p → IsCertifyAnswer t p a → CertifiesTruly t p a
certify_keeps t p a read is = certificate_keeps t p is.0 a read.fabric read.fits read.tidy is.1 is.2

convert_keeps : (t : Topology) (p : Plan) (a : Answer) → IsReadPlan t p → IsPlanText t p a → ConvertsTruly t p a
convert_keeps t p a read is = plan_keeps t p a read.fabric read.fits read.tidy is

keeps_by : (w : Seen) (command : Option Command) (a : Answer) → IfDoable command → AnswersIt w command a → MatchOption command (Unit {0}) (λ c. KeepsHeadlineOf w c a)
keeps_by w None a doable is = tt
keeps_by w (Some (Check fabric plan)) a doable is = both_weaker w fabric plan IsCheckAnswer ChecksTruly a (λ t p read x. check_keeps t p a read x) is
keeps_by w (Some (Route fabric engine)) a doable is = fabric_weaker w fabric (IsRouteAnswer engine) (RoutesTruly engine) a (λ t made x. route_keeps engine t a made x) is
keeps_by w (Some (Certify fabric plan)) a doable is = both_weaker w fabric plan IsCertifyAnswer CertifiesTruly a (λ t p read x. certify_keeps t p a read x) is
keeps_by w (Some (Convert fabric plan)) a doable is = both_weaker w fabric plan IsPlanText ConvertsTruly a (λ t p read x. convert_keeps t p a read x) is
keeps_by w (Some (Repair fabric plan failed lanes)) a doable is = repair_kept w fabric plan failed lanes a is
keeps_by w (Some (Cut fabric failed)) a doable is = cut_keeps w fabric failed a is
keeps_by w (Some (Show fabric plan from to)) a doable is = both_weaker w fabric plan (IsShowAnswer from.0 to.0) (ShowsTruly from.0 to.0) a (λ t p read x. show_keeps t p from.0 to.0 a x) is
keeps_by w (Some (Load fabric plan)) a doable is = both_weaker w fabric plan IsLoadAnswer IsDone a (λ t p read x. load_keeps t p a x) is
keeps_by w (Some (Gen recipe)) a doable is = generates_truly recipe a doable.recipe is
keeps_by w (Some (Demo recipe engine)) a doable is = demo_keeps engine (generated recipe) a (fitting_is_fabric recipe doable.recipe) is
keeps_by w (Some (Transit fabric old new)) a doable is = transit_kept w fabric old new a is
keeps_by w (Some (Drain fabric plan)) a doable is = both_weaker w fabric plan IsDrainAnswer DrainsTruly a (λ t p read x. drain_keeps t p a read x) is
keeps_by w (Some (Mcast fabric groups)) a doable is = mcast_kept w fabric groups a is
keeps_by w (Some (Spread fabric groups group from)) a doable is = spread_kept w fabric groups group from.0 a is
keeps_by w (Some (Sweep what fabric plan lanes)) a doable is =
    both_weaker w fabric plan (IsSweepAnswer what lanes) (SweepsTruly what lanes) a (λ t p read x. sweep_keeps what lanes t p a read.fabric doable.lanes x) is
keeps_by w (Some (Export of_part fabric plan)) a doable is =
    both_weaker w fabric plan (IsExportAnswer of_part) (ExportsTruly of_part) a (λ t p read x. export_keeps of_part t p a read.fabric read.fits x) is
keeps_by w (Some (Replies fabric plan)) a doable is = both_weaker w fabric plan IsRepliesAnswer RepliesTruly a (λ t p read x. replies_keep t p a read x) is

pub answers_keep_headline : AnswersKeepHeadline
answers_keep_headline w a is = keeps_by w (command_of w.words) a (if_doable w.words (command_of w.words) refl) is

-- ---- statuses

small_usage : (a : Answer) → a ≡ usage → a.status ≤ 3
small_usage a is = let status : a.status ≡ 2 = ap (λ (b : Answer). b.status) is in omega (arith, status)

small_by : (w : Seen) (command : Option Command) (a : Answer) → AreTold w (option_map_or files_of command []) → AnswersIt w command a → a.status ≤ 3
small_by w None a told is = small_usage a is
small_by w (Some (Check fabric plan)) a told is =
    both_small w fabric plan IsCheckAnswer a told (λ t p x. verdict_is_small t x.0 a x.2) is
small_by w (Some (Route fabric engine)) a told is =
    fabric_small w fabric (IsRouteAnswer engine) a (first_told w fabric [] told) (λ t x. route_is_small engine t a x) is
small_by w (Some (Certify fabric plan)) a told is =
    both_small w fabric plan IsCertifyAnswer a told (λ t p x. certificate_is_small t p x.0 a x.2) is
small_by w (Some (Convert fabric plan)) a told is =
    both_small w fabric plan IsPlanText a told (λ t p x. plan_is_small t p a x) is
small_by w (Some (Repair fabric plan failed lanes)) a told is =
    repair_is_small w fabric plan failed lanes (first_told w fabric (plan ∷ failed ∷ []) told) (second_told w fabric plan (failed ∷ []) told) (third_told w fabric plan failed told) a is
small_by w (Some (Cut fabric failed)) a told is =
    cut_is_small w fabric failed (first_told w fabric (failed ∷ []) told) (second_told w fabric failed [] told) a is
small_by w (Some (Show fabric plan from to)) a told is =
    both_at_most_3 w fabric plan (IsShowAnswer from.0 to.0) a told (λ t p x. show_is_small t p from.0 to.0 a x) is
small_by w (Some (Load fabric plan)) a told is =
    both_small w fabric plan IsLoadAnswer a told (λ t p x. done_is_small (load_text t (loads_of t p.tables)) a x) is
small_by w (Some (Gen recipe)) a told is = at_most_3 a.status (done_is_small (text_of (generated recipe)) a is)
small_by w (Some (Demo recipe engine)) a told is = demo_is_small engine (generated recipe) a is
small_by w (Some (Transit fabric old new)) a told is =
    transit_is_small w fabric old new (first_told w fabric (old ∷ new ∷ []) told) (second_told w fabric old (new ∷ []) told) (third_told w fabric old new told) a is
small_by w (Some (Drain fabric plan)) a told is = both_small w fabric plan IsDrainAnswer a told (λ t p x. drain_is_small t p a x) is
small_by w (Some (Mcast fabric groups)) a told is =
    mcast_is_small w fabric groups (first_told w fabric (groups ∷ []) told) (second_told w fabric groups [] told) a is
small_by w (Some (Spread fabric groups group from)) a told is =
    spread_is_small w fabric groups group from.0 (first_told w fabric (groups ∷ []) told) (second_told w fabric groups [] told) a is
small_by w (Some (Sweep what fabric plan lanes)) a told is = both_small w fabric plan (IsSweepAnswer what lanes) a told (λ t p x. sweep_is_small what lanes t p a x) is
small_by w (Some (Export of_part fabric plan)) a told is = both_small w fabric plan (IsExportAnswer of_part) a told (λ t p x. export_is_small of_part t p a x) is
small_by w (Some (Replies fabric plan)) a told is = both_small w fabric plan IsRepliesAnswer a told (λ t p x. replies_is_small t p a x) is

pub status_is_small : StatusIsSmall
status_is_small w a told is = small_by w (command_of w.words) a told is

-- ---- existence

-- there is a verdict on each plan, and what certifying answers
exists_check : (t : Topology) (p : Plan) → IsReadPlan t p → HasRightAnswer (IsCheckAnswer t p)
exists_check t p read = let v : (v : Verdict) × IsVerdict t p.tables p.lanes v = verdict_exists t p.tables p.lanes read.fabric in (verdict_answer t v.0, (v.0, v.1, refl))

exists_certify : (t : Topology) (p : Plan) → IsReadPlan t p → HasRightAnswer (IsCertifyAnswer t p)
exists_certify t p read = let c : (c : Certified) × IsCertificate t p c = certificate_exists t p read.fabric read.fits in (certified_answer t p c.0, (c.0, c.1, refl))

exists_by : (w : Seen) (command : Option Command) → IfDoable command → AreTold w (option_map_or files_of command []) → HasRightAnswer (AnswersIt w command)
exists_by w None doable told = (usage, refl)
exists_by w (Some (Check fabric plan)) doable told = both_exist w fabric plan IsCheckAnswer told exists_check
exists_by w (Some (Route fabric engine)) doable told = fabric_exists w fabric (IsRouteAnswer engine) (first_told w fabric [] told) (λ t made. route_exists engine t made doable.lanes)
exists_by w (Some (Certify fabric plan)) doable told = both_exist w fabric plan IsCertifyAnswer told exists_certify
exists_by w (Some (Convert fabric plan)) doable told = both_exist w fabric plan IsPlanText told (λ t p read. (done (plan_text t p), refl))
exists_by w (Some (Repair fabric plan failed lanes)) doable told =
    repair_exists w fabric plan failed lanes (first_told w fabric (plan ∷ failed ∷ []) told) (second_told w fabric plan (failed ∷ []) told) (third_told w fabric plan failed told) doable.lanes
exists_by w (Some (Cut fabric failed)) doable told = cut_exists w fabric failed (first_told w fabric (failed ∷ []) told) (second_told w fabric failed [] told)
exists_by w (Some (Show fabric plan from to)) doable told = both_exist w fabric plan (IsShowAnswer from.0 to.0) told (λ t p read. show_exists t p from.0 to.0)
exists_by w (Some (Load fabric plan)) doable told = both_exist w fabric plan IsLoadAnswer told (λ t p read. (done (load_text t (loads_of t p.tables)), refl))
exists_by w (Some (Gen recipe)) doable told = (done (text_of (generated recipe)), refl)
exists_by w (Some (Demo recipe engine)) doable told = demo_exists engine (generated recipe) (fitting_is_fabric recipe doable.recipe) doable.lanes
exists_by w (Some (Transit fabric old new)) doable told =
    transit_exists w fabric old new (first_told w fabric (old ∷ new ∷ []) told) (second_told w fabric old (new ∷ []) told) (third_told w fabric old new told)
exists_by w (Some (Drain fabric plan)) doable told = both_exist w fabric plan IsDrainAnswer told (λ t p read. drain_exists t p read)
exists_by w (Some (Mcast fabric groups)) doable told =
    mcast_to_exists w fabric groups (first_told w fabric (groups ∷ []) told) (second_told w fabric groups [] told)
exists_by w (Some (Spread fabric groups group from)) doable told =
    spread_to_exists w fabric groups group from.0 (first_told w fabric (groups ∷ []) told) (second_told w fabric groups [] told)
exists_by w (Some (Sweep what fabric plan lanes)) doable told = both_exist w fabric plan (IsSweepAnswer what lanes) told (λ t p read. sweep_exists what lanes t p read doable.lanes)
exists_by w (Some (Export of_part fabric plan)) doable told = both_exist w fabric plan (IsExportAnswer of_part) told (λ t p read. export_exists of_part t p read)
exists_by w (Some (Replies fabric plan)) doable told = both_exist w fabric plan IsRepliesAnswer told (λ t p read. replies_exist t p read)

pub answer_exists : AnswerExists
answer_exists w told = exists_by w (command_of w.words) (if_doable w.words (command_of w.words) refl) told
