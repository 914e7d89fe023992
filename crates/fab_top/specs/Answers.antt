-- The answer to words and files. A command that is added adds a case to `IsAnswerTo`, and the words of its case.
use Rattle.std.specs.Prelude.{◌≡◌, ◌⊎◌, ℕ, List, [], ◌++◌, map, Option, None, Some, MatchOption, slice_get}
use Rattle.fab_model.specs.declared.rows.Place.{Place}
use Rattle.fab_model.specs.Topology.{Topology}
use Rattle.fab_tables.specs.declared.end.End.{End}
use Rattle.fab_tables.specs.declared.end.End.TheVariants.{Delivered}
use Rattle.fab_tables.specs.Route.{route}
use Rattle.fab_tables.specs.declared.plan.Plan.{Plan}
use Rattle.fab_tables.specs.declared.verdict.Verdict.{Verdict}
use Rattle.fab_tables.specs.declared.verdict.Verdict.TheVariants.{Routes, Lanes}
use Rattle.fab_tables.specs.LaneTables.{LaneTables}
use Rattle.fab_tables.specs.Verdicts.{IsVerdict}
use Rattle.fab_dump.specs.Writing.{plan_text}
use Rattle.fab_certify.specs.declared.certified.Certified.{Certified}
use Rattle.fab_certify.specs.declared.certified.Certified.TheVariants.{Numbers, Refused, RingUsed}
use Rattle.fab_certify.specs.Certificate.{IsCertificate}
use Rattle.fab_netdiscover.specs.Writing.{text_of}
use Rattle.fab_nue.specs.NuePlan.{IsNuePlan}
use Rattle.fab_report.specs.Loads.{loads_of}
use Rattle.fab_report.specs.Shown.{shown_text}
use Rattle.fab_report.specs.Recipes.{generated}
use Rattle.fab_report.specs.Summary.{summary_of}
use Rattle.fab_transit.specs.declared.mixed.Mixed.{Mixed}
use Rattle.fab_transit.specs.declared.mixed.Mixed.TheVariants as mixed
use Rattle.fab_transit.specs.MixedWalks.{Change, bound}
use Rattle.fab_transit.specs.Answers as change
use Rattle.fab_drain.specs.declared.state.Drained.{Drained}
use Rattle.fab_drain.specs.declared.state.Drained.TheVariants.{Empty, Waiting}
use Rattle.fab_drain.specs.declared.state.Filled.{Filled}
use Rattle.fab_drain.specs.declared.state.Filled.TheVariants as filled
use Rattle.fab_drain.specs.Loads.{Load as Packets, packet_count}
use Rattle.fab_drain.specs.Fills.{IsFilled}
use Rattle.fab_drain.specs.Drains.{EndsAs}
use Rattle.fab_mcast.specs.GroupList.{Group}
use Rattle.fab_mcast.specs.GroupTrees.{Planted, ArePlanted, entries_at}
use Rattle.fab_mcast.specs.Spreads.{IsSpread}
use Rattle.fab_export.specs.declared.part.Part.{Part}
use Rattle.fab_export.specs.declared.fault.Unfit.{Unfit}
use Rattle.fab_export.specs.Parts.{part_text}
use Rattle.fab_export.specs.Unfits.{IsFirstUnfit}
use Rattle.fab_replies.specs.declared.replied.Replied.{Replied}
use Rattle.fab_replies.specs.declared.replied.Replied.TheVariants as replied
use Rattle.fab_replies.specs.Answers as replying
use Rattle.fab_sweep.specs.declared.Failing.{Failing}
use Rattle.fab_sweep.specs.declared.rows.SweepRow.{SweepRow}
use Rattle.fab_sweep.specs.Sweeps.{AreSweepRows}
use Rattle.fab_top.specs.declared.command.Engine.{Engine}
use Rattle.fab_top.specs.declared.command.Command.{Command}
use Rattle.fab_top.specs.declared.command.Command.TheVariants.{Check, Route, Certify, Convert, Repair, Cut, Show, Load, Gen, Demo, Transit, Drain, Mcast, Spread, Sweep, Export, Replies}
use Rattle.fab_top.specs.Words.{command_of}
use Rattle.fab_top.specs.Usage.{usage_text}
use Rattle.fab_top.specs.Answer.{Answer, done, no}
use Rattle.fab_top.specs.Texts.{verdict_text, ring_text, from_text, end_text}
use Rattle.fab_top.specs.Engines.{Lays, RefusesWith}
use Rattle.fab_top.specs.Files.{known_place, known_group, known_member, members_in}
use Rattle.fab_top.specs.GroupTexts.{groups_text, spread_text}
use Rattle.fab_top.specs.ChangeTexts.{mixed_text}
use Rattle.fab_top.specs.DrainTexts.{drained_text, waiting_text}
use Rattle.fab_top.specs.ExportTexts.{unfit_text}
use Rattle.fab_top.specs.ReplyTexts.{replied_text}
use Rattle.fab_top.specs.ReportTexts.{kept_text, load_text, summary_text, sweep_text}
use Rattle.fab_top.specs.Seen.{Seen, After, WithFabric, WithPlan, WithBoth, WithoutFailed, WithGroups}

-- ---- check

-- a verdict with its text: what is good on the output, a fault on the error output
abbrev pub told_answer : Verdict → List ℕ → Answer
told_answer Routes text = done text
told_answer Lanes text = done text
told_answer fault text = no text

abbrev pub verdict_answer : Topology → Verdict → Answer
verdict_answer t verdict = told_answer verdict (verdict_text t verdict)

abbrev pub IsCheckAnswer : Topology → Plan → Answer → Type 0
IsCheckAnswer t p answer = (verdict : Verdict) × IsVerdict t p.tables p.lanes verdict × (answer ≡ verdict_answer t verdict)

-- ---- certify

-- a plan without lanes is taken with one
abbrev pub lane_count : Option LaneTables → ℕ
lane_count None = 1
lane_count (Some l) = l.count

abbrev pub certified_answer : Topology → Plan → Certified → Answer
certified_answer t p (Numbers new) = done (plan_text t new)
certified_answer t p (Refused fault) = no (verdict_text t fault)
certified_answer t p (RingUsed ring) = no (ring_text t (lane_count p.lanes) ring)

abbrev pub IsCertifyAnswer : Topology → Plan → Answer → Type 0
IsCertifyAnswer t p answer = (certified : Certified) × IsCertificate t p certified × (answer ≡ certified_answer t p certified)

-- ---- convert

abbrev pub IsPlanText : Topology → Plan → Answer → Type 0
IsPlanText t p answer = answer ≡ done (plan_text t p)

-- ---- repair, on the fabric without the failed cables

-- the plan on the output, and on the error output which LIDs it keeps
abbrev pub repaired : Topology → Plan → List ℕ → Answer
repaired t p kept = record { status = 0; out = plan_text t p; err = kept_text t kept }

-- Nue's plan, which keeps of the old one each LID that can stay
abbrev pub IsRepairAnswer : ℕ → Plan → Topology → Answer → Type 0
IsRepairAnswer lanes old t answer = (p : Plan) × (kept : List ℕ) × IsNuePlan t lanes (Some old) kept p × (answer ≡ repaired t p kept)

-- ---- show

-- a route that isn't delivered is told on both outputs
abbrev pub shown_answer : Topology → ℕ → ℕ → List ℕ → End → Answer
shown_answer t from lid text Delivered = done text
shown_answer t from lid text end = record { status = 1; out = text; err = from_text t lid from (end_text end) }

abbrev pub IsShown : Topology → Plan → ℕ → Place → Answer → Type 0
IsShown t p lid from answer = answer ≡ shown_answer t from.switch.0 lid (shown_text t p from lid) (route t p.tables from.switch.0 lid).end

-- the one LID's place is asked for before the other's
abbrev pub IsShowAnswer : ℕ → ℕ → Topology → Plan → Answer → Type 0
IsShowAnswer from to t p answer = After (known_place t from) (λ place. After (known_place t to) (λ far. IsShown t p to place)) answer

-- ---- load

abbrev pub IsLoadAnswer : Topology → Plan → Answer → Type 0
IsLoadAnswer t p answer = answer ≡ done (load_text t (loads_of t p.tables))

-- ---- cut and gen

abbrev pub IsFabricText : Topology → Answer → Type 0
IsFabricText t answer = answer ≡ done (text_of t)

-- ---- route and demo

-- the answer of the engine's plan, or of its refusal
abbrev pub AfterEngine : Engine → (Topology → Plan → Answer → Type 0) → Topology → Answer → Type 0
AfterEngine engine rest t answer = ((p : Plan) × Lays t engine p × rest t p answer) ⊎ RefusesWith t engine answer

abbrev pub IsRouteAnswer : Engine → Topology → Answer → Type 0
IsRouteAnswer engine t answer = AfterEngine engine IsPlanText t answer

-- the counts of a plan and its verdict
abbrev pub IsSummary : Topology → Plan → Answer → Type 0
IsSummary t p answer = (verdict : Verdict) × IsVerdict t p.tables p.lanes verdict × (answer ≡ done (summary_text (summary_of t p) ++ verdict_text t verdict))

abbrev pub IsDemoAnswer : Engine → Topology → Answer → Type 0
IsDemoAnswer engine t answer = AfterEngine engine IsSummary t answer

-- ---- transit

-- what is said of a change: numbers on the output, a fault or a ring on the error output
abbrev pub told_change : Mixed → List ℕ → Answer
told_change (mixed.Numbers l) text = done text
told_change other text = no text

abbrev pub change_answer : Topology → ℕ → Mixed → Answer
change_answer t count told = told_change told (mixed_text t count told)

abbrev pub change_of : Plan → Plan → Change
change_of old new = record { before = old; after = new }

abbrev pub IsTransitAnswer : Topology → Plan → Plan → Answer → Type 0
IsTransitAnswer t old new answer =
    (told : Mixed) × change.IsAnswerTo t (change_of old new) told × (answer ≡ change_answer t (bound (change_of old new)) told)

-- ---- drain

-- how the load ends: with the packets that were there at first, or those that wait at the end
abbrev pub drained_answer : Topology → Packets → Packets → Drained → Answer
drained_answer t old new (Empty moves) = done (drained_text (packet_count old) moves)
drained_answer t old new (Waiting moves ring) = no (waiting_text t new.count (packet_count new) moves ring)

abbrev pub IsDrainedFrom : Topology → Plan → Packets → Answer → Type 0
IsDrainedFrom t p old answer = (new : Packets) × (drained : Drained) × EndsAs t p old new drained × (answer ≡ drained_answer t old new drained)

-- the load that fills the fabric is drained, or the verdict is told for which there is none
abbrev pub IsDrained : Topology → Plan → Filled → Answer → Type 0
IsDrained t p (filled.Refused fault) answer = answer ≡ no (verdict_text t fault)
IsDrained t p (filled.Full old) answer = IsDrainedFrom t p old answer

abbrev pub IsDrainAnswer : Topology → Plan → Answer → Type 0
IsDrainAnswer t p answer = (load : Filled) × IsFilled t p load × IsDrained t p load answer

-- ---- mcast and spread

abbrev pub members_by_group : List Group → List (List ℕ)
members_by_group groups = map (λ (g : Group). g.members) groups

abbrev pub IsMcastAnswer : Topology → List Group → Answer → Type 0
IsMcastAnswer t groups answer = (tables : List Planted) × ArePlanted t (members_by_group groups) tables × (answer ≡ done (groups_text t groups tables))

-- from a member of the group at this place of the list
abbrev pub IsSpreadFrom : Topology → List Group → ℕ → ℕ → Answer → Type 0
IsSpreadFrom t groups index from answer =
    (tables : List Planted) × (found : List ℕ) × ArePlanted t (members_by_group groups) tables × IsSpread t (entries_at tables index) from found × (answer ≡ done (spread_text t found))

-- the group is asked for before its member that has the LID
abbrev pub AfterMember : ℕ → ℕ → Topology → List Group → (ℕ → ℕ → Answer → Type 0) → Answer → Type 0
AfterMember group lid t groups rest answer =
    After (known_group groups group) (λ index. After (known_member t (members_in (slice_get groups index)) lid) (rest index)) answer

abbrev pub IsSpreadAnswer : ℕ → ℕ → Topology → List Group → Answer → Type 0
IsSpreadAnswer group lid t groups answer = AfterMember group lid t groups (IsSpreadFrom t groups) answer

-- ---- sweep

abbrev pub IsSweepAnswer : Failing → ℕ → Topology → Plan → Answer → Type 0
IsSweepAnswer what lanes t p answer = (rows : List SweepRow) × AreSweepRows t p lanes what rows × (answer ≡ done (sweep_text t rows))

-- ---- export

-- the text of a part, or the first reason against it
abbrev pub export_answer : Part → Topology → Plan → Option Unfit → Answer
export_answer of_part t p None = done (part_text of_part t p)
export_answer of_part t p (Some reason) = no (unfit_text t reason)

abbrev pub IsExportAnswer : Part → Topology → Plan → Answer → Type 0
IsExportAnswer of_part t p answer = (found : Option Unfit) × IsFirstUnfit t p of_part found × (answer ≡ export_answer of_part t p found)

-- ---- replies

-- what is said of replies: numbers on the output, a fault or a ring on the error output
abbrev pub told_replies : Replied → List ℕ → Answer
told_replies (replied.Numbers l) text = done text
told_replies other text = no text

abbrev pub replies_answer : Topology → Plan → Replied → Answer
replies_answer t p told = told_replies told (replied_text t (lane_count p.lanes) told)

abbrev pub IsRepliesAnswer : Topology → Plan → Answer → Type 0
IsRepliesAnswer t p answer = (told : Replied) × replying.IsAnswerTo t p told × (answer ≡ replies_answer t p told)

-- ---- by command

abbrev pub IsAnswerTo : Seen → Command → Answer → Type 0
IsAnswerTo w (Check fabric plan) answer = WithBoth w fabric plan IsCheckAnswer answer
IsAnswerTo w (Route fabric engine) answer = WithFabric w fabric (IsRouteAnswer engine) answer
IsAnswerTo w (Certify fabric plan) answer = WithBoth w fabric plan IsCertifyAnswer answer
IsAnswerTo w (Convert fabric plan) answer = WithBoth w fabric plan IsPlanText answer
IsAnswerTo w (Repair fabric plan failed lanes) answer = WithBoth w fabric plan (λ t p. WithoutFailed w t failed (IsRepairAnswer lanes p)) answer
IsAnswerTo w (Cut fabric failed) answer = WithFabric w fabric (λ t. WithoutFailed w t failed IsFabricText) answer
IsAnswerTo w (Show fabric plan from to) answer = WithBoth w fabric plan (IsShowAnswer from.0 to.0) answer
IsAnswerTo w (Load fabric plan) answer = WithBoth w fabric plan IsLoadAnswer answer
IsAnswerTo w (Gen recipe) answer = IsFabricText (generated recipe) answer
IsAnswerTo w (Demo recipe engine) answer = IsDemoAnswer engine (generated recipe) answer
IsAnswerTo w (Transit fabric old new) answer = WithBoth w fabric old (λ t p. WithPlan w t new (IsTransitAnswer t p)) answer
IsAnswerTo w (Drain fabric plan) answer = WithBoth w fabric plan IsDrainAnswer answer
IsAnswerTo w (Mcast fabric groups) answer = WithFabric w fabric (λ t. WithGroups w t groups (IsMcastAnswer t)) answer
IsAnswerTo w (Spread fabric groups group from) answer = WithFabric w fabric (λ t. WithGroups w t groups (IsSpreadAnswer group from.0 t)) answer
IsAnswerTo w (Sweep what fabric plan lanes) answer = WithBoth w fabric plan (IsSweepAnswer what lanes) answer
IsAnswerTo w (Export of_part fabric plan) answer = WithBoth w fabric plan (IsExportAnswer of_part) answer
IsAnswerTo w (Replies fabric plan) answer = WithBoth w fabric plan IsRepliesAnswer answer

abbrev pub usage : Answer
usage = record { status = 2; out = []; err = usage_text }

abbrev pub IsAnswer : Seen → Answer → Type 0
IsAnswer w answer = MatchOption (command_of w.words) (answer ≡ usage) (λ command. IsAnswerTo w command answer)
