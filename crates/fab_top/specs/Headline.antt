-- The headline, and what the program promises of its answers, command by command.
use Rattle.std.specs.Prelude.{◌≡◌, ◌↔◌, ◌⊎◌, ℕ, ◌≤◌, List, [], ◌++◌, length, map, Contains, Option, None, Some, Ok, MatchOption, IsTrue, slice_get}
use Rattle.std.specs.List.Sorted.{IsStrictlyIncreasing}
use Rattle.fab_graph.specs.Walks.{IsAcyclic, Rises}
use Rattle.fab_model.specs.declared.rows.Cable.{Cable}
use Rattle.fab_model.specs.declared.rows.Place.{Place}
use Rattle.fab_model.specs.Topology.{Topology, lids_of}
use Rattle.fab_model.specs.Connected.{IsConnectedTo}
use Rattle.fab_model.specs.WellFormed.{IsFabric}
use Rattle.fab_tables.specs.declared.plan.Plan.{Plan}
use Rattle.fab_tables.specs.declared.end.End.TheVariants.{Delivered}
use Rattle.fab_tables.specs.Certified.{HasRisingNumbers, Reaches, IsCertified, number_of}
use Rattle.fab_tables.specs.Dependencies.{AreReadLanes, Depends}
use Rattle.fab_tables.specs.Entries.{Entries}
use Rattle.fab_tables.specs.LaneTables.{LaneTables}
use Rattle.fab_tables.specs.Route.{route, visited, HasRepeat}
use Rattle.fab_dump.specs.Reading.{plan_of}
use Rattle.fab_dump.specs.Writing.{lines_text}
use Rattle.fab_check.specs.Free.{IsFreeOfDeadlock}
use Rattle.fab_certify.specs.Numbered.{IsSound}
use Rattle.fab_nue.specs.NuePlan.{IsNuePlan}
use Rattle.fab_report.specs.declared.recipe.Recipe.{Recipe}
use Rattle.fab_report.specs.Recipes.{generated}
use Rattle.fab_report.specs.Summary.{summary_of}
use Rattle.fab_transit.specs.MixedWalks.{DependsMixed}
use Rattle.fab_transit.specs.Answers.{HasNoFault}
use Rattle.fab_transit.specs.Safe as change
use Rattle.fab_drain.specs.Loads.{Load as Packets, packet_count, hops_left}
use Rattle.fab_drain.specs.Fills.{IsFilling}
use Rattle.fab_mcast.specs.GroupList.{Group}
use Rattle.fab_mcast.specs.GroupTrees.{Planted}
use Rattle.fab_mcast.specs.Spreads.{IsSpread, IsOtherMember, ReachesMembers}
use Rattle.fab_export.specs.declared.part.Part.{Part}
use Rattle.fab_export.specs.declared.part.Part.TheVariants as part
use Rattle.fab_export.specs.Unfits.{IsFit}
use Rattle.fab_export.specs.Policies.{policy_of}
use Rattle.fab_export.specs.LevelsText.{policy_lines}
use Rattle.fab_export.specs.SaidPlan.{entries_said, plan_said}
use Rattle.fab_export.specs.Laws.{IsSaidOf, CanBeLoaded, GivesLevels, IsMapOf}
use Rattle.fab_replies.specs.Replies.{DependsJointly}
use Rattle.fab_replies.specs.Answers.{HasGoodReplies}
use Rattle.fab_replies.specs.Covered.{Covers}
use Rattle.fab_sweep.specs.declared.Failing.{Failing}
use Rattle.fab_sweep.specs.Sweeps.{AreRepairsCertified}
use Rattle.fab_top.specs.declared.command.Engine.{Engine}
use Rattle.fab_top.specs.declared.command.Engine.TheVariants.{Nue}
use Rattle.fab_top.specs.declared.command.Command.{Command}
use Rattle.fab_top.specs.declared.command.Command.TheVariants.{Check, Route, Certify, Convert, Repair, Cut, Show, Load, Gen, Demo, Transit, Drain, Mcast, Spread, Sweep, Export, Replies}
use Rattle.fab_top.specs.Words.{command_of}
use Rattle.fab_top.specs.Answer.{Answer, done}
use Rattle.fab_top.specs.Answers.{IsAnswer, repaired, change_of, members_by_group, AfterMember}
use Rattle.fab_top.specs.Engines.{Lays, RefusesWith, has_lanes, never_refuses}
use Rattle.fab_top.specs.Files.{fabric_limit, fabric_in, plan_in, failed_in, without_failed, known_place, members_in}
use Rattle.fab_top.specs.GroupTexts.{groups_text, spread_text}
use Rattle.fab_top.specs.ChangeTexts.{transit_text}
use Rattle.fab_top.specs.DrainTexts.{drained_text}
use Rattle.fab_top.specs.ReplyTexts.{replies_text}
use Rattle.fab_top.specs.ReportTexts.{summary_text}
use Rattle.fab_top.specs.Texts.{ok_routes, ok_lanes}
use Rattle.fab_top.specs.Seen.{Seen, Content, After, WithFabric, WithPlan, WithBoth, WithoutFailed, WithGroups, word_at}

-- following the tables from every switch reaches every LID connected to it, and meets no switch twice
abbrev pub FollowsWell : Topology → Entries → Type 0
FollowsWell t e = (s lid : ℕ) → IsConnectedTo t s lid →
    ((route t e s lid).end ≡ Delivered) × (¬ HasRepeat (visited t s ((route t e s lid).channels)))

-- along every two virtual channels that a source's route uses in succession the numbers rise
abbrev pub NumbersRise : Topology → Plan → Type 0
NumbersRise t p = (l : LaneTables) → p.lanes ≡ Some l → Rises (number_of l) (Depends t p.tables l)

-- ---- the headline

-- what files say: the file of a place this fabric, this plan of it, or failed cables that are all in it and leave this fabric
abbrev pub SaysFabric : Seen → ℕ → Topology → Type 0
SaysFabric w place t = (bytes : List ℕ) × (w.content place ≡ Content.Holds bytes) × (fabric_in (word_at w.words place) bytes ≡ Ok t)

abbrev pub SaysPlan : Seen → Topology → ℕ → Plan → Type 0
SaysPlan w t place p = (bytes : List ℕ) × (w.content place ≡ Content.Holds bytes) × (plan_in t (word_at w.words place) bytes ≡ Ok p)

abbrev pub SaysLeft : Seen → Topology → ℕ → Topology → Type 0
SaysLeft w t place left =
    (bytes : List ℕ) × (cables : List Cable) × (w.content place ≡ Content.Holds bytes) × (failed_in (word_at w.words place) bytes ≡ Ok cables)
    × (without_failed (word_at w.words place) t cables ≡ Ok left)

-- the words ask for the verdict on this plan of this fabric
abbrev pub AsksCheck : Seen → Topology → Plan → Type 0
AsksCheck w t p = (fabric plan : ℕ) × (command_of w.words ≡ Some (Check fabric plan)) × SaysFabric w fabric t × SaysPlan w t plan p

-- they ask for an engine's plan for this fabric
abbrev pub AsksRoute : Seen → Engine → Topology → Type 0
AsksRoute w engine t = (fabric : ℕ) × (command_of w.words ≡ Some (Route fabric engine)) × SaysFabric w fabric t

-- they ask for a repaired plan, where failed cables leave this fabric
abbrev pub AsksRepair : Seen → Topology → Type 0
AsksRepair w left =
    (fabric plan failed lanes : ℕ) × (t : Topology) × (old : Plan) × (command_of w.words ≡ Some (Repair fabric plan failed lanes))
    × SaysFabric w fabric t × SaysPlan w t plan old × SaysLeft w t failed left

-- they ask UPDN, LASH, DFSSSP, Nue or a repair for a plan for this fabric
abbrev pub AsksLanes : Seen → Topology → Type 0
AsksLanes w t = ((engine : Engine) × IsTrue (has_lanes engine) × AsksRoute w engine t) ⊎ AsksRepair w t

-- they ask Nue or a repair, at any lane count
abbrev pub AsksNue : Seen → Topology → Type 0
AsksNue w t = ((lanes : ℕ) × AsksRoute w (Nue lanes) t) ⊎ AsksRepair w t

-- the plan has lanes with a level for every source's route and a number for every virtual channel that one uses, and the numbers rise along every
-- two of them in succession
abbrev pub RisesAlongRoutes : Topology → Plan → Type 0
RisesAlongRoutes t p = (l : LaneTables) × (p.lanes ≡ Some l) × HasRisingNumbers t p.tables l

-- `check`, asked of this fabric and a file that holds the text, answers ok with lanes
abbrev pub IsAccepted : Topology → List ℕ → Type 0
IsAccepted t text =
    (w : Seen) (fabric plan : ℕ) (a : Answer) → command_of w.words ≡ Some (Check fabric plan) → SaysFabric w fabric t → w.content plan ≡ Content.Holds text → IsAnswer w a → a ≡ done ok_lanes

pub record Headline : Type 0 where
  -- Where `check` answers ok with lanes, following the plan's tables from every switch reaches every destination connected to it
  -- without a repeated switch, and the numbers rise along every two virtual channels that a source's route uses in succession.
  pub checked : (w : Seen) (t : Topology) (p : Plan) (a : Answer) → AsksCheck w t p → IsAnswer w a → a ≡ done ok_lanes → FollowsWell t p.tables × RisesAlongRoutes t p
  -- Every plan written by UPDN, LASH, DFSSSP, Nue or a repair is one that `check` so accepts.
  pub written : (w : Seen) (t : Topology) (a : Answer) → AsksLanes w t → IsAnswer w a → a.status ≡ 0 → IsAccepted t a.out
  -- Nue and repair refuse no well-formed fabric at any lane count.
  pub never_refused : (w : Seen) (t : Topology) (a : Answer) → AsksNue w t → IsAnswer w a → a.status ≡ 0

-- ---- check and certify

-- what an operator may trust of a plan: it follows well, its numbers rise, and no packets of it wait for each other
pub record IsSafe (t : Topology) (p : Plan) : Type 0 where
  pub follows : FollowsWell t p.tables
  pub rises : NumbersRise t p
  pub free : IsFreeOfDeadlock t p

-- The check answers ok with lanes exactly of certified plans, which are safe, and ok without lanes exactly of plans
-- without lanes whose routes all reach.
pub record ChecksTruly (t : Topology) (p : Plan) (answer : Answer) : Type 0 where
  pub certified : (answer.out ≡ ok_lanes) ↔ IsCertified t p
  pub safe : answer.out ≡ ok_lanes → IsSafe t p
  pub reaches : (answer.out ≡ ok_routes) ↔ ((p.lanes ≡ None) × Reaches t p.tables)

abbrev pub Done : Answer → Type 0
Done answer = answer.status ≡ 0

-- With the lanes with which the plan is read the routes reach, each source has a level for each LID connected to it, every
-- lane that is used is below the count, and no ring of virtual channels waits for itself.
abbrev pub CanBeCertified : Topology → Plan → Type 0
CanBeCertified t p = (l : LaneTables) × AreReadLanes t p.lanes l × IsSound t p.tables l × IsAcyclic (Depends t p.tables l)

-- the text, in a file of any name, is taken as this plan
abbrev pub IsReadAgain : Topology → Plan → List ℕ → Type 0
IsReadAgain t p text = (name : List ℕ) → plan_in t name text ≡ Ok p

-- the text, in a file of any name, is taken as a certified plan: one that the check answers ok with lanes
abbrev pub IsCertifiedAgain : Topology → List ℕ → Type 0
IsCertifiedAgain t text = (p : Plan) × IsReadAgain t p text × IsCertified t p

-- a plan is written out exactly where it can be certified, and then it is certified
pub record CertifiesTruly (t : Topology) (p : Plan) (answer : Answer) : Type 0 where
  pub done : Done answer ↔ CanBeCertified t p
  pub certified : Done answer → IsCertifiedAgain t answer.out

-- a plan that is converted stays the same plan
abbrev pub ConvertsTruly : Topology → Plan → Answer → Type 0
ConvertsTruly t p answer = Done answer × IsReadAgain t p answer.out

-- it is done exactly where the route is delivered
abbrev pub IsDoneIfDelivered : Topology → Plan → ℕ → Place → Answer → Type 0
IsDoneIfDelivered t p lid from answer = Done answer ↔ ((route t p.tables from.switch.0 lid).end ≡ Delivered)

abbrev pub ShowsTruly : ℕ → ℕ → Topology → Plan → Answer → Type 0
ShowsTruly from to t p answer = After (known_place t from) (λ place. After (known_place t to) (λ far. IsDoneIfDelivered t p to place)) answer

-- the loads are always told
abbrev pub IsDone : Topology → Plan → Answer → Type 0
IsDone t p answer = Done answer

-- the text, in a file of any name, is taken as this fabric
abbrev pub IsTakenAs : Topology → List ℕ → Type 0
IsTakenAs t text = (name : List ℕ) → fabric_in name text ≡ Ok t

-- so it is if it isn't longer than such a file may be
abbrev pub IsFabricAgain : Topology → List ℕ → Type 0
IsFabricAgain t text = length text ≤ fabric_limit → IsTakenAs t text

abbrev pub WritesTruly : Topology → Answer → Type 0
WritesTruly t answer = Done answer × IsFabricAgain t answer.out

-- a recipe gives a fabric in order, and its text, which is never too long for a file
abbrev pub GeneratesTruly : Recipe → Answer → Type 0
GeneratesTruly recipe answer = IsFabric (generated recipe) × Done answer × IsTakenAs (generated recipe) answer.out

-- ---- route and demo

-- a plan that the check calls good: without lanes its routes reach, and with lanes it is certified
abbrev pub IsGood : Topology → Plan → Type 0
IsGood t p = ((p.lanes ≡ None) × Reaches t p.tables) ⊎ IsCertified t p

-- the text, in a file of any name, is taken as the engine's plan, which is good
abbrev pub IsLaidAgain : Engine → Topology → List ℕ → Type 0
IsLaidAgain engine t text = (p : Plan) × Lays t engine p × IsGood t p × IsReadAgain t p text

-- A good plan of the engine is written, or else its rule refuses the fabric, and nothing is. That of an engine with lanes is
-- certified. Some engines refuse no fabric.
pub record RoutesTruly (engine : Engine) (t : Topology) (answer : Answer) : Type 0 where
  pub done : Done answer ⊎ RefusesWith t engine answer
  pub nothing : ¬ Done answer → answer.out ≡ []
  pub laid : Done answer → IsLaidAgain engine t answer.out
  pub certified : IsTrue (has_lanes engine) → Done answer → IsCertifiedAgain t answer.out
  pub never_refused : IsTrue (never_refuses engine) → Done answer

-- the text of the verdict on a good plan
abbrev pub ok_text : Option LaneTables → List ℕ
ok_text None = ok_routes
ok_text (Some l) = ok_lanes

-- the text is that of the counts of the engine's plan, which is good, and of the good verdict
abbrev pub IsShownOff : Engine → Topology → List ℕ → Type 0
IsShownOff engine t text = (p : Plan) × Lays t engine p × IsGood t p × (text ≡ summary_text (summary_of t p) ++ ok_text p.lanes)

-- the counts of a good plan are told, or else the engine's rule refuses the fabric, and nothing is
pub record ShowsOff (engine : Engine) (t : Topology) (answer : Answer) : Type 0 where
  pub done : Done answer ⊎ RefusesWith t engine answer
  pub nothing : ¬ Done answer → answer.out ≡ []
  pub shown : Done answer → IsShownOff engine t answer.out
  pub never_refused : IsTrue (never_refuses engine) → Done answer

-- ---- repair

-- No fabric is refused, and the plan that is written is certified for the fabric without the failed cables. An old plan that Nue or a
-- repair made for that fabric and lane count stays as it is, with every LID kept.
pub record RepairsTruly (lanes : ℕ) (old : Plan) (t : Topology) (answer : Answer) : Type 0 where
  pub done : Done answer
  pub certified : IsCertifiedAgain t answer.out
  pub laid : (p : Plan) × (kept : List ℕ) × IsNuePlan t lanes (Some old) kept p × IsReadAgain t p answer.out
  pub itself : (older : Option Plan) (before : List ℕ) → IsNuePlan t lanes older before old → answer ≡ repaired t old (lids_of t)

-- ---- transit

-- The change is done exactly where no packet loses its way or its lane and no ring of virtual channels waits for itself, and then it is
-- safe under traffic, with the numbers that are told.
pub record TransitsTruly (t : Topology) (old new : Plan) (answer : Answer) : Type 0 where
  pub done : Done answer ↔ (HasNoFault t (change_of old new) × IsAcyclic (DependsMixed t (change_of old new)))
  pub safe : Done answer → (l : LaneTables) × change.IsSafe t (change_of old new) l × (answer.out ≡ transit_text t l)

-- ---- drain

-- the counts of a load that fills the fabric and has made a move for each remaining hop
abbrev pub IsEmptied : Topology → Plan → List ℕ → Type 0
IsEmptied t p text = (load : Packets) × IsFilling t p load × (text ≡ drained_text (packet_count load) (hops_left load))

-- Where it is done, the load that fills the fabric ends empty, with a move for each remaining hop. So it is on each certified plan. Where it
-- isn't done, nothing is on the output.
pub record DrainsTruly (t : Topology) (p : Plan) (answer : Answer) : Type 0 where
  pub emptied : Done answer → IsEmptied t p answer.out
  pub certified : IsCertified t p → Done answer
  pub nothing : ¬ Done answer → answer.out ≡ []

-- ---- mcast and spread

-- from each member of each group each other one that is connected to it is reached once, and nothing else
abbrev pub AllReach : Topology → List Planted → Type 0
AllReach t tables = (index from : ℕ) (group : Planted) → slice_get tables index ≡ Some group → Contains group.members from → ReachesMembers t group.members group.ports from

-- the tables that are told are those of the groups, and they reach
pub record PlantsTruly (t : Topology) (groups : List Group) (answer : Answer) : Type 0 where
  pub done : Done answer
  pub tables : List Planted
  pub of_groups : map (λ (g : Planted). g.members) tables ≡ members_by_group groups
  pub reach : AllReach t tables
  pub told : answer.out ≡ groups_text t groups tables

-- the members are told, in ascending order, that are connected to this one and differ from it; each of them is reached once
pub record SpreadsTruly (t : Topology) (groups : List Group) (index from : ℕ) (answer : Answer) : Type 0 where
  pub done : Done answer
  pub found : List ℕ
  pub ascending : IsStrictlyIncreasing found
  pub members : (n : ℕ) → Contains found n ↔ IsOtherMember t (members_in (slice_get groups index)) from n
  pub once : (entries : List (List ℕ)) × IsSpread t entries from found × ReachesMembers t (members_in (slice_get groups index)) entries from
  pub told : answer.out ≡ spread_text t found

-- ---- sweep

-- it is done, and the repaired plan of each failure is certified for the fabric that the failure leaves
abbrev pub SweepsTruly : Failing → ℕ → Topology → Plan → Answer → Type 0
SweepsTruly what lanes t p answer = Done answer × AreRepairsCertified t p lanes what

-- ---- export

-- The tables are loaded whole, and read again as a plain dump they are the plan's entries where switch and LID are connected. The policy gives
-- each pair of port GUIDs the level of the plan. The map is the plan's at every switch.
abbrev pub TellsTruly : Part → Topology → Plan → List ℕ → Type 0
TellsTruly part.Tables t p text =
    CanBeLoaded t p.tables × IsSaidOf t p.tables (entries_said t p.tables)
    × (plan_of t text ≡ Ok (record { tables = entries_said t p.tables; lanes = None }))
TellsTruly part.Levels t p text =
    (l : LaneTables) × (p.lanes ≡ Some l) × GivesLevels t p.tables l × (text ≡ lines_text (policy_lines (policy_of t p.tables l)))
TellsTruly part.Config t p text = (l : LaneTables) → p.lanes ≡ Some l → IsMapOf t p.tables l

-- A part is written exactly where no reason stands against it. Then it tells what it should, and the plan that the three parts say is safe
-- and, with lanes, certified.
pub record ExportsTruly (of_part : Part) (t : Topology) (p : Plan) (answer : Answer) : Type 0 where
  pub done : Done answer ↔ IsFit t p of_part
  pub told : Done answer → TellsTruly of_part t p answer.out
  pub safe : Done answer → IsSafe t (plan_said t p)
  pub certified : Done answer → (l : LaneTables) → p.lanes ≡ Some l → IsCertified t (plan_said t p)

-- ---- replies

-- With the lanes with which the plan is read its routes reach, each source has a level for each LID connected to it, every lane that packets or
-- replies use is below the count, and no ring of virtual channels waits for itself along packets and replies.
abbrev pub CanBeCovered : Topology → Plan → Type 0
CanBeCovered t p =
    (l : LaneTables) × AreReadLanes t p.lanes l × IsSound t p.tables l × HasGoodReplies t p.tables l × IsAcyclic (DependsJointly t p.tables l)

-- the text is that of numbers that cover packets and replies: they rise along both, and no packets and replies wait for each other
abbrev pub IsCovered : Topology → Plan → List ℕ → Type 0
IsCovered t p text = (new : LaneTables) × Covers t p new × (text ≡ replies_text t new)

-- It is done exactly where packets and replies can be covered, and then numbers that cover them are told. Where it isn't done, nothing is on the
-- output.
pub record RepliesTruly (t : Topology) (p : Plan) (answer : Answer) : Type 0 where
  pub done : Done answer ↔ CanBeCovered t p
  pub covered : Done answer → IsCovered t p answer.out
  pub nothing : ¬ Done answer → answer.out ≡ []

-- by command
abbrev pub KeepsHeadlineOf : Seen → Command → Answer → Type 0
KeepsHeadlineOf w (Check fabric plan) answer = WithBoth w fabric plan ChecksTruly answer
KeepsHeadlineOf w (Route fabric engine) answer = WithFabric w fabric (RoutesTruly engine) answer
KeepsHeadlineOf w (Certify fabric plan) answer = WithBoth w fabric plan CertifiesTruly answer
KeepsHeadlineOf w (Convert fabric plan) answer = WithBoth w fabric plan ConvertsTruly answer
KeepsHeadlineOf w (Repair fabric plan failed lanes) answer = WithBoth w fabric plan (λ t p. WithoutFailed w t failed (RepairsTruly lanes p)) answer
KeepsHeadlineOf w (Cut fabric failed) answer = WithFabric w fabric (λ t. WithoutFailed w t failed WritesTruly) answer
KeepsHeadlineOf w (Show fabric plan from to) answer = WithBoth w fabric plan (ShowsTruly from.0 to.0) answer
KeepsHeadlineOf w (Load fabric plan) answer = WithBoth w fabric plan IsDone answer
KeepsHeadlineOf w (Gen recipe) answer = GeneratesTruly recipe answer
KeepsHeadlineOf w (Demo recipe engine) answer = ShowsOff engine (generated recipe) answer
KeepsHeadlineOf w (Transit fabric old new) answer = WithBoth w fabric old (λ t p. WithPlan w t new (TransitsTruly t p)) answer
KeepsHeadlineOf w (Drain fabric plan) answer = WithBoth w fabric plan DrainsTruly answer
KeepsHeadlineOf w (Mcast fabric groups) answer = WithFabric w fabric (λ t. WithGroups w t groups (PlantsTruly t)) answer
KeepsHeadlineOf w (Spread fabric groups group from) answer =
    WithFabric w fabric (λ t. WithGroups w t groups (λ listed. AfterMember group from.0 t listed (SpreadsTruly t listed))) answer
KeepsHeadlineOf w (Sweep what fabric plan lanes) answer = WithBoth w fabric plan (SweepsTruly what lanes) answer
KeepsHeadlineOf w (Export of_part fabric plan) answer = WithBoth w fabric plan (ExportsTruly of_part) answer
KeepsHeadlineOf w (Replies fabric plan) answer = WithBoth w fabric plan RepliesTruly answer

abbrev pub KeepsHeadline : Seen → Answer → Type 0
KeepsHeadline w answer = MatchOption (command_of w.words) (Unit {0}) (λ command. KeepsHeadlineOf w command answer)
