-- Laws of the definitions.
use Rattle.std.specs.Prelude.{◌≡◌, ℕ, ◌<◌, ◌==◌, ◌&&◌, List, [], length, if◌then◌else◌, Option, Some, None, Contains, ◌↔◌, slice_index_or, ◌⊎◌}
use Rattle.fab_model.specs.declared.rows.TerminalRow.{TerminalRow}
use Rattle.fab_model.specs.Topology.{Topology}
use Rattle.fab_model.specs.WellFormed.{IsFabric}
use Rattle.fab_tables.specs.declared.end.End.TheVariants.{Loop}
use Rattle.fab_tables.specs.declared.lanes.PairRow.{PairRow}
use Rattle.fab_tables.specs.declared.plan.Plan.{Plan}
use Rattle.fab_tables.specs.declared.verdict.Verdict.{Verdict}
use Rattle.fab_tables.specs.declared.verdict.Verdict.TheVariants.{Routes, Lanes}
use Rattle.fab_tables.specs.declared.verdict.VirtualChannel.{VirtualChannel}
use Rattle.fab_tables.specs.Entries.{Entries, AreEntries, entry, with_entry}
use Rattle.fab_tables.specs.LaneTables.{LaneTables, AreLaneTables, level, lane, lane_at, number, with_level, with_lane, with_number, with_pair}
use Rattle.fab_tables.specs.Route.{route, visited, HasRepeat}
use Rattle.fab_tables.specs.VirtualChannels.{virtual_channels}
use Rattle.fab_tables.specs.Dependencies.{IsUsed, Depends}
use Rattle.fab_tables.specs.Certified.{Reaches, HasRisingNumbers, IsCertified}
use Rattle.fab_tables.specs.Verdicts.{IsFaultAt, IsVerdict, IsStructural, IsRefusal}
use Rattle.fab_tables.specs.Deadlock.{Packet, IsDeadlocked}
use Rattle.fab_tables.specs.Plain.{plain_channels, IsPlainlyUsed, DependsPlainly, RisesPlainly}
use Rattle.fab_tables.specs.PlainVerdicts.{IsPlainVerdict, IsPlainRefusal}

-- a set changes one entry and no other
abbrev pub OneEntryChanges : Type 0
OneEntryChanges = (e : Entries) (s lid port other other_lid : ℕ) → AreEntries e → s < e.switches → Contains e.in_use lid →
    entry (with_entry e s lid port) other other_lid ≡ (if (other == s) && (other_lid == lid) then port else entry e other other_lid)

-- and likewise a level, a lane of the general map, a number and a pair's map
abbrev pub OneLevelChanges : Type 0
OneLevelChanges = (l : LaneTables) (s lid other other_lid : ℕ) (new : Option ℕ) → AreLaneTables l → s < l.switches → Contains l.in_use lid →
    level (with_level l s lid new) other other_lid ≡ (if (other == s) && (other_lid == lid) then new else level l other other_lid)

abbrev pub OneLaneChanges : Type 0
OneLaneChanges = (l : LaneTables) (s of_level new other other_level : ℕ) → AreLaneTables l → s < l.switches → of_level < 16 → other_level < 16 →
    lane (with_lane l s of_level new) other other_level ≡ (if (other == s) && (other_level == of_level) then new else lane l other other_level)

abbrev pub OneNumberChanges : Type 0
OneNumberChanges = (l : LaneTables) (c on_lane new other other_lane : ℕ) → AreLaneTables l → c < l.channels → on_lane < 15 →
    number (with_number l c on_lane new) other other_lane ≡ (if (other == c) && (other_lane == on_lane) then new else number l other other_lane)

abbrev pub OnePairChanges : Type 0
OnePairChanges = (l : LaneTables) (row : PairRow) (s from to of_level : ℕ) → row.from_port < 256 → row.to_port < 256 → from < 256 → to < 256 →
    lane_at (with_pair l row) s from to of_level
    ≡ (if (s == row.switch.0) && ((from == row.from_port) && (to == row.to_port)) then slice_index_or row.map of_level 15 else lane_at l s from to of_level)

-- a route is a loop exactly where a switch repeats
abbrev pub LoopRepeats : Type 0
LoopRepeats = (t : Topology) (e : Entries) (s lid : ℕ) → IsFabric t → s < length t.switches →
    ((route t e s lid).end ≡ Loop) ↔ HasRepeat (visited t s ((route t e s lid).channels))

-- and then it has as many channels as there are switches
abbrev pub LoopIsLong : Type 0
LoopIsLong = (t : Topology) (e : Entries) (s lid : ℕ) → (route t e s lid).end ≡ Loop → length ((route t e s lid).channels) ≡ length t.switches

-- a plan has a verdict
abbrev pub VerdictExists : Type 0
VerdictExists = (t : Topology) (e : Entries) (l : Option LaneTables) → IsFabric t → (v : Verdict) × IsVerdict t e l v

-- and one only
abbrev pub OneVerdict : Type 0
OneVerdict = (t : Topology) (e : Entries) (l : Option LaneTables) (v w : Verdict) → IsVerdict t e l v → IsVerdict t e l w → v ≡ w

-- with lanes it has a refusal, or all its faults are of numbers
abbrev pub RefusalOrNone : Type 0
RefusalOrNone = (t : Topology) (e : Entries) (l : LaneTables) → IsFabric t →
    ((v : Verdict) × IsRefusal t e l v) ⊎ ((place : List ℕ) (fault : Verdict) → IsStructural fault → ¬ IsFaultAt t e (Some l) place fault)

-- and one refusal only
abbrev pub OneRefusal : Type 0
OneRefusal = (t : Topology) (e : Entries) (l : LaneTables) (v w : Verdict) → IsRefusal t e l v → IsRefusal t e l w → v ≡ w

-- the verdict is Lanes exactly of certified plans
abbrev pub LanesIsCertified : Type 0
LanesIsCertified = (t : Topology) (p : Plan) → IsVerdict t p.tables p.lanes Lanes ↔ IsCertified t p

-- and Routes exactly of plans without lanes that reach
abbrev pub RoutesReaches : Type 0
RoutesReaches = (t : Topology) (p : Plan) → IsVerdict t p.tables p.lanes Routes ↔ ((p.lanes ≡ None) × Reaches t p.tables)

-- where numbers rise, no packets wait for each other
abbrev pub RisingIsFreeOfDeadlock : Type 0
RisingIsFreeOfDeadlock = (t : Topology) (e : Entries) (l : LaneTables) (packets : List Packet) → HasRisingNumbers t e l → ¬ IsDeadlocked t e l packets

-- without pairs, what is said of terminals is what is said of sources
abbrev pub PlainAgrees : Type 0
PlainAgrees = (t : Topology) (e : Entries) (l : LaneTables) → l.pairs ≡ [] →
    ((p : TerminalRow) (lid : ℕ) → virtual_channels t e l p lid ≡ plain_channels t e l p.switch.0 lid)
    × ((v : VirtualChannel) → IsUsed t e l v ↔ IsPlainlyUsed t e l v)
    × ((v w : VirtualChannel) → Depends t e l v w ↔ DependsPlainly t e l v w)
    × (HasRisingNumbers t e l ↔ RisesPlainly t e l)

-- and so are the verdict and the refusal
abbrev pub PlainVerdictAgrees : Type 0
PlainVerdictAgrees = (t : Topology) (e : Entries) (l : LaneTables) (v : Verdict) → l.pairs ≡ [] →
    (IsVerdict t e (Some l) v ↔ IsPlainVerdict t e (Some l) v) × (IsRefusal t e l v ↔ IsPlainRefusal t e l v)
