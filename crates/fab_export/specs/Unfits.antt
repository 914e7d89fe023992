-- Why a plan is not exported: the first row of a table that holds.
use Rattle.std.specs.Prelude.{◌≡◌, ℕ, min, ◌==◌, nat_lt, nat_le, Bool, true, false, ◌&&◌, not, [], ◌∷◌, length, map, find, Option, Some, None, option_map, option_and_then, slice_get, Result, Ok, Err, if◌then◌else◌}
use Rattle.std.specs.Bool.{then_some}
use Rattle.std.specs.List.{list_all, list_any, range_with_len}
use Rattle.fab_text.specs.Readings.{Unless}
use Rattle.fab_model.specs.Faults.{first_of}
use Rattle.fab_model.specs.Topology.{Topology, lids_of, switch_id, lid_id}
use Rattle.fab_tables.specs.declared.plan.Plan.{Plan}
use Rattle.fab_tables.specs.declared.verdict.Verdict.{Verdict}
use Rattle.fab_tables.specs.declared.verdict.Verdict.TheVariants.{Routes, Lanes}
use Rattle.fab_tables.specs.declared.lanes.PairRow.{PairRow}
use Rattle.fab_tables.specs.Entries.{Entries}
use Rattle.fab_tables.specs.LaneTables.{LaneTables, lane}
use Rattle.fab_tables.specs.Route.{route}
use Rattle.fab_tables.specs.Verdicts.{IsVerdict}
use Rattle.fab_export.specs.declared.part.Part.{Part}
use Rattle.fab_export.specs.declared.part.Part.TheVariants as part
use Rattle.fab_export.specs.declared.fault.Unfit.{Unfit}
use Rattle.fab_export.specs.declared.fault.Unfit.TheVariants as unfit
use Rattle.fab_export.specs.PortGuids.{port_guid}
use Rattle.fab_export.specs.Reached.{is_reached}
use Rattle.fab_export.specs.LevelsInUse.{sources, all_levels, is_in_use}

-- ---- the check

abbrev pub refused : Verdict → Option Unfit
refused Routes = None
refused Lanes = None
refused fault = Some (unfit.Refused fault)

-- ---- port GUIDs

-- the least LID at which a test passes
abbrev pub least_lid : Topology → (ℕ → Bool) → Option ℕ
least_lid t test = find test (lids_of t)

-- a lesser LID has this LID's port GUID
abbrev pub repeats_port_guid : Topology → ℕ → Bool
repeats_port_guid t lid = list_any (λ other. nat_lt other lid && port_guid t other == port_guid t lid) (lids_of t)

abbrev pub port_guid_fault : Topology → ℕ → Option Unfit
port_guid_fault t lid =
    if port_guid t lid == 0 then Some (unfit.NoPortGuid (lid_id lid)) else
    then_some (repeats_port_guid t lid) (unfit.TwicePortGuid (lid_id lid) (port_guid t lid))

abbrev pub bad_port_guid : Topology → Option Unfit
bad_port_guid t = first_of (map (port_guid_fault t) (lids_of t))

-- ---- routes

-- the greatest number of switches on a route
abbrev pub greatest_passed : ℕ
greatest_passed = 64

-- a route passes its first switch and the tip of each of its channels
abbrev pub is_too_far : Topology → Entries → ℕ → ℕ → Bool
is_too_far t e lid s = is_reached t e s lid && nat_le greatest_passed (length (route t e s lid).channels)

abbrev pub too_far_from : Topology → Entries → ℕ → Option Unfit
too_far_from t e lid = option_map (λ s. unfit.TooFar (lid_id lid) (switch_id s)) (find (is_too_far t e lid) (sources t))

abbrev pub too_far : Topology → Entries → Option Unfit
too_far t e = first_of (map (too_far_from t e) (lids_of t))

-- ---- maps

-- the first pair of ports that has a map
abbrev pub own_map : LaneTables → Option Unfit
own_map l = option_map (λ (row : PairRow). unfit.PairMap row.switch row.from_port row.to_port) (slice_get l.pairs 0)

-- the first switch whose general map isn't that of the first switch
abbrev pub has_first_map : LaneTables → ℕ → Bool
has_first_map l s = list_all (λ of_level. lane l s of_level == lane l 0 of_level) all_levels

abbrev pub other_map : Topology → LaneTables → Option Unfit
other_map t l = option_map (λ s. unfit.MapDiffers (switch_id s)) (find (λ s. not (has_first_map l s)) (range_with_len 0 (length t.switches)))

-- ---- levels

-- lanes are written below the plan's lane count, and at most 8
abbrev pub lane_bound : LaneTables → ℕ
lane_bound l = min l.count 8

abbrev pub has_high_lane : Topology → Entries → LaneTables → ℕ → Bool
has_high_lane t e l of_level = is_in_use t e l of_level && nat_le (lane_bound l) (lane l 0 of_level)

abbrev pub high_lane : Topology → Entries → LaneTables → Option Unfit
high_lane t e l = option_map (λ of_level. unfit.HighLane of_level (lane l 0 of_level) (lane_bound l)) (find (has_high_lane t e l) all_levels)

abbrev pub no_level_0 : Topology → Entries → LaneTables → Option Unfit
no_level_0 t e l = then_some (not (is_in_use t e l 0)) unfit.NoLevelZero

abbrev pub no_spare : Topology → Entries → LaneTables → Option Unfit
no_spare t e l = then_some (list_all (is_in_use t e l) all_levels) unfit.NoSpareLevel

-- the rows of maps and levels
abbrev pub lanes_unfit : Topology → Entries → LaneTables → Option Unfit
lanes_unfit t e l = first_of (own_map l ∷ other_map t l ∷ high_lane t e l ∷ no_level_0 t e l ∷ no_spare t e l ∷ [])

-- there are no levels to write
abbrev pub no_lanes : Part → Option LaneTables → Option Unfit
no_lanes part.Levels None = Some unfit.NoLanes
no_lanes _ _ = None

-- ---- the rows in their order

unfoldable pub unfit_after : Verdict → Topology → Plan → Part → Option Unfit
unfit_after verdict t p of_part = first_of (
    refused verdict
    ∷ bad_port_guid t
    ∷ too_far t p.tables
    ∷ option_and_then own_map p.lanes
    ∷ option_and_then (other_map t) p.lanes
    ∷ option_and_then (high_lane t p.tables) p.lanes
    ∷ option_and_then (no_level_0 t p.tables) p.lanes
    ∷ option_and_then (no_spare t p.tables) p.lanes
    ∷ no_lanes of_part p.lanes
    ∷ [])

-- the first row that holds for the plan and the part, or that none does
abbrev pub IsFirstUnfit : Topology → Plan → Part → Option Unfit → Type 0
IsFirstUnfit t p of_part found = (verdict : Verdict) × IsVerdict t p.tables p.lanes verdict × (found ≡ unfit_after verdict t p of_part)

-- the part may be written: no row holds
abbrev pub IsFit : Topology → Plan → Part → Type 0
IsFit t p of_part = IsFirstUnfit t p of_part None

-- whether the fault is want of memory
abbrev pub wants_memory : Unfit → Bool
wants_memory (unfit.Memory refused) = true
wants_memory other = false

-- a search answers that no row holds or the first that does, want of memory aside
abbrev pub FindsUnfit : Topology → Plan → Part → Result (Unit {0}) Unfit → Type 0
FindsUnfit t p of_part (Ok none) = IsFit t p of_part
FindsUnfit t p of_part (Err fault) = Unless (wants_memory fault) (IsFirstUnfit t p of_part (Some fault))
