-- The row of a failure: what a repair of the plan loses, keeps and changes.
use Rattle.std.specs.Prelude.{◌≡◌, ◌↔◌, ◌<◌, ℕ, Bool, true, false, not, ◌&&◌, ◌==◌, List, length, count_by, sum_by, Option, Some, None, IsTrue, slice_get}
use Rattle.std.specs.List.{range_with_len}
use Rattle.fab_model.specs.declared.rows.Place.{Place}
use Rattle.fab_model.specs.Topology.{Topology, lids_of, place_of, is_source}
use Rattle.fab_model.specs.Connected.{AreConnected}
use Rattle.fab_model.specs.Without.{without_cables}
use Rattle.fab_tables.specs.declared.plan.Plan.{Plan}
use Rattle.fab_tables.specs.Entries.{Entries, entry}
use Rattle.fab_tables.specs.LaneTables.{LaneTables}
use Rattle.fab_tables.specs.Certified.{IsCertified}
use Rattle.fab_nue.specs.Kept.{old_level}
use Rattle.fab_nue.specs.NuePlan.{IsNuePlan}
use Rattle.fab_sweep.specs.declared.rows.SweepRow.{SweepRow}
use Rattle.fab_sweep.specs.declared.Failing.{Failing}
use Rattle.fab_sweep.specs.Failures.{Failure, failures}

-- the test tells whether two switches are connected
abbrev pub TellsConnected : Topology → (ℕ → ℕ → Bool) → Type 0
TellsConnected t joined =
    (from to : ℕ) → from < length t.switches → to < length t.switches → IsTrue (joined from to) ↔ AreConnected t from to

-- and so whether a switch is connected to a LID
abbrev pub to_place : (ℕ → ℕ → Bool) → ℕ → Option Place → Bool
to_place joined s None = false
to_place joined s (Some place) = joined s place.switch.0

abbrev pub to_lid : Topology → (ℕ → ℕ → Bool) → ℕ → ℕ → Bool
to_lid t joined s lid = to_place joined s (place_of t lid)

-- ---- pairs of a switch and a LID

-- connected before and not after
abbrev pub is_lost : Topology → (ℕ → ℕ → Bool) → (ℕ → ℕ → Bool) → ℕ → ℕ → Bool
is_lost t before after s lid = to_lid t before s lid && not (to_lid t after s lid)

-- the entries differ
abbrev pub is_changed : Entries → Entries → ℕ → ℕ → Bool
is_changed old new s lid = not (entry old s lid == entry new s lid)

abbrev pub same_level : Option ℕ → Option ℕ → Bool
same_level None None = true
same_level (Some n) (Some m) = n == m
same_level _ _ = false

-- of a source and a LID connected to it afterwards the levels differ; an old plan without lanes has level 0
abbrev pub is_moved : Topology → (ℕ → ℕ → Bool) → Option LaneTables → Option LaneTables → ℕ → ℕ → Bool
is_moved t after old new s lid = is_source t s && to_lid t after s lid && not (same_level (old_level old s lid) (old_level new s lid))

-- ---- their numbers

-- how many of the first switches pass a test for a LID, and how many of all
abbrev pub count_below : (ℕ → ℕ → Bool) → ℕ → ℕ → ℕ
count_below test lid n = count_by (λ s. test s lid) (range_with_len 0 n)

abbrev pub count_to : Topology → (ℕ → ℕ → Bool) → ℕ → ℕ
count_to t test lid = count_below test lid (length t.switches)

-- how many pairs pass it
abbrev pub pairs_with : Topology → (ℕ → ℕ → Bool) → ℕ
pairs_with t test = sum_by (λ lid. count_to t test lid) (lids_of t)

-- ---- rows

-- the fabric without the cables that fail
abbrev pub after_failure : Topology → Failure → Topology
after_failure t failure = without_cables t failure.cables

-- the row of a failure
pub record IsSweepRow (t : Topology) (plan : Plan) (lanes : ℕ) (failure : Failure) (row : SweepRow) : Type 0 where
  pub kept : List ℕ
  pub repaired : Plan
  pub repair : IsNuePlan (after_failure t failure) lanes (Some plan) kept repaired
  pub before : ℕ → ℕ → Bool
  pub tells_before : TellsConnected t before
  pub after : ℕ → ℕ → Bool
  pub tells_after : TellsConnected (after_failure t failure) after
  pub is_row : row ≡ record {
    switch = record { 0 = failure.switch };
    port = failure.port;
    lost = pairs_with t (is_lost t before after);
    kept = length kept;
    changed = pairs_with t (is_changed plan.tables repaired.tables);
    moved = pairs_with t (is_moved t after plan.lanes repaired.lanes);
  }

-- a row for each of these failures, in their order
pub record AreRowsOf (t : Topology) (plan : Plan) (lanes : ℕ) (of : List Failure) (rows : List SweepRow) : Type 0 where
  pub each : length rows ≡ length of
  pub row : (n : ℕ) (failure : Failure) (row : SweepRow) → slice_get of n ≡ Some failure → slice_get rows n ≡ Some row → IsSweepRow t plan lanes failure row

abbrev pub AreSweepRows : Topology → Plan → ℕ → Failing → List SweepRow → Type 0
AreSweepRows t plan lanes what rows = AreRowsOf t plan lanes (failures t what) rows

-- the repaired plan of each failure is certified
abbrev pub AreRepairsCertified : Topology → Plan → ℕ → Failing → Type 0
AreRepairsCertified t plan lanes what =
    (n : ℕ) (failure : Failure) (kept : List ℕ) (repaired : Plan) → slice_get (failures t what) n ≡ Some failure →
    IsNuePlan (after_failure t failure) lanes (Some plan) kept repaired → IsCertified (after_failure t failure) repaired
