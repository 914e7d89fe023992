-- Lanes with the engines' maps whose levels are those of the assignment after some steps.
use Rattle.std.specs.Prelude.{◌≡◌, ℕ, ◌<◌}
use Rattle.fab_model.specs.Topology.{Topology}
use Rattle.fab_tables.specs.Entries.{Entries}
use Rattle.fab_tables.specs.Fit.{LanesFit}
use Rattle.fab_tables.specs.LaneTables.{LaneTables, HasLanePerLevel}
use Rattle.fab_certify.specs.EnginePlans.{HasLevels}
use Rattle.fab_graph.specs.Walks.{IsAcyclic}
use Rattle.fab_dfsssp.specs.Assignments.{IsEdgeOfLane}
use Rattle.fab_dfsssp.specs.Breaking.{IsAfter, NeedsLane}
use Rattle.fab_dfsssp.specs.declared.breaking.BreakFault.{BreakFault}
use Rattle.fab_dfsssp.specs.declared.breaking.BreakFault.TheVariants as variants

pub record IsAssigned (t : Topology) (e : Entries) (count : ℕ) (l : LaneTables) : Type 0 where
  pub steps : ℕ
  pub lane_of : ℕ → ℕ → ℕ
  pub after : IsAfter t e count steps lane_of
  pub lane_count : l.count ≡ count
  pub fits : LanesFit t l
  pub maps : HasLanePerLevel l
  pub levels : HasLevels t l (λ s lid n. n ≡ lane_of s lid)

-- the lanes with which the steps begin: all paths are on lane 0
pub record AreFirstLanes (t : Topology) (count : ℕ) (l : LaneTables) : Type 0 where
  pub lane_count : l.count ≡ count
  pub fits : LanesFit t l
  pub maps : HasLanePerLevel l
  pub levels : HasLevels t l (λ s lid n. n ≡ 0)

-- the assignment after some steps has no ring in the lanes below one
pub record IsBrokenBelow (t : Topology) (e : Entries) (count lane : ℕ) (l : LaneTables) : Type 0 where
  pub assigned : IsAssigned t e count l
  pub acyclic : (other : ℕ) → other < lane → IsAcyclic (λ (c d : ℕ). IsEdgeOfLane t e assigned.lane_of other c d)

-- the steps end at a ring of the last lane, or memory does
abbrev pub EndsAtRing : Topology → Entries → ℕ → BreakFault → Type 0
EndsAtRing t e count (variants.NeedsLane ring) = NeedsLane t e count ring
EndsAtRing t e count (variants.Memory refused) = Unit {0}
