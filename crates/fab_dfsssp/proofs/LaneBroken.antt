-- A turn in a lane: its first ring is broken, or it has none, or the lane is the last one.
use Rattle.std.proofs.Common.{◌≡◌, ℕ, ◌+◌, ◌<◌, List, ◌∙◌, Option, Some, None}
use Rattle.std.specs.Prelude.{MatchOption}
use Rattle.fab_graph.specs.Walks.{SameGraph, IsAcyclic}
use Rattle.fab_graph.specs.Rings.{IsFirstRing}
use Rattle.fab_graph.proofs.Same.{same_acyclic, same_first_ring}
use Rattle.fab_model.specs.Topology.{Topology}
use Rattle.fab_model.specs.WellFormed.{IsWellFormed}
use Rattle.fab_tables.specs.Entries.{Entries}
use Rattle.fab_tables.specs.Fit.{LanesFit}
use Rattle.fab_tables.specs.FixedEntries.{HasFixedEntries}
use Rattle.fab_tables.specs.LaneTables.{LaneTables, HasLanePerLevel}
use Rattle.fab_dfsssp.specs.Assigned.{IsAssigned, IsBrokenBelow}
use Rattle.fab_dfsssp.specs.Assignments.{paths_over}
use Rattle.fab_dfsssp.specs.Breaking.{ring_edges, IsFirstLeast, IsRingToBreak, NeedsLane}
use Rattle.fab_dfsssp.specs.LaneEdges.{IsEdgeAtLevel}
use Rattle.fab_dfsssp.specs.LevelPaths.{level_paths_over}
use Rattle.fab_dfsssp.specs.Moving.{MovesLevels}
use Rattle.fab_dfsssp.proofs.Ending.{below_next, ring_found}
use Rattle.fab_dfsssp.proofs.Falling.{edge_there, below_stay_acyclic}
use Rattle.fab_dfsssp.proofs.LevelEdges.{level_edges}
use Rattle.fab_dfsssp.proofs.LevelsLeft.{levels_left, levels_fall}
use Rattle.fab_dfsssp.proofs.PathCounts.{paths_by_level, least_by}
use Rattle.fab_dfsssp.proofs.StepsTaken.{step_taken, last_ring}

pub same_rings : (R S : ℕ → ℕ → Type 0) → SameGraph R S → (ring : Option (List ℕ)) → MatchOption ring (IsAcyclic R) (λ nodes. IsFirstRing R nodes) → MatchOption ring (IsAcyclic S) (λ nodes. IsFirstRing S nodes)
same_rings R S same None x = same_acyclic R S same x
same_rings R S same (Some nodes) x = same_first_ring R S same nodes x

module _ (t : Topology) (e : Entries) (count lane : ℕ) (old : LaneTables) (so_far : IsBrokenBelow t e count lane old) where
  ring_here : (ring : List ℕ) → IsFirstRing (IsEdgeAtLevel t e old lane) ring → IsRingToBreak t e so_far.assigned.lane_of lane ring
  ring_here ring first =
      ring_found t e so_far.assigned.lane_of lane ring (IsEdgeAtLevel t e old lane) (level_edges t e old so_far.assigned.lane_of so_far.assigned.levels lane) first so_far.acyclic

  pub lane_refused : (ring : List ℕ) → IsFirstRing (IsEdgeAtLevel t e old lane) ring → lane + 1 ≡ count → NeedsLane t e count ring
  lane_refused ring first last = last_ring t e count old so_far.assigned lane ring (ring_here ring first) last

  pub lane_ended : IsAcyclic (IsEdgeAtLevel t e old lane) → IsBrokenBelow t e count (lane + 1) old
  lane_ended acyclic = record {
    assigned = so_far.assigned;
    acyclic = below_next t e so_far.assigned.lane_of lane (IsEdgeAtLevel t e old lane) (level_edges t e old so_far.assigned.lane_of so_far.assigned.levels lane) acyclic so_far.acyclic;
  }

  module _ (fixed : HasFixedEntries t e) (ring : List ℕ) (edge : ℕ × ℕ) (new : LaneTables) (first : IsFirstRing (IsEdgeAtLevel t e old lane) ring) (further : lane + 1 < count)
      (weakest : IsFirstLeast (λ other. level_paths_over t e old lane other) (ring_edges ring) edge) (moves : MovesLevels t e lane edge old new) (same : new.count ≡ old.count) (fits : LanesFit t new) (maps : HasLanePerLevel new) where
    weakest_by_lane : IsFirstLeast (λ other. paths_over t e so_far.assigned.lane_of lane other) (ring_edges ring) edge
    weakest_by_lane =
        least_by (λ other. level_paths_over t e old lane other) (λ other. paths_over t e so_far.assigned.lane_of lane other) (ring_edges ring) edge
        (λ other. paths_by_level t e fixed old so_far.assigned.lane_of so_far.assigned.levels lane other) weakest

    abbrev after_step : IsAssigned t e count new
    after_step = step_taken t e count old so_far.assigned lane ring edge new (ring_here ring first) further weakest_by_lane moves (same ∙ so_far.assigned.lane_count) fits maps

    pub ring_broken : IsBrokenBelow t e count lane new
    ring_broken = record { assigned = after_step; acyclic = below_stay_acyclic t e count so_far.assigned.lane_of after_step.lane_of after_step.after.2 }

    pub lanes_left_fall : IsWellFormed t → levels_left t count new < levels_left t count old
    lanes_left_fall good =
        levels_fall t e count lane edge old new moves good so_far.assigned.lane_of so_far.assigned.levels further (edge_there t e count so_far.assigned.lane_of after_step.lane_of after_step.after.2)
