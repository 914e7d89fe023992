-- A ring that the counts of a lane's edges show is broken, or refused in the last lane.
use Rattle.std.proofs.Common.{◌≡◌, ℕ, ◌+◌, ◌<◌, List}
use Rattle.fab_graph.specs.Rings.{IsFirstRing}
use Rattle.fab_graph.proofs.Same.{same_first_ring}
use Rattle.fab_model.specs.Topology.{Topology}
use Rattle.fab_model.specs.WellFormed.{IsWellFormed}
use Rattle.fab_tables.specs.Entries.{Entries}
use Rattle.fab_tables.specs.Fit.{LanesFit}
use Rattle.fab_tables.specs.FixedEntries.{HasFixedEntries}
use Rattle.fab_tables.specs.LaneTables.{LaneTables, HasLanePerLevel}
use Rattle.fab_dfsssp.specs.declared.counted_edges.CountedEdges.{CountedEdges}
use Rattle.fab_dfsssp.specs.Assigned.{IsBrokenBelow}
use Rattle.fab_dfsssp.specs.Breaking.{ring_edges, IsFirstLeast, NeedsLane}
use Rattle.fab_dfsssp.specs.CountedEdges.{IsCounted, times_of}
use Rattle.fab_dfsssp.specs.LaneCounts.{CountsLane}
use Rattle.fab_dfsssp.specs.LaneEdges.{IsEdgeAtLevel}
use Rattle.fab_dfsssp.specs.LevelPaths.{level_paths_over}
use Rattle.fab_dfsssp.specs.Moving.{MovesLevels}
use Rattle.fab_dfsssp.proofs.CountedLanes.{counted_edges}
use Rattle.fab_dfsssp.proofs.LaneBroken.{lane_refused, ring_broken, lanes_left_fall}
use Rattle.fab_dfsssp.proofs.LevelsLeft.{levels_left}
use Rattle.fab_dfsssp.proofs.PathCounts.{least_by}

module _ (t : Topology) (e : Entries) (count lane : ℕ) (old : LaneTables) (so_far : IsBrokenBelow t e count lane old) (edges : CountedEdges) (counts : CountsLane t e old lane edges) (ring : List ℕ)
    (first : IsFirstRing (λ b c. IsCounted edges b c) ring) where
  at_level : IsFirstRing (IsEdgeAtLevel t e old lane) ring
  at_level = same_first_ring (λ (b c : ℕ). IsCounted edges b c) (IsEdgeAtLevel t e old lane) (counted_edges t e old lane edges counts so_far.assigned.fits) ring first

  pub counted_refused : lane + 1 ≡ count → NeedsLane t e count ring
  counted_refused last = lane_refused t e count lane old so_far ring at_level last

  module _ (fixed : HasFixedEntries t e) (edge : ℕ × ℕ) (new : LaneTables) (further : lane + 1 < count) (weakest : IsFirstLeast (λ other. times_of edges other) (ring_edges ring) edge)
      (moves : MovesLevels t e lane edge old new) (same : new.count ≡ old.count) (fits : LanesFit t new) (maps : HasLanePerLevel new) where
    weakest_by_level : IsFirstLeast (λ other. level_paths_over t e old lane other) (ring_edges ring) edge
    weakest_by_level = least_by (λ other. times_of edges other) (λ other. level_paths_over t e old lane other) (ring_edges ring) edge counts.counts weakest

    pub counted_broken : IsBrokenBelow t e count lane new
    counted_broken = ring_broken t e count lane old so_far fixed ring edge new at_level further weakest_by_level moves same fits maps

    pub counted_fall : IsWellFormed t → levels_left t count new < levels_left t count old
    counted_fall good = lanes_left_fall t e count lane old so_far fixed ring edge new at_level further weakest_by_level moves same fits maps good
