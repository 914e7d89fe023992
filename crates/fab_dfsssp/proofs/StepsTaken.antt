-- The levels of the paths follow the steps, until no lane has a ring.
use Rattle.std.proofs.Common.{◌≡◌, ℕ, suc, ◌+◌, ◌<◌, List, refl}
use Rattle.fab_model.specs.Topology.{Topology}
use Rattle.fab_tables.specs.Entries.{Entries}
use Rattle.fab_tables.specs.Fit.{LanesFit}
use Rattle.fab_tables.specs.LaneTables.{LaneTables, HasLanePerLevel}
use Rattle.fab_dfsssp.specs.Assigned.{IsAssigned}
use Rattle.fab_dfsssp.specs.Assignments.{paths_over, moved}
use Rattle.fab_dfsssp.specs.Breaking.{ring_edges, IsFirstLeast, IsRingToBreak, NeedsLane}
use Rattle.fab_dfsssp.specs.BrokenLanes.{AreBrokenLanes}
use Rattle.fab_dfsssp.specs.Moving.{MovesLevels}
use Rattle.fab_dfsssp.proofs.Ending.{AcyclicBelow, all_acyclic}
use Rattle.fab_dfsssp.proofs.LevelsMoved.{levels_moved}

module _ (t : Topology) (e : Entries) (count : ℕ) (old : LaneTables) (so_far : IsAssigned t e count old) where
  -- a ring of a lane that isn't the last one: the paths over its weakest edge move
  abbrev pub step_taken : (lane : ℕ) (ring : List ℕ) (edge : ℕ × ℕ) (new : LaneTables) → IsRingToBreak t e so_far.lane_of lane ring → lane + 1 < count →
      IsFirstLeast (λ other. paths_over t e so_far.lane_of lane other) (ring_edges ring) edge → MovesLevels t e lane edge old new → new.count ≡ count → LanesFit t new → HasLanePerLevel new → IsAssigned t e count new
  step_taken lane ring edge new found further weakest moves lane_count fits maps = record {
    steps = suc so_far.steps;
    lane_of = moved t e so_far.lane_of lane edge;
    after = (so_far.lane_of, so_far.after, record { lane = lane; ring = ring; edge = edge; found = found; further = further; weakest = weakest; moves = λ s lid. refl });
    lane_count = lane_count;
    fits = fits;
    maps = maps;
    levels = levels_moved t e so_far.lane_of lane edge old new so_far.levels moves;
  }

  -- a ring of the last lane
  pub last_ring : (lane : ℕ) (ring : List ℕ) → IsRingToBreak t e so_far.lane_of lane ring → lane + 1 ≡ count → NeedsLane t e count ring
  last_ring lane ring found last = record { steps = so_far.steps; lane_of = so_far.lane_of; lane = lane; after = so_far.after; found = found; last = last }

  -- no ring in any lane
  pub steps_ended : 0 < count → AcyclicBelow t e so_far.lane_of count → AreBrokenLanes t e count old
  steps_ended some below = record {
    lane_of = so_far.lane_of;
    broken = all_acyclic t e count so_far.steps so_far.lane_of some so_far.after below;
    lane_count = so_far.lane_count;
    fits = so_far.fits;
    maps = so_far.maps;
    levels = so_far.levels;
  }
