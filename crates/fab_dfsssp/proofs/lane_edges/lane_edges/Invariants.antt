use Rattle.std.proofs.Common.{◌≡◌, ◌*◌, ◌≤◌, ℕ, length, take}
use Rattle.std.specs.Prelude.{sum_by}
use Rattle.fab_model.specs.Topology.{lids_of}
use Rattle.fab_dfsssp.specs.CountedEdges.{times_of, IsWhole}
use Rattle.fab_dfsssp.specs.LevelPaths.{level_paths_to}
use Rattle.fab_dfsssp.proofs.lane_edges.lane_edges.Given as goal

abbrev pub invariant-loop-lid : goal.invariant-loop-lid
invariant-loop-lid l = record {
  whole : IsWhole l.edges;
  nodes : length l.edges.heads ≡ length l.fabric.channels;
  counts : (edge : ℕ × ℕ) → times_of l.edges edge ≡ sum_by (λ lid. level_paths_to l.fabric l.tables l.lanes l.lane edge lid) (take l.lid-index (lids_of l.fabric));
  few : (edge : ℕ × ℕ) → times_of l.edges edge ≤ l.lid-index * 2048;
}
