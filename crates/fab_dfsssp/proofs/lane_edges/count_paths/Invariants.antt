use Rattle.std.proofs.Common.{◌≡◌, ◌+◌, ℕ, length}
use Rattle.fab_dfsssp.specs.Assignments.{count_below}
use Rattle.fab_dfsssp.specs.CountedEdges.{times_of, IsWhole}
use Rattle.fab_dfsssp.specs.LevelPaths.{is_level_over}
use Rattle.fab_dfsssp.proofs.lane_edges.count_paths.Given as goal

abbrev pub invariant-loop-s : goal.invariant-loop-s
invariant-loop-s l = record {
  whole : IsWhole l.edges;
  nodes : length l.edges.heads ≡ length l.initial.edges.heads;
  counts : (edge : ℕ × ℕ) → times_of l.edges edge ≡ times_of l.initial.edges edge + count_below l.s (is_level_over l.fabric l.tables l.lanes l.lane edge l.lid.0);
}
