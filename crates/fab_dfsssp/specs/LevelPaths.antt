-- How many paths contain an edge, where the levels of the paths say on which lane they are.
use Rattle.std.specs.Prelude.{ℕ, ◌&&◌, Bool, Some, length, sum_by, nat_eq}
use Rattle.std.specs.Option.{option_eq}
use Rattle.fab_model.specs.Topology.{Topology, lids_of}
use Rattle.fab_tables.specs.Entries.{Entries}
use Rattle.fab_tables.specs.LaneTables.{LaneTables, level}
use Rattle.fab_tables.specs.Route.{route}
use Rattle.fab_dfsssp.specs.Assignments.{contains_edge, count_below}

abbrev pub is_level_over : Topology → Entries → LaneTables → ℕ → ℕ × ℕ → ℕ → ℕ → Bool
is_level_over t e l lane edge lid s = option_eq nat_eq (level l s lid) (Some lane) && contains_edge edge (route t e s lid).channels

abbrev pub level_paths_to : Topology → Entries → LaneTables → ℕ → ℕ × ℕ → ℕ → ℕ
level_paths_to t e l lane edge lid = count_below (length t.switches) (is_level_over t e l lane edge lid)

abbrev pub level_paths_over : Topology → Entries → LaneTables → ℕ → ℕ × ℕ → ℕ
level_paths_over t e l lane edge = sum_by (λ lid. level_paths_to t e l lane edge lid) (lids_of t)
