-- How the edges, the order and the search of an arena belong to the list of its dependencies.
use Rattle.std.specs.Prelude.{◌≡◌, ℕ, ◌+◌, ◌≤◌, List, [], length, replicate}
use Rattle.std.specs.List.{fold}
use Rattle.fab_depgraph.specs.declared.dep.Dep.{Dep}
use Rattle.fab_depgraph.specs.Edges.{Row, EdgeRows, with_raised}
use Rattle.fab_depgraph.specs.Search.{Search}
use Rattle.fab_depgraph.specs.Listed.{AreDependencies}

-- the rows after the dependencies of a list were added one after the other
abbrev pub rows_of : ℕ → List Dep → List Row
rows_of channels listed = fold (λ rows d. with_raised rows d.first.0 d.second.0) (replicate channels []) listed

-- what the type `DepGraph` keeps among its fields; so many dependencies fit into its trail
pub record IsArena (edges : EdgeRows) (numbers : List ℕ) (search : Search) (listed : List Dep) (spare capacity : ℕ) : Type 0 where
  pub dependencies : AreDependencies (record { channels = length numbers; listed = listed; spare = spare; numbers = numbers })
  pub rows : edges.rows ≡ rows_of (length numbers) listed
  pub marks : length search.marks ≡ length numbers
  pub edge_room : length listed + spare ≤ edges.capacity
  pub trail_room : length listed + spare ≤ capacity
