-- What becomes of an arena when dependencies are tried in it.
use Rattle.std.specs.Prelude.{◌≡◌, ℕ, List, take}
use Rattle.fab_graph.specs.Walks.{HasClosedWalk, IsAcyclic}
use Rattle.fab_depgraph.specs.declared.dep.Dep.{Dep}
use Rattle.fab_depgraph.specs.Listed.{Dependencies, IsListed}
use Rattle.fab_lash.specs.Adding.{with_deps}

-- all of them are there, and no walk is closed
abbrev pub TakesAll : Dependencies → Dependencies → List Dep → Type 0
TakesAll old new deps = (new.listed ≡ with_deps old.listed deps) × IsAcyclic (IsListed new.listed)

-- some of them close a walk, and none was added
abbrev pub TakesNone : Dependencies → Dependencies → List Dep → Type 0
TakesNone old new deps = (new.listed ≡ old.listed) × ((n : ℕ) × HasClosedWalk (IsListed (with_deps old.listed (take n deps))))
