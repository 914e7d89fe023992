-- The dependencies of a pair of switches, as a list.
use Rattle.std.specs.Prelude.{ℕ, List, [], ◌∷◌, ◌++◌}
use Rattle.fab_model.specs.Topology.{Topology}
use Rattle.fab_tables.specs.Entries.{Entries}
use Rattle.fab_tables.specs.Route.{route}
use Rattle.fab_depgraph.specs.declared.dep.Dep.{Dep}
use Rattle.fab_depgraph.specs.Listed.{dep_of}
use Rattle.fab_lash.specs.Pairs.{own_lid}

-- the channels that follow each other, in their order
abbrev pub followers : List ℕ → List Dep
followers [] = []
followers (c ∷ []) = []
followers (c ∷ d ∷ rest) = dep_of c d ∷ followers (d ∷ rest)

-- those on the route from the one switch to the other
abbrev pub followers_between : Topology → Entries → ℕ → ℕ → List Dep
followers_between t e from to = followers (route t e from (own_lid t to)).channels

-- those on the routes both ways
abbrev pub pair_dependencies : Topology → Entries → ℕ → ℕ → List Dep
pair_dependencies t e low high = followers_between t e low high ++ followers_between t e high low
