-- Laws of recipes and loads.
use Rattle.std.specs.Prelude.{ℕ, ◌<◌, ◌≤◌, ◌^◌, IsTrue}
use Rattle.fab_model.specs.Topology.{Topology, HasNoOwnCable}
use Rattle.fab_model.specs.WellFormed.{IsFabric}
use Rattle.fab_tables.specs.Entries.{Entries}
use Rattle.fab_report.specs.declared.recipe.Recipe.{Recipe}
use Rattle.fab_report.specs.Recipes.{fits, generated}
use Rattle.fab_report.specs.Loads.{load_of}
use Rattle.fab_report.specs.Summary.{hops_in_all}

-- the seed of a recipe is in the range of its type
abbrev pub HasSeed : Recipe → Type 0
HasSeed r = r.seed < 2 ^ 64

-- the fabric of a recipe that fits is well-formed
abbrev pub GeneratedIsFabric : Type 0
GeneratedIsFabric = (r : Recipe) → IsTrue (fits r) → HasSeed r → IsFabric (generated r)

-- and no cable of it leads from a switch to itself
abbrev pub GeneratedHasNoOwnCable : Type 0
GeneratedHasNoOwnCable = (r : Recipe) → IsTrue (fits r) → HasNoOwnCable (generated r)

-- a channel's load is at most as many as there may be terminals, times as many as there may be LIDs
abbrev pub LoadIsSmall : Type 0
LoadIsSmall = (t : Topology) (e : Entries) (channel : ℕ) → IsFabric t → load_of t e channel ≤ 2 ^ 28

-- the hops of all routes are few enough for a u64
abbrev pub HopsAreFew : Type 0
HopsAreFew = (t : Topology) (e : Entries) → IsFabric t → hops_in_all t e ≤ 2 ^ 36
