-- Laws of groups.
use Rattle.std.specs.Prelude.{◌≡◌, ℕ, List, All, Contains, ◌<◌, length, slice_get, Some, Ok}
use Rattle.fab_model.specs.Topology.{Topology}
use Rattle.fab_model.specs.WellFormed.{IsFabric}
use Rattle.fab_mcast.specs.GroupList.{Group, groups_in}
use Rattle.fab_mcast.specs.GroupTrees.{Planted, ArePlanted, entries_at, members_at}
use Rattle.fab_mcast.specs.Spreads.{IsSpread, ReachesMembers}

-- the groups that a text names have members in the fabric
abbrev pub ReadGroupsAreKnown : Type 0
ReadGroupsAreKnown = (t : Topology) (text : List ℕ) (groups : List Group) → IsFabric t → groups_in t text ≡ Ok groups →
    All (λ (g : Group). All (λ n. n < length t.terminals) g.members) groups

-- groups have one set of tables
abbrev pub OnePlanting : Type 0
OnePlanting = (t : Topology) (groups : List (List ℕ)) (x y : List Planted) → IsFabric t → ArePlanted t groups x → ArePlanted t groups y → x ≡ y

-- and they have one
abbrev pub PlantingExists : Type 0
PlantingExists = (t : Topology) (groups : List (List ℕ)) → IsFabric t → (tables : List Planted) × ArePlanted t groups tables

-- a member reaches all others that are connected to it, each once
abbrev pub PlantedReaches : Type 0
PlantedReaches = (t : Topology) (groups : List (List ℕ)) (tables : List Planted) (index : ℕ) (group : Planted) (from : ℕ) → IsFabric t → ArePlanted t groups tables →
    slice_get tables index ≡ Some group → All (λ n. n < length t.terminals) group.members → Contains group.members from →
    ReachesMembers t group.members group.ports from

-- and what is reached is one list
abbrev pub OneSpread : Type 0
OneSpread = (t : Topology) (ports : List (List ℕ)) (from : ℕ) (x y : List ℕ) → IsSpread t ports from x → IsSpread t ports from y → x ≡ y

-- there is one for each member of a group that has tables
abbrev pub SpreadExists : Type 0
SpreadExists = (t : Topology) (groups : List (List ℕ)) (tables : List Planted) (index from : ℕ) → IsFabric t → ArePlanted t groups tables →
    All (λ (g : Planted). All (λ n. n < length t.terminals) g.members) tables → Contains (members_at tables index) from →
    (found : List ℕ) × IsSpread t (entries_at tables index) from found
