-- The old routes to a LID as a tree, and the part of it on which packets of a level go.
use Rattle.std.specs.Prelude.{◌≡◌, ℕ, ◌+◌, ◌<◌, ◌≤◌, ◌⊎◌, Bool, true, false, List, length, Contains, Option, Some, None, slice_get}
use Rattle.fab_graph.specs.Walks.{SameGraph, IsAcyclic}
use Rattle.fab_model.specs.Topology.{Topology}
use Rattle.fab_model.specs.Connected.{IsConnectedTo}
use Rattle.fab_tables.specs.declared.end.End.TheVariants.{Delivered}
use Rattle.fab_tables.specs.declared.plan.Plan.{Plan}
use Rattle.fab_tables.specs.Entries.{Entries}
use Rattle.fab_tables.specs.Fit.{IsSource}
use Rattle.fab_tables.specs.Route.{route, visited}
use Rattle.fab_tables.specs.Trees.{next}
use Rattle.fab_tables.specs.TreeWalks.{walk_of}
use Rattle.fab_depgraph.specs.declared.dep.Dep.{Dep}
use Rattle.fab_depgraph.specs.Listed.{Dependencies, IsListed}
use Rattle.fab_nue.specs.Kept.{old_level, old_lane, KeepsLevel, DependsOnOldRoute}
use Rattle.fab_nue.specs.Arenas.{listed_in, channel_counts}

-- every route from a switch that is connected to the LID is delivered
abbrev pub AreAllDelivered : Topology → Entries → ℕ → Type 0
AreAllDelivered t e lid = (s : ℕ) → IsConnectedTo t s lid → (route t e s lid).end ≡ Delivered

-- a connected switch has the first channel of its route, which is delivered, and another one has none
abbrev pub IsRoutedAt : Topology → Entries → ℕ → List (Option ℕ) → ℕ → Type 0
IsRoutedAt t e lid tree s =
    (IsConnectedTo t s lid × ((route t e s lid).end ≡ Delivered) × (next tree s ≡ slice_get (route t e s lid).channels 0))
    ⊎ ((¬ IsConnectedTo t s lid) × (next tree s ≡ None))

-- the tree of the routes to a LID, all of which are delivered
pub record IsRouteTree (t : Topology) (e : Entries) (lid : ℕ) (tree : List (Option ℕ)) : Type 0 where
  pub each_switch : length tree ≡ length t.switches
  pub each : (s : ℕ) → s < length t.switches → IsRoutedAt t e lid tree s

-- on the way from a switch along the tree, packets of a level go on the lane of the same number
abbrev pub KeepsLaneFrom : Topology → Plan → List (Option ℕ) → ℕ → ℕ → Type 0
KeepsLaneFrom t old tree level s = (at : ℕ) → Contains (visited t s (walk_of t tree s)) at → old_lane old.lanes at level ≡ level

-- the same of a source's old level, which is below the lane count
pub record KeepsLevelAlong (t : Topology) (lanes : ℕ) (old : Plan) (tree : List (Option ℕ)) (s lid : ℕ) : Type 0 where
  pub level : ℕ
  pub is : old_level old.lanes s lid ≡ Some level
  pub below : level < lanes
  pub same_lane : KeepsLaneFrom t old tree level s

abbrev pub KeepLevels : Topology → ℕ → Plan → ℕ → Type 0
KeepLevels t lanes old lid = (s : ℕ) → IsSource t s → IsConnectedTo t s lid → KeepsLevel t lanes old s lid

-- the switch lies on the way from one of the first sources that have the level
abbrev pub IsOnWayOf : Topology → Plan → ℕ → List (Option ℕ) → ℕ → ℕ → ℕ → Type 0
IsOnWayOf t old lid whole level before x =
    (s : ℕ) × (s < before) × IsSource t s × (old_level old.lanes s lid ≡ Some level) × Contains (visited t s (walk_of t whole s)) x

-- of a tree the channels of the switches of which this holds
pub record IsPartOf (Some_of : ℕ → Type 0) (whole part : List (Option ℕ)) : Type 0 where
  pub each_switch : length part ≡ length whole
  pub has : (x c : ℕ) → Some_of x → next whole x ≡ Some c → next part x ≡ Some c
  pub only : (x c : ℕ) → next part x ≡ Some c → Some_of x × (next whole x ≡ Some c)

-- Beside what the arenas list a LID can stay.
pub record CanJoin (t : Topology) (lanes : ℕ) (old : Plan) (used : List Dependencies) (lid : ℕ) : Type 0 where
  pub delivered : AreAllDelivered t old.tables lid
  pub levels : KeepLevels t lanes old lid
  pub closes_none : (on_lane : ℕ) → on_lane < lanes → IsAcyclic (λ (c d : ℕ). IsListed (listed_in used on_lane) c d ⊎ DependsOnOldRoute t old lid on_lane c d)

-- a list beside which the dependencies of the LID's old routes on a lane are listed, one more for each switch at most; they close no walk
pub record JoinsLane (t : Topology) (old : Plan) (lid on_lane : ℕ) (before after : List Dep) : Type 0 where
  pub union : SameGraph (λ (c d : ℕ). IsListed before c d ⊎ DependsOnOldRoute t old lid on_lane c d) (IsListed after)
  pub few : length after ≤ length before + length t.switches
  pub closes_none : IsAcyclic (λ (c d : ℕ). IsListed before c d ⊎ DependsOnOldRoute t old lid on_lane c d)

-- The dependencies of a LID's old routes were tried in the lanes from one on: they were added in each, or none since a walk would be closed in one.
pub record IsJoined (t : Topology) (old : Plan) (lid first : ℕ) (before after : List Dependencies) (answer : Bool) : Type 0 where
  pub channels : channel_counts after ≡ channel_counts before
  pub below : (on_lane : ℕ) → on_lane < first → listed_in after on_lane ≡ listed_in before on_lane
  pub joined : answer ≡ true → (on_lane : ℕ) → first ≤ on_lane → on_lane < length before → JoinsLane t old lid on_lane (listed_in before on_lane) (listed_in after on_lane)
  pub same : answer ≡ false → (on_lane : ℕ) → listed_in after on_lane ≡ listed_in before on_lane
  pub refused : answer ≡ false → (on_lane : ℕ) × (on_lane < length before) × ¬ IsAcyclic (λ (c d : ℕ). IsListed (listed_in before on_lane) c d ⊎ DependsOnOldRoute t old lid on_lane c d)

-- A LID was tried: it can stay, its dependencies were added, and the tree is that of its old routes; or it can't, and the arenas list what they did.
pub record IsKeptOrNot (t : Topology) (old : Plan) (lid : ℕ) (before after : List Dependencies) (whole : List (Option ℕ)) (answer : Bool) : Type 0 where
  pub channels : channel_counts after ≡ channel_counts before
  pub each_switch : length whole ≡ length t.switches
  pub stays : answer ≡ true → CanJoin t (length before) old before lid
  pub tree : answer ≡ true → IsRouteTree t old.tables lid whole
  pub joined : answer ≡ true → (on_lane : ℕ) → on_lane < length before → JoinsLane t old lid on_lane (listed_in before on_lane) (listed_in after on_lane)
  pub same : answer ≡ false → (on_lane : ℕ) → listed_in after on_lane ≡ listed_in before on_lane
  pub refused : answer ≡ false → ¬ CanJoin t (length before) old before lid
