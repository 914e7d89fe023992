-- LIDs that are laid one after the other: the tables, the weights and the arenas once those below a number are laid.
use Rattle.std.specs.Prelude.{◌≡◌, ℕ, ◌+◌, ◌*◌, ◌<◌, ◌≤◌, ◌==◌, ◌&&◌, ◌⊎◌, not, Bool, List, length, drop, count_by, Contains, Option, Some, IfSome, IsSome, slice_index_or}
use Rattle.std.specs.List.{list_any}
use Rattle.fab_model.specs.declared.rows.Place.{Place}
use Rattle.fab_model.specs.Topology.{Topology, lids_of, place_of}
use Rattle.fab_model.specs.Connected.{IsConnectedTo}
use Rattle.fab_tables.specs.declared.plan.Plan.{Plan}
use Rattle.fab_tables.specs.Entries.{Entries, entry}
use Rattle.fab_tables.specs.Trees.{next}
use Rattle.fab_tables.specs.TreeWalks.{IsTree, DependsInTree}
use Rattle.fab_tables.specs.FixedEntries.{HasFixedEntries, IsChosen}
use Rattle.fab_tables.specs.Fit.{LanesFit}
use Rattle.fab_tables.specs.LaneTables.{LaneTables, HasLanePerLevel}
use Rattle.fab_certify.specs.EnginePlans.{HasLevels}
use Rattle.fab_depgraph.specs.Listed.{Dependencies, IsListed}
use Rattle.fab_sssp.specs.Carried.{terminals_carried, weight_after}
use Rattle.fab_sssp.specs.Laying.{KeepsOtherLids}
use Rattle.fab_sssp.specs.WeightTables.{WeightTable, WeightsFit, weight_of}
use Rattle.fab_escape.specs.Forest.{Forest}
use Rattle.fab_escape.specs.Trees.{IsEscapeForest}
use Rattle.fab_escape.specs.EscapeSet.{home}
use Rattle.fab_nue.specs.Kept.{AreKept}
use Rattle.fab_nue.specs.NuePlan.{DependsToEscapeIn, IsLaid, IsInUse, laid_before, IsLaidTree, IsPortInTree, HasNueEntries, IsNueLevel, AreUsed}
use Rattle.fab_nue.specs.Arenas.{listed_in, spare_in, AreListing, ChangesLane}
use Rattle.fab_graph.specs.Walks.{SameGraph}

-- ---- one LID

-- a tree towards a LID: every other switch that is connected to it has a channel, and no switch else
pub record IsTreeToward (t : Topology) (lid : ℕ) (tree : List (Option ℕ)) : Type 0 where
  pub is_tree : IsTree t tree
  pub place : Place
  pub in_use : place_of t lid ≡ Some place
  pub chosen : (s c : ℕ) → next tree s ≡ Some c → IsChosen t s lid place.switch.0
  pub every : (s : ℕ) → IsChosen t s lid place.switch.0 → IsSome (next tree s)

-- the entries for a LID are the ports of the tree, and the other entries are as they were
pub record HasEntriesOf (t : Topology) (lid : ℕ) (tree : List (Option ℕ)) (old new : Entries) : Type 0 where
  pub fixed : HasFixedEntries t new
  pub others : KeepsOtherLids lid old new
  pub ports : (s to : ℕ) → IsChosen t s lid to → IsPortInTree t tree s (entry new s lid)

-- each channel weighs more by the terminals whose route to the LID contains it
pub record WeighsMore (t : Topology) (e : Entries) (lid : ℕ) (old new : WeightTable) : Type 0 where
  pub made_for : WeightsFit t new
  pub raised : new.raised ≡ old.raised + 1
  pub weights : (c : ℕ) → c < length t.channels → weight_of new c ≡ weight_of old c + terminals_carried t e lid c

-- A LID's tree was laid beside what the arena of a lane lists, and its dependencies are listed there; it has taken no more than one for
-- each switch.
pub record IsLaidIn (t : Topology) (weight : ℕ → ℕ) (f : Forest) (lid lane : ℕ) (old new : List Dependencies) (tree : List (Option ℕ)) : Type 0 where
  pub changes : ChangesLane lane old new
  pub place : Place
  pub in_use : place_of t lid ≡ Some place
  pub laid : IsLaidTree t weight (λ (c d : ℕ). IsListed (listed_in old lane) c d) f place.switch.0 tree
  pub union : SameGraph (λ (c d : ℕ). IsListed (listed_in old lane) c d ⊎ DependsInTree t tree c d) (IsListed (listed_in new lane))
  pub spare : spare_in old lane ≤ spare_in new lane + length t.switches

-- ---- LID after LID

-- the LIDs before a place of the ascending list are below the number, and the others are not
pub record IsBetween (lids : List ℕ) (index n : ℕ) : Type 0 where
  pub before : (k : ℕ) → k < index → k < length lids → slice_index_or lids k 0 < n
  pub behind : (k : ℕ) → index ≤ k → k < length lids → n ≤ slice_index_or lids k 0

-- The kept LIDs, and the others below a number, have their entries and their weights, and those others their trees.
pub record AreLaidBelow (t : Topology) (lanes : ℕ) (old : Option Plan) (kept : List ℕ) (forest : ℕ → Forest) (laid : ℕ → List (Option ℕ)) (n : ℕ)
    (e : Entries) (w : WeightTable) (used : List Dependencies) : Type 0 where
  pub trees : (lid : ℕ) (place : Place) → lid < n → IsLaid t kept lid → place_of t lid ≡ Some place →
      IsLaidTree t (λ c. weight_after t e (laid_before t kept lid) c)
      (λ c d. IsInUse t lanes old kept forest laid (λ other. other < lid) (home t lid lanes) c d)
      (forest (home t lid lanes)) place.switch.0 (laid lid)
  pub fixed : HasFixedEntries t e
  pub of_kept : (s lid : ℕ) → Contains kept lid → IsConnectedTo t s lid → IfSome old (λ p. entry e s lid ≡ entry p.tables s lid)
  pub of_laid : (s lid to : ℕ) → lid < n → IsLaid t kept lid → IsChosen t s lid to → IsPortInTree t (laid lid) s (entry e s lid)
  pub made_for : WeightsFit t w
  pub raised : w.raised ≡ length (laid_before t kept n)
  pub weights : (c : ℕ) → c < length t.channels → weight_of w c ≡ weight_after t e (laid_before t kept n) c
  pub listed : AreListing lanes (λ on_lane c d. IsInUse t lanes old kept forest laid (λ other. other < n) on_lane c d) used

-- All LIDs are kept or laid, in the forests of the lanes: what a plan of Nue is but for its lanes.
pub record AreLaid (t : Topology) (lanes : ℕ) (old : Option Plan) (kept : List ℕ) (forest : ℕ → Forest) (laid : ℕ → List (Option ℕ)) (e : Entries) : Type 0 where
  pub forests : (on_lane : ℕ) → on_lane < lanes → IsEscapeForest t on_lane (forest on_lane)
  pub keeps : AreKept t lanes (λ on_lane c d. DependsToEscapeIn t lanes forest on_lane c d) old kept
  pub trees : (lid : ℕ) (place : Place) → IsLaid t kept lid → place_of t lid ≡ Some place →
      IsLaidTree t (λ c. weight_after t e (laid_before t kept lid) c)
      (λ c d. IsInUse t lanes old kept forest laid (λ other. other < lid) (home t lid lanes) c d)
      (forest (home t lid lanes)) place.switch.0 (laid lid)
  pub tables : HasNueEntries t old kept laid e

-- whether a LID is laid in a lane, if it is in use
abbrev pub is_laid_in : Topology → ℕ → List ℕ → ℕ → ℕ → Bool
is_laid_in t lanes kept on_lane lid = (home t lid lanes == on_lane) && not (list_any (λ one. one == lid) kept)

-- how many LIDs from a place of the ascending list on are laid in a lane
abbrev pub left_to_lay : Topology → ℕ → List ℕ → ℕ → ℕ → ℕ
left_to_lay t lanes kept on_lane index =
    count_by (is_laid_in t lanes kept on_lane) (drop index (lids_of t))

-- for each of them there is room in the arena
abbrev pub HasRoomToLay : Topology → ℕ → List ℕ → ℕ → List Dependencies → Type 0
HasRoomToLay t lanes kept index used = (on_lane : ℕ) → on_lane < lanes → left_to_lay t lanes kept on_lane index * length t.switches ≤ spare_in used on_lane

-- The kept LIDs have their entries and weights, and with the escape dependencies those of the kept LIDs are in use: no LID is laid yet.
abbrev pub BeginsLaying : Topology → ℕ → List ℕ → (ℕ → Forest) → Entries → WeightTable → List Dependencies → Type 0
BeginsLaying t lanes kept forest e w used =
    (old : Option Plan) × (laid : ℕ → List (Option ℕ)) × AreLaidBelow t lanes old kept forest laid 0 e w used

-- Whatever old plan it began with, all LIDs are laid.
abbrev pub EndsLaying : Topology → ℕ → List ℕ → (ℕ → Forest) → Entries → WeightTable → List Dependencies → Entries → WeightTable → List Dependencies → Type 0
EndsLaying t lanes kept forest e w used new heavy after =
    (old : Option Plan) (laid : ℕ → List (Option ℕ)) → AreLaidBelow t lanes old kept forest laid 0 e w used →
    (n : ℕ) × (trees : ℕ → List (Option ℕ)) × ((lid : ℕ) → Contains (lids_of t) lid → lid < n) × AreLaidBelow t lanes old kept forest trees n new heavy after

-- All but the numbers of a plan of Nue: the tables, the lanes with the levels, and lane by lane what is in use.
pub record IsUnnumbered (t : Topology) (old : Option Plan) (kept : List ℕ) (e : Entries) (l : LaneTables) (used : List Dependencies) : Type 0 where
  pub forest : ℕ → Forest
  pub laid : ℕ → List (Option ℕ)
  pub lids : AreLaid t l.count old kept forest laid e
  pub fits : LanesFit t l
  pub maps : HasLanePerLevel l
  pub levels : HasLevels t l (λ s lid n. IsNueLevel t l.count old kept s lid n)
  pub used_lists : AreUsed t l.count old kept forest laid used

-- Whatever the escape dependencies are that the arenas list at first: the LIDs that can stay are kept, and with them the laying begins.
abbrev pub KeepsOldLids : Topology → ℕ → Plan → List ℕ → List Dependencies → Entries → WeightTable → List Dependencies → Type 0
KeepsOldLids t lanes old kept before e w used = (forest : ℕ → Forest) (laid : ℕ → List (Option ℕ)) →
    AreListing lanes (λ on_lane c d. DependsToEscapeIn t lanes forest on_lane c d) before →
    AreKept t lanes (λ on_lane c d. DependsToEscapeIn t lanes forest on_lane c d) (Some old) kept × AreLaidBelow t lanes (Some old) kept forest laid 0 e w used
