-- What is said of a change of tables: its first fault, or the first ring of its dependencies, or numbers.
-- A fault has a place in a fixed order, which is a list of numbers, compared from the left. A side is 0 for the old plan and 1 for the new:
--     0, LID, source, side    no level
--     1, LID, switch, side    an entry where a packet is lost
--     2, LID, switch, side    a map that gives a lane not below the bound
use Rattle.std.specs.Prelude.{◌≡◌, ◌≢◌, ℕ, ◌≤◌, List, [], ◌∷◌, length, None}
use Rattle.fab_graph.specs.Rings.{IsFirstRing}
use Rattle.fab_model.specs.Topology.{Topology, lids_of}
use Rattle.fab_model.specs.Connected.{IsConnectedTo}
use Rattle.fab_tables.specs.declared.end.End.{End}
use Rattle.fab_tables.specs.declared.end.End.TheVariants.{Delivered}
use Rattle.fab_tables.specs.LaneTables.{LaneTables, no_lanes}
use Rattle.fab_tables.specs.Fit.{IsSource}
use Rattle.fab_tables.specs.Route.{Stop}
use Rattle.fab_tables.specs.First.{IsFirst}
use Rattle.fab_tables.specs.Reading.{level_read}
use Rattle.fab_certify.specs.Numbered.{IsNumberedBy}
use Rattle.fab_transit.specs.declared.mixed.Side.{Side}
use Rattle.fab_transit.specs.declared.mixed.Side.TheVariants.{Old, New}
use Rattle.fab_transit.specs.declared.mixed.Mixed.{Mixed}
use Rattle.fab_transit.specs.declared.mixed.Mixed.TheVariants.{Numbers, NoLevel, Lost, BadLane, RingMixed}
use Rattle.fab_transit.specs.MixedWalks.{Change, plan_of, bound, hop_of, lane_along, MayEnter, ComesTo, IsOnMixedWalk, DependsMixed, DependsMixedByNode}

abbrev pub side_number : Side → ℕ
side_number Old = 0
side_number New = 1

-- the plan has no level for a source and a LID connected to it
pub record LacksLevel (t : Topology) (m : Change) (lid source : ℕ) (side : Side) : Type 0 where
  pub of_source : IsSource t source
  pub connected : IsConnectedTo t source lid
  pub none : level_read (plan_of m side).lanes source lid ≡ None

-- a mixed walk comes to the switch, and the plan's entry there ends it elsewhere than at the LID
pub record IsLostAt (t : Topology) (m : Change) (lid s : ℕ) (side : Side) (end : End) : Type 0 where
  pub of_level : ℕ
  pub from : ℕ
  pub comes : ComesTo t m lid of_level (record { at = s; from = from })
  pub stops : hop_of t m lid side s ≡ Stop end
  pub lost : end ≢ Delivered

-- a mixed walk comes to the switch, and the plan's map gives a lane that isn't good on the way along an entry of either plan
pub record IsBadAt (t : Topology) (m : Change) (lid s : ℕ) (side : Side) : Type 0 where
  pub of_level : ℕ
  pub from : ℕ
  pub channel : ℕ
  pub comes : ComesTo t m lid of_level (record { at = s; from = from })
  pub enters : MayEnter t m lid (record { at = s; from = from }) channel
  pub bad : bound m ≤ lane_along t m side of_level (record { at = s; from = from }) channel

-- the fault stands at this place
abbrev pub IsFaultAt : Topology → Change → List ℕ → Mixed → Type 0
IsFaultAt t m place (NoLevel lid source side) = (place ≡ 0 ∷ lid.0 ∷ source.0 ∷ side_number side ∷ []) × LacksLevel t m lid.0 source.0 side
IsFaultAt t m place (Lost lid at side end) = (place ≡ 1 ∷ lid.0 ∷ at.0 ∷ side_number side ∷ []) × IsLostAt t m lid.0 at.0 side end
IsFaultAt t m place (BadLane lid at side) = (place ≡ 2 ∷ lid.0 ∷ at.0 ∷ side_number side ∷ []) × IsBadAt t m lid.0 at.0 side
IsFaultAt t m place _ = ⊥

-- every packet has a level, is delivered or goes on, and has good lanes
abbrev pub HasNoFault : Topology → Change → Type 0
HasNoFault t m = (place : List ℕ) (fault : Mixed) → ¬ IsFaultAt t m place fault

-- lanes with the bound as their count, without levels, maps and pairs
abbrev pub bare_lanes : Topology → Change → LaneTables
bare_lanes t m = no_lanes (bound m) (length t.switches) (length t.channels) (lids_of t)

-- The first fault; else the first ring of the mixed dependencies; else their levels, as numbers of the virtual channels of mixed walks.
abbrev pub IsAnswerTo : Topology → Change → Mixed → Type 0
IsAnswerTo t m (RingMixed ring) = HasNoFault t m × IsFirstRing (DependsMixedByNode t m) ring
IsAnswerTo t m (Numbers l) = HasNoFault t m × IsNumberedBy (IsOnMixedWalk t m) (DependsMixed t m) (bare_lanes t m) l
IsAnswerTo t m fault = IsFirst (IsFaultAt t m) fault
