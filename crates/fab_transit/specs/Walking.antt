-- The search over mixed walks: what a packet may do where it stands, and what is found and noted of it.
use Rattle.std.specs.Prelude.{◌≡◌, ◌≢◌, ℕ, ◌*◌, ◌<◌, ◌≤◌, ◌⊎◌, length, Contains, Option, Some, None, IfSome}
use Rattle.fab_graph.specs.Walks.{IsEdge, SameGraph}
use Rattle.fab_model.specs.declared.rows.TerminalRow.{TerminalRow}
use Rattle.fab_model.specs.Topology.{Topology, lids_of, lid_id, switch_id}
use Rattle.fab_tables.specs.declared.end.End.{End}
use Rattle.fab_tables.specs.declared.end.End.TheVariants.{Delivered}
use Rattle.fab_tables.specs.declared.verdict.VirtualChannel.{VirtualChannel}
use Rattle.fab_tables.specs.Dependencies.{IsPath, node_of}
use Rattle.fab_tables.specs.Reading.{level_read}
use Rattle.fab_tables.specs.declared.starts.Start.{Start}
use Rattle.fab_tables.specs.Starts.{start_of}
use Rattle.fab_tables.specs.Route.Hop.{Along, Stop}
use Rattle.fab_certify.specs.Collected.{Collected, IsMarked, Grows}
use Rattle.fab_transit.specs.declared.mixed.Side.{Side}
use Rattle.fab_transit.specs.declared.faults.Wrong.TheVariants.{Entry, Lane}
use Rattle.fab_transit.specs.declared.faults.Fault.{Fault}
use Rattle.fab_transit.specs.declared.found.Taken.{Taken}
use Rattle.fab_transit.specs.declared.walks.Packet.{Packet}
use Rattle.fab_transit.specs.declared.walks.Walks.{Walks}
use Rattle.fab_transit.specs.MixedWalks.{Change, plan_of, bound, Standing, hop_of, lane_along, MayTake, standing_after, ComesTo, IsOnMixedWalk, DependsMixedByNode}
use Rattle.fab_transit.specs.Answers.{IsFaultAt}
use Rattle.fab_transit.specs.Changing.{Changing, IsChanging, standing_of}
use Rattle.fab_transit.specs.Faults.{place_of_fault, mixed_of, IsNoted}
use Rattle.fab_transit.specs.Finding.{Findings, AreRooms, FindsMore}

-- ---- what a packet to a LID may do at this level where it stands

module _ (t : Topology) (m : Change) (lid of_level : ℕ) (here : Standing) where
  -- along a channel, on the lane that a plan's map gives
  abbrev pub TakesBy : Side → ℕ → VirtualChannel → Type 0
  TakesBy side c v = (v.channel.0 ≡ c) × (lane_along t m side of_level here c ≡ v.lane) × (v.lane < bound m)

  -- which may not be good
  abbrev pub IsBadBy : Side → ℕ → Fault → Type 0
  IsBadBy side c f = (f ≡ record { wrong = Lane; lid = lid_id lid; at = switch_id here.at; side = side }) × (bound m ≤ lane_along t m side of_level here c)

  abbrev pub TakesAlong : ℕ → VirtualChannel → Type 0
  TakesAlong c v = (side : Side) × TakesBy side c v

  abbrev pub IsBadAlong : ℕ → Fault → Type 0
  IsBadAlong c f = (side : Side) × IsBadBy side c f

  -- by a plan's entry
  abbrev pub TakesFrom : Side → VirtualChannel → Type 0
  TakesFrom side v = (c : ℕ) × (hop_of t m lid side here.at ≡ Along c) × TakesAlong c v

  abbrev pub IsLostFrom : Side → Fault → Type 0
  IsLostFrom side f = (end : End) × (hop_of t m lid side here.at ≡ Stop end) × (end ≢ Delivered) × (f ≡ record { wrong = Entry end; lid = lid_id lid; at = switch_id here.at; side = side })

  abbrev pub IsWrongFrom : Side → Fault → Type 0
  IsWrongFrom side f = IsLostFrom side f ⊎ ((c : ℕ) × (hop_of t m lid side here.at ≡ Along c) × IsBadAlong c f)

  -- by either
  abbrev pub Takes : VirtualChannel → Type 0
  Takes v = (side : Side) × TakesFrom side v

  abbrev pub IsWrong : Fault → Type 0
  IsWrong f = (side : Side) × IsWrongFrom side f

-- ---- how what is found and noted grows

-- there is room for all virtual channels
pub record HaveRoom (g : Changing) (f : Findings) (c : Collected) : Type 0 where
  pub rooms : AreRooms g f
  pub each : length c.used ≡ length g.fabric.channels * bound g.change

-- nothing that is noted is taken back
pub record Keeps (w new_w : Walks) : Type 0 where
  pub grows : Grows w.dependencies new_w.dependencies
  pub noted : (x : Fault) → IsNoted w.fault x → IsNoted new_w.fault x

pub record Advances (f new_f : Findings) (w new_w : Walks) : Type 0 where
  pub found : FindsMore f new_f
  pub keeps : Keeps w new_w

-- These steps of a packet, which holds a virtual channel of this number, and these faults are looked at.
pub record LooksAt (S : VirtualChannel → Type 0) (F : Fault → Type 0) (m : Change) (of_level : ℕ) (held : Option ℕ) (f new_f : Findings) (w new_w : Walks) : Type 0 where
  pub advances : Advances f new_f w new_w
  pub taken : (v : VirtualChannel) → S v → Contains new_f.taken (record { hop = v; level = of_level })
  pub used : (v : VirtualChannel) → S v → IsMarked new_w.dependencies (node_of (bound m) v)
  pub pairs : (v : VirtualChannel) (n : ℕ) → S v → held ≡ Some n → Contains new_w.dependencies.pairs (n, node_of (bound m) v)
  pub faults : (x : Fault) → F x → IsNoted new_w.fault x
  pub taken_only : (x : Taken) → Contains new_f.taken x → Contains f.taken x ⊎ (S x.hop × (x.level ≡ of_level))
  pub used_only : (n : ℕ) → IsMarked new_w.dependencies n → IsMarked w.dependencies n ⊎ ((v : VirtualChannel) × S v × (node_of (bound m) v ≡ n))
  pub pairs_only : (x : ℕ × ℕ) → Contains new_w.dependencies.pairs x →
      Contains w.dependencies.pairs x ⊎ ((v : VirtualChannel) × S v × (held ≡ Some x.0) × (node_of (bound m) v ≡ x.1))
  pub fault_only : (x : Fault) → new_w.fault ≡ Some x → (w.fault ≡ Some x) ⊎ F x

-- the packet's numbers are those of the fabric
pub record IsUnderWay (g : Changing) (p : Packet) : Type 0 where
  pub changing : IsChanging g
  pub switch : p.here.switch.0 < length g.fabric.switches
  pub in_use : Contains (lids_of g.fabric) p.lid.0
  pub level : p.level < 16
  pub held : IfSome p.held (λ n. n < length g.fabric.channels * bound g.change)

-- ---- what is found and noted comes from mixed walks

-- packets to the LID take the virtual channel at this level
abbrev pub IsTakenOn : Topology → Change → ℕ → Taken → Type 0
IsTakenOn t m lid x = (here : Standing) × ComesTo t m lid x.level here × MayTake t m lid x.level here x.hop

pub record AreFromWalks (t : Topology) (m : Change) (w : Walks) : Type 0 where
  pub each : length w.dependencies.used ≡ length t.channels * bound m
  pub used : (n : ℕ) → IsMarked w.dependencies n → (v : VirtualChannel) × IsOnMixedWalk t m v × (node_of (bound m) v ≡ n)
  pub pairs : (a b : ℕ) → Contains w.dependencies.pairs (a, b) → DependsMixedByNode t m a b
  pub fault : (x : Fault) → w.fault ≡ Some x → IsFaultAt t m (place_of_fault x) (mixed_of x)

pub record AreFoundFor (t : Topology) (m : Change) (lid : ℕ) (f : Findings) : Type 0 where
  pub rooms : AreRooms (record { fabric = t; change = m }) f
  pub taken : (x : Taken) → Contains f.taken x → IsTakenOn t m lid x

-- ---- and all of them is found and noted

-- all that packets do at this level where they stand
pub record IsSeen (t : Topology) (m : Change) (lid of_level : ℕ) (here : Standing) (held : Option ℕ) (f : Findings) (w : Walks) : Type 0 where
  pub taken : (v : VirtualChannel) → MayTake t m lid of_level here v → Contains f.taken (record { hop = v; level = of_level })
  pub used : (v : VirtualChannel) → MayTake t m lid of_level here v → IsMarked w.dependencies (node_of (bound m) v)
  pub pairs : (v : VirtualChannel) (n : ℕ) → MayTake t m lid of_level here v → held ≡ Some n → Contains w.dependencies.pairs (n, node_of (bound m) v)
  pub faults : (x : Fault) → IsWrong t m lid of_level here x → IsNoted w.fault x

-- all behind a virtual channel that is found
abbrev pub IsSeenBehind : Topology → Change → ℕ → Findings → Walks → Taken → Type 0
IsSeenBehind t m lid f w x = IsSeen t m lid x.level (standing_after t x.hop.channel.0) (Some (node_of (bound m) x.hop)) f w

-- all that packets do at a start, at the level that the plan gives them, if it gives one
abbrev pub BeginsFrom : Topology → Change → ℕ → Start → Side → Findings → Walks → Type 0
BeginsFrom t m lid start side f w =
    (of_level : ℕ) → level_read (plan_of m side).lanes start.switch.0 lid ≡ Some of_level → IsSeen t m lid of_level (standing_of start) None f w

-- and at the starts of all terminals connected to the LID
abbrev pub AreBegun : Topology → Change → ℕ → Findings → Walks → Type 0
AreBegun t m lid f w = (p : TerminalRow) (side : Side) → IsPath t p lid → BeginsFrom t m lid (start_of p) side f w

-- what the mixed walks to a LID do
pub record HasWalks (t : Topology) (m : Change) (lid : ℕ) (w : Walks) : Type 0 where
  pub used : (x : Taken) → IsTakenOn t m lid x → IsMarked w.dependencies (node_of (bound m) x.hop)
  pub pairs : (x : Taken) (v : VirtualChannel) → IsTakenOn t m lid x → MayTake t m lid x.level (standing_after t x.hop.channel.0) v →
      Contains w.dependencies.pairs (node_of (bound m) x.hop, node_of (bound m) v)
  pub faults : (of_level : ℕ) (there : Standing) (x : Fault) → ComesTo t m lid of_level there → IsWrong t m lid of_level there x → IsNoted w.fault x

-- all that mixed walks do, and no more
pub record AreWalks (t : Topology) (m : Change) (w : Walks) : Type 0 where
  pub from_walks : AreFromWalks t m w
  pub has : (lid : ℕ) → HasWalks t m lid w

-- these are the virtual channels of mixed walks, and their dependencies
pub record AreDependencies (t : Topology) (m : Change) (c : Collected) : Type 0 where
  pub each : length c.used ≡ length t.channels * bound m
  pub used_by : (n : ℕ) → IsMarked c n → (v : VirtualChannel) × IsOnMixedWalk t m v × (node_of (bound m) v ≡ n)
  pub used : (v : VirtualChannel) → IsOnMixedWalk t m v → IsMarked c (node_of (bound m) v)
  pub pairs : SameGraph (IsEdge c.pairs) (DependsMixedByNode t m)
