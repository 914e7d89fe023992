-- What the steps of up/down routing find: roots, the order of keys, costs, and the ports that are legal.
use Rattle.std.specs.Prelude.{◌≡◌, ◌≢◌, ℕ, suc, ◌+◌, ◌<◌, ◌⊎◌, ◌↔◌, List, [], IsSome, length, Contains, All, AllPairs, Option, Some, None, slice_index_or}
use Rattle.fab_graph.specs.Least.{IsLeast}
use Rattle.fab_model.specs.declared.rows.SwitchId.{SwitchId}
use Rattle.fab_model.specs.declared.rows.ChannelRow.{ChannelRow}
use Rattle.fab_model.specs.Topology.{Topology}
use Rattle.fab_model.specs.Connected.{AreConnected}
use Rattle.fab_hops.specs.HopCounts.{HopTable, hop_count}
use Rattle.fab_updn.specs.declared.keys.Direction.{Direction}
use Rattle.fab_updn.specs.declared.keys.Direction.TheVariants.{Up, Down}
use Rattle.fab_updn.specs.declared.costs.Cost.{Cost}
use Rattle.fab_updn.specs.declared.costs.Cost.TheVariants.{Below, Above, Missing}
use Rattle.fab_updn.specs.Ranks.{IsRoot, HasSmallerKey, GoesUp, GoesDown}
use Rattle.fab_updn.specs.Costs.{IsDown, LeadsDown, IsCostAbove}
use Rattle.fab_updn.specs.UpDown.{IsAt}

-- the kept hop count to a listed root
abbrev pub IsCountToListed : HopTable → List SwitchId → ℕ → ℕ → Type 0
IsCountToListed h roots s n = (root : SwitchId) × Contains roots root × (hop_count h s root.0 ≡ Some n)

-- the listed switches are just the roots of all components, and each switch has one of them in its component
pub record AreRoots (t : Topology) (named : List ℕ) (roots : List SwitchId) : Type 0 where
  pub within : All (λ root. root.0 < length t.switches) roots
  pub right : (s : ℕ) (root : SwitchId) → s < length t.switches → Contains roots root → AreConnected t s root.0 → IsRoot t named s root.0
  pub some : (s : ℕ) → s < length t.switches → (root : SwitchId) × Contains roots root × AreConnected t s root.0
  pub all : (s root : ℕ) → s < length t.switches → IsRoot t named s root → (id : SwitchId) × Contains roots id × (id.0 ≡ root)

-- all switches by ascending key
pub record IsKeyOrder (ranks : List ℕ) (order : List SwitchId) : Type 0 where
  pub whole : length order ≡ length ranks
  pub within : All (λ s. s.0 < length ranks) order
  pub all : (s : ℕ) → s < length ranks → (id : SwitchId) × Contains order id × (id.0 ≡ s)
  pub ordered : AllPairs (λ first second. HasSmallerKey ranks first.0 second.0) order

-- a channel goes in the direction
abbrev pub Goes : Direction → List ℕ → ChannelRow → Type 0
Goes Up ranks row = GoesUp ranks row
Goes Down ranks row = GoesDown ranks row

-- the number of a cost
abbrev pub count_of : Cost → Option ℕ
count_of (Below n) = Some n
count_of (Above n) = Some n
count_of Missing = None

-- the number of one that goes down all the way
abbrev pub below_of : Cost → Option ℕ
below_of (Below n) = Some n
below_of (Above n) = None
below_of Missing = None

-- the cost kept for a switch
abbrev pub cost_at : List Cost → ℕ → Cost
cost_at costs s = slice_index_or costs s Missing

-- the kept cost of a switch to which a channel goes in the direction
abbrev pub IsCountBeyond : Topology → List ℕ → List Cost → Direction → ℕ → ℕ → Type 0
IsCountBeyond t ranks costs direction s n =
    (row : ChannelRow) × Contains t.channels row × (row.tail.0 ≡ s) × Goes direction ranks row × (count_of (cost_at costs row.tip.0) ≡ Some n)

-- kept costs are small
abbrev pub AreSmall : List Cost → ℕ → Type 0
AreSmall costs limit = (s n : ℕ) → count_of (cost_at costs s) ≡ Some n → n < limit

-- what a cost says of a switch, where the other costs are these
abbrev pub IsCostOf : Topology → List ℕ → ℕ → (ℕ → Option ℕ) → ℕ → Cost → Type 0
IsCostOf t ranks to cost s (Below n) = IsDown t ranks to s n
IsCostOf t ranks to cost s (Above n) = (m : ℕ) × (n ≡ suc m) × ¬ LeadsDown t ranks to s × IsLeast (λ k. IsCostAbove t ranks cost s k) m
IsCostOf t ranks to cost s Missing = ¬ LeadsDown t ranks to s × ((n : ℕ) → ¬ IsCostAbove t ranks cost s n)

-- the costs of all switches on the way to one
pub record AreCostsTo (t : Topology) (ranks : List ℕ) (to : ℕ) (costs : List Cost) : Type 0 where
  pub whole : length costs ≡ length t.switches
  pub each : (s : ℕ) → s < length t.switches → IsCostOf t ranks to (λ x. count_of (cost_at costs x)) s (cost_at costs s)

-- what the down walks alone tell of a switch
abbrev pub IsDownOf : Topology → List ℕ → ℕ → ℕ → Cost → Type 0
IsDownOf t ranks to s (Below n) = IsDown t ranks to s n
IsDownOf t ranks to s (Above n) = ⊥
IsDownOf t ranks to s Missing = ¬ LeadsDown t ranks to s

-- the same of all
pub record AreDowns (t : Topology) (ranks : List ℕ) (to : ℕ) (costs : List Cost) : Type 0 where
  pub whole : length costs ≡ length t.switches
  pub each : (s : ℕ) → s < length t.switches → IsDownOf t ranks to s (cost_at costs s)

-- the cost of a switch by those of the switches below it, or above it
abbrev pub IsNextBelow : Topology → List ℕ → List Cost → ℕ → ℕ → Cost → Type 0
IsNextBelow t ranks costs to s (Below n) = ((s ≡ to) × (n ≡ 0)) ⊎ ((s ≢ to) × ((m : ℕ) × (n ≡ m + 1) × IsLeast (IsCountBeyond t ranks costs Down s) m))
IsNextBelow t ranks costs to s (Above n) = ⊥
IsNextBelow t ranks costs to s Missing = (s ≢ to) × ((n : ℕ) → ¬ IsCountBeyond t ranks costs Down s n)

abbrev pub IsNextAbove : Topology → List ℕ → List Cost → ℕ → Cost → Cost → Type 0
IsNextAbove t ranks costs s (Below k) cost = cost ≡ Below k
IsNextAbove t ranks costs s (Above k) cost = cost ≡ Above k
IsNextAbove t ranks costs s Missing (Below n) = ⊥
IsNextAbove t ranks costs s Missing (Above n) = (m : ℕ) × (n ≡ m + 1) × IsLeast (IsCountBeyond t ranks costs Up s) m
IsNextAbove t ranks costs s Missing Missing = (n : ℕ) → ¬ IsCountBeyond t ranks costs Up s n

-- the costs of all switches on the way to each, found by an order of keys
pub record AreAllCosts (t : Topology) (ranks : List ℕ) (table : List (List Cost)) : Type 0 where
  pub order : List SwitchId
  pub is_order : IsKeyOrder ranks order
  pub whole : length table ≡ length t.switches
  pub each : (to : ℕ) → to < length t.switches → AreCostsTo t ranks to (slice_index_or table to [])

-- two switches have a kept hop count, and the first has no cost on the way to the second
abbrev pub IsMissingPair : HopTable → List (List Cost) → ℕ → ℕ → Type 0
IsMissingPair h table from to = IsSome (hop_count h from to) × (cost_at (slice_index_or table to []) from ≡ Missing)

-- they are the first such pair
pub record IsFirstMissingFrom (h : HopTable) (table : List (List Cost)) (switches from to : ℕ) : Type 0 where
  pub within : to < switches
  pub missing : IsMissingPair h table from to
  pub first : (b : ℕ) → b < to → ¬ IsMissingPair h table from b

pub record IsFirstMissing (h : HopTable) (table : List (List Cost)) (switches from to : ℕ) : Type 0 where
  pub within : from < switches
  pub here : IsFirstMissingFrom h table switches from to
  pub first : (a b : ℕ) → a < from → b < switches → ¬ IsMissingPair h table a b

-- a channel between switches of these costs may be taken: it goes down where a down walk leads there, otherwise up, and the cost falls by one
abbrev pub IsLegalStep : List ℕ → ChannelRow → Cost → Cost → Type 0
IsLegalStep ranks row (Below n) (Below m) = (n ≡ m + 1) × GoesDown ranks row
IsLegalStep ranks row (Below n) (Above m) = ⊥
IsLegalStep ranks row (Below n) Missing = ⊥
IsLegalStep ranks row (Above n) (Below m) = (n ≡ m + 1) × GoesUp ranks row
IsLegalStep ranks row (Above n) (Above m) = (n ≡ m + 1) × GoesUp ranks row
IsLegalStep ranks row (Above n) Missing = ⊥
IsLegalStep ranks row Missing there = ⊥

-- by the kept costs
abbrev pub IsLegalRow : List ℕ → List Cost → ChannelRow → Type 0
IsLegalRow ranks costs row = IsLegalStep ranks row (cost_at costs row.tail.0) (cost_at costs row.tip.0)

-- the listed ports are just those of a switch whose channels may be taken
abbrev pub AreLegalPorts : Topology → List ℕ → List Cost → ℕ → List ℕ → Type 0
AreLegalPorts t ranks costs s ports = (port : ℕ) → Contains ports port ↔ ((row : ChannelRow) × IsAt t s port row × IsLegalRow ranks costs row)

-- the costs that a table keeps, by destination and then by switch
abbrev pub costs_of : List (List Cost) → ℕ → ℕ → Option ℕ
costs_of table to s = count_of (cost_at (slice_index_or table to []) s)

-- all connected switches have one
abbrev pub HasNoMissing : Topology → List (List Cost) → Type 0
HasNoMissing t table = (s to : ℕ) → s < length t.switches → to < length t.switches → AreConnected t s to → cost_at (slice_index_or table to []) s ≢ Missing
