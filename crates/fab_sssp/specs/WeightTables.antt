-- The weights of the channels while destinations are laid one after the other.
use Rattle.std.specs.Prelude.{◌≡◌, ℕ, ◌+◌, ◌*◌, ◌<◌, ◌≤◌, List, length, All, replicate, slice_index_or}
use Rattle.fab_model.specs.Topology.{Topology, lids_of}
use Rattle.fab_model.specs.Faults.{switch_limit, lid_limit}

pub record WeightTable : Type 0 where
  pub weights : List ℕ  -- channel by channel
  pub switches : ℕ  -- for so many there is room to sum terminals along a tree
  pub raised : ℕ  -- how many trees have raised the weights

-- the weight of a channel
abbrev pub weight_of : WeightTable → ℕ → ℕ
weight_of w channel = slice_index_or w.weights channel 0

-- the weight with which each channel starts: with S switches, T terminals and L LIDs in use, 1 + S * T * L
abbrev pub start_weight : Topology → ℕ
start_weight t = 1 + length t.switches * length t.terminals * length (lids_of t)

-- every channel at the start weight
abbrev pub start_weights : Topology → WeightTable
start_weights t = record { weights = replicate (length t.channels) (start_weight t); switches = length t.switches; raised = 0 }

-- no start weight is greater, and a tree adds at most one for each terminal
abbrev pub greatest_weight : ℕ → ℕ
greatest_weight raised = 1 + switch_limit * lid_limit * lid_limit + raised * lid_limit

-- what the type `Weights` keeps
pub record AreWeights (w : WeightTable) : Type 0 where
  pub few : w.raised ≤ lid_limit
  pub each : All (λ n. (0 < n) × (n ≤ greatest_weight w.raised)) w.weights

-- they were made for the fabric
pub record WeightsFit (t : Topology) (w : WeightTable) : Type 0 where
  pub channels : length w.weights ≡ length t.channels
  pub switches : w.switches ≡ length t.switches
