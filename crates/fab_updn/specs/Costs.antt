-- Down walks, and what it costs to go up first.
use Rattle.std.specs.Prelude.{◌≡◌, ℕ, suc, List, Option, Some, None}
use Rattle.fab_graph.specs.Walks.{Walk}
use Rattle.fab_graph.specs.Least.{IsLeast}
use Rattle.fab_model.specs.Topology.{Topology}
use Rattle.fab_updn.specs.Ranks.{StepsUp, StepsDown}

-- the least length of a walk of channels that all go down
abbrev pub IsDown : Topology → List ℕ → ℕ → ℕ → ℕ → Type 0
IsDown t ranks to s n = IsLeast (λ m. Walk (StepsDown t ranks) m s to) n

-- some walk goes down all the way
abbrev pub LeadsDown : Topology → List ℕ → ℕ → ℕ → Type 0
LeadsDown t ranks to s = (n : ℕ) × Walk (StepsDown t ranks) n s to

-- the cost of a switch to which a channel goes up
abbrev pub IsCostAbove : Topology → List ℕ → (ℕ → Option ℕ) → ℕ → ℕ → Type 0
IsCostAbove t ranks cost s n = (next : ℕ) × StepsUp t ranks s next × (cost next ≡ Some n)

-- The costs of the switches on the way to a destination's switch: the least length of a down walk where there is one, otherwise one more than
-- the least cost of a switch to which a channel goes up, and none where neither is there.
pub record AreCosts (t : Topology) (ranks : List ℕ) (to : ℕ) (cost : ℕ → Option ℕ) : Type 0 where
  pub down : (s n : ℕ) → IsDown t ranks to s n → cost s ≡ Some n
  pub up : (s n : ℕ) → ¬ LeadsDown t ranks to s → IsLeast (λ m. IsCostAbove t ranks cost s m) n → cost s ≡ Some (suc n)
  pub none : (s : ℕ) → ¬ LeadsDown t ranks to s → ((n : ℕ) → ¬ IsCostAbove t ranks cost s n) → cost s ≡ None

-- there is none
abbrev pub HasNoCost : Topology → List ℕ → ℕ → ℕ → Type 0
HasNoCost t ranks to s = (cost : ℕ → Option ℕ) × AreCosts t ranks to cost × (cost s ≡ None)
