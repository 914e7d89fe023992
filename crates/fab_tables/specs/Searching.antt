-- A search for the switches of a component, under way.
use Rattle.std.specs.Prelude.{◌≡◌, ℕ, ◌⊎◌, List, [], ◌∷◌, Option, Some, IsSome, length, Contains}
use Rattle.fab_model.specs.declared.rows.SwitchId.{SwitchId}
use Rattle.fab_model.specs.declared.rows.ChannelRow.{ChannelRow}
use Rattle.fab_model.specs.Topology.{Topology}
use Rattle.fab_model.specs.Connected.{AreConnected}
use Rattle.fab_tables.specs.Components.{component_of}

-- the switch is among the pending ones
abbrev pub IsPending : List SwitchId → ℕ → Type 0
IsPending [] s = ⊥
IsPending (x ∷ xs) s = (x.0 ≡ s) ⊎ IsPending xs s

-- the switches of the component of this number are found, but for those behind pending ones
pub record IsSearching (t : Topology) (number : ℕ) (numbers : List (Option ℕ)) (pending : List SwitchId) : Type 0 where
  pub whole : length numbers ≡ length t.switches
  pub waiting : (s : ℕ) → IsPending pending s → component_of numbers s ≡ Some number
  pub joined : (s r : ℕ) → component_of numbers s ≡ Some r → AreConnected t r s
  pub closed : (row : ChannelRow) → Contains t.channels row → IsSome (component_of numbers row.tail.0) → ¬ IsPending pending row.tail.0 →
      component_of numbers row.tip.0 ≡ component_of numbers row.tail.0

-- a number that was given stays
abbrev pub KeepsNumbers : List (Option ℕ) → List (Option ℕ) → Type 0
KeepsNumbers old new = (s r : ℕ) → component_of old s ≡ Some r → component_of new s ≡ Some r

-- no search is under way: what has a number has that of its component
abbrev pub HasSearched : Topology → List (Option ℕ) → Type 0
HasSearched t numbers = IsSearching t 0 numbers []
