-- The components of a fabric: which switches are connected.
use Rattle.std.specs.Prelude.{◌≡◌, ℕ, ◌<◌, ◌↔◌, List, Option, None, length, slice_index_or}
use Rattle.fab_model.specs.Topology.{Topology}
use Rattle.fab_model.specs.Connected.{AreConnected}

-- the number of a switch's component
abbrev pub component_of : List (Option ℕ) → ℕ → Option ℕ
component_of components s = slice_index_or components s None

-- two switches have one number exactly where they are connected
pub record AreComponents (t : Topology) (components : List (Option ℕ)) : Type 0 where
  pub whole : length components ≡ length t.switches
  pub same : (a b : ℕ) → a < length t.switches → b < length t.switches → (component_of components a ≡ component_of components b) ↔ AreConnected t a b
