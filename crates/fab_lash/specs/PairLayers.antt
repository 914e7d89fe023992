-- Layers as a list: for each switch a row, in it the layer of the switch and each switch; 0 where they are no pair.
use Rattle.std.specs.Prelude.{ℕ, ◌<◌, List, slice_index_or}
use Rattle.fab_model.specs.Topology.{Topology}
use Rattle.fab_model.specs.Connected.{AreConnected}
use Rattle.fab_tables.specs.Entries.{Entries, cell}
use Rattle.fab_lash.specs.declared.layered.LashFault.{LashFault}
use Rattle.fab_lash.specs.declared.layered.LashFault.TheVariants.{NeedsLane, Memory}
use Rattle.fab_lash.specs.Layerings as layerings

abbrev pub layer_at : ℕ → List ℕ → ℕ → ℕ → ℕ
layer_at switches layers low high = slice_index_or layers (cell switches low high) 0

-- the layers of connected switches are below the limit
abbrev pub AreBelow : Topology → (ℕ → ℕ → ℕ) → ℕ → Type 0
AreBelow t layer limit = (a b : ℕ) → AreConnected t a b → layerings.layer_of_two layer a b < limit

-- these tables have no layers on so many lanes, or memory is wanting
abbrev pub HasNoLayers : Topology → Entries → ℕ → LashFault → Type 0
HasNoLayers t e count (NeedsLane low high) = layerings.NeedsLane t e count low.0 high.0
HasNoLayers t e count (Memory refused) = Unit {0}
