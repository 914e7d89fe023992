-- Loads: which packets stand on which virtual channels.
use Rattle.std.specs.Prelude.{◌≡◌, ℕ, suc, ◌-◌, ◌*◌, ◌/◌, ◌%◌, ◌<◌, ◌^◌, List, [], length, map, count_by, sum_by, Option, Some, None, is_some, IfSome, slice_get, slice_index_or, slice_set, nat_lt, if◌then◌else◌}
use Rattle.fab_model.specs.declared.rows.TerminalRow.{TerminalRow}
use Rattle.fab_model.specs.Topology.{Topology}
use Rattle.fab_model.specs.WellFormed.{IsFabric}
use Rattle.fab_tables.specs.declared.plan.Plan.{Plan}
use Rattle.fab_tables.specs.declared.verdict.VirtualChannel.{VirtualChannel}
use Rattle.fab_tables.specs.VirtualChannels.{virtual_channel}
use Rattle.fab_tables.specs.Dependencies.{IsPath, node_of}
use Rattle.fab_tables.specs.Reading.{count_read, hops_read}
use Rattle.fab_drain.specs.declared.packet.Packet.{Packet}
pub use Rattle.fab_drain.specs.declared.packet.Loaded.{Loaded}

-- ---- packets

abbrev pub hops_of_row : Topology → Plan → ℕ → Option TerminalRow → List VirtualChannel
hops_of_row t p lid None = []
hops_of_row t p lid (Some row) = hops_read t p row lid

-- the virtual channels of the packet's route
abbrev pub hops_of : Topology → Plan → Packet → List VirtualChannel
hops_of t p packet = hops_of_row t p packet.lid.0 (slice_get t.terminals packet.terminal.0)

-- the one on which it stands, and the one to which it goes next
abbrev pub stand_of : Topology → Plan → Packet → Option VirtualChannel
stand_of t p packet = slice_get (hops_of t p packet) packet.position

abbrev pub next_of : Topology → Plan → Packet → Option VirtualChannel
next_of t p packet = slice_get (hops_of t p packet) (suc packet.position)

abbrev pub remaining_hops : Topology → Plan → Packet → ℕ
remaining_hops t p packet = length (hops_of t p packet) - packet.position

-- a packet has a terminal, a LID connected to its switch, and a position on the route
pub record IsPacket (t : Topology) (p : Plan) (packet : Packet) : Type 0 where
  pub row : TerminalRow
  pub terminal : slice_get t.terminals packet.terminal.0 ≡ Some row
  pub path : IsPath t row packet.lid.0
  pub position : packet.position < length (hops_of t p packet)

-- ---- loads

-- by channel and lane, the packet that stands there
pub record Load : Type 0 where
  pub count : ℕ  -- the lane count
  pub cells : List (Option Loaded)

-- the virtual channel of a cell
abbrev pub channel_of_cell : ℕ → ℕ → VirtualChannel
channel_of_cell count cell = virtual_channel (cell / count) (cell % count)

-- the packet on a virtual channel
abbrev pub loaded_at : Load → VirtualChannel → Option Loaded
loaded_at load v = if nat_lt v.lane load.count then slice_index_or load.cells (node_of load.count v) None else None

abbrev pub with_cell : Load → VirtualChannel → Option Loaded → Load
with_cell load v new = record load { cells = slice_set load.cells (node_of load.count v) new }

abbrev pub emptied : Load → Load
emptied load = record load { cells = map (λ cell. None) load.cells }

-- how many packets there are, and the sum of their remaining hops
abbrev pub packet_count : Load → ℕ
packet_count load = count_by is_some load.cells

abbrev pub hops_in_cell : Option Loaded → ℕ
hops_in_cell None = 0
hops_in_cell (Some loaded) = loaded.remaining

abbrev pub hops_left : Load → ℕ
hops_left load = sum_by hops_in_cell load.cells

abbrev pub loaded_with : Topology → Plan → Packet → Loaded
loaded_with t p packet = record { packet = packet; remaining = remaining_hops t p packet }

-- it has a cell
abbrev pub IsPlace : Load → VirtualChannel → Type 0
IsPlace load v = (v.lane < load.count) × (node_of load.count v < length load.cells)

-- the packet stands on the virtual channel, and its remaining hops are kept with it
pub record StandsOn (t : Topology) (p : Plan) (v : VirtualChannel) (loaded : Loaded) : Type 0 where
  pub is_packet : IsPacket t p loaded.packet
  pub stands : stand_of t p loaded.packet ≡ Some v
  pub remaining : loaded.remaining ≡ remaining_hops t p loaded.packet

-- A load of the plan on the fabric: it has a cell for each virtual channel, and each packet stands on its own.
pub record IsLoad (t : Topology) (p : Plan) (load : Load) : Type 0 where
  pub fabric : IsFabric t
  pub count : load.count ≡ count_read p.lanes
  pub each : length load.cells ≡ length t.channels * load.count
  pub stand : (v : VirtualChannel) → IfSome (loaded_at load v) (StandsOn t p v)

-- what `State` keeps
pub record AreCells (load : Load) : Type 0 where
  pub some_lane : 0 < load.count
  pub few_cells : length load.cells < 2 ^ 32
