-- What a fabric's indexes say, so that no list is searched from its front.
use Rattle.std.specs.Prelude.{◌≡◌, ℕ, ◌+◌, ◌*◌, ◌<◌, ◌≤◌, Bool, false, List, [], length, map, Option, None, is_some, option_map, slice_index, slice_index_or}
use Rattle.fab_model.specs.declared.indexes.Indexes.{Indexes}
use Rattle.fab_model.specs.declared.rows.SwitchRow.{SwitchRow}
use Rattle.fab_model.specs.declared.rows.AdapterRow.{AdapterRow}
use Rattle.fab_model.specs.declared.rows.ChannelRow.{ChannelRow}
use Rattle.fab_model.specs.declared.rows.TerminalRow.{TerminalRow}
use Rattle.fab_model.specs.declared.rows.Place.{Place}
use Rattle.fab_model.specs.declared.rows.Lid.{Lid}
use Rattle.fab_model.specs.WellFormed.{IsFabric}
use Rattle.fab_model.specs.Topology.{Topology, channel_id, terminal_id, channel_at, terminal_at, first_channel, is_source, lids_of, place_of}

-- the rows but for the adapters, which no index speaks of
abbrev pub only : List SwitchRow → List ChannelRow → List TerminalRow → Topology
only switches channels terminals = record { switches = switches; adapters = []; channels = channels; terminals = terminals }

-- the rows are those of a fabric
abbrev pub AreRows : List SwitchRow → List ChannelRow → List TerminalRow → Type 0
AreRows switches channels terminals = (adapters : List AdapterRow) × IsFabric (record { switches = switches; adapters = adapters; channels = channels; terminals = terminals })

-- 264 cells for each switch in turn, one for each port from 0 to 255 with what is there
pub record IsByPort {X : Type 0} (at : ℕ → ℕ → Option X) (switches : ℕ) (cells : List (Option X)) : Type 0 where
  pub count : length cells ≡ 264 * switches
  pub each : (switch port : ℕ) → switch < switches → port < 256 → slice_index_or cells (264 * switch + port) None ≡ at switch port

-- for each switch, and once more behind the last, how many channels leave smaller ones
pub record AreFirstChannels (channels : List ChannelRow) (switches : ℕ) (numbers : List ℕ) : Type 0 where
  pub count : length numbers ≡ switches + 1
  pub each : (switch : ℕ) → switch ≤ switches → slice_index numbers switch ≡ first_channel (only [] channels []) switch

-- for each switch whether it has a terminal
pub record AreSources (terminals : List TerminalRow) (switches : ℕ) (flags : List Bool) : Type 0 where
  pub count : length flags ≡ switches
  pub each : (switch : ℕ) → switch < switches → slice_index_or flags switch false ≡ is_source (only [] [] terminals) switch

-- for each number below 65,536 its place as a LID
pub record AreByLid (fabric : Topology) (places : List (Option Place)) : Type 0 where
  pub count : length places ≡ 65536
  pub each : (lid : ℕ) → lid < 65536 → slice_index_or places lid None ≡ place_of fabric lid

-- whether a number has a place as a LID
abbrev pub has_place : List (Option Place) → ℕ → Bool
has_place places lid = is_some (slice_index_or places lid None)

pub record AreIndexes (switches : List SwitchRow) (channels : List ChannelRow) (terminals : List TerminalRow) (indexes : Indexes) : Type 0 where
  pub channels_by_port : IsByPort (λ switch port. option_map channel_id (channel_at (only [] channels []) switch port)) (length switches) indexes.channels_by_port.items
  pub terminals_by_port : IsByPort (λ switch port. option_map terminal_id (terminal_at (only [] [] terminals) switch port)) (length switches) indexes.terminals_by_port.items
  pub first_channels : AreFirstChannels channels (length switches) indexes.first_channels.items
  pub sources_by_switch : AreSources terminals (length switches) indexes.sources_by_switch.items
  pub places_by_lid : AreByLid (only switches [] terminals) indexes.places_by_lid.items
  pub lids_in_use : map (λ (lid : Lid). lid.0) indexes.lids_in_use.items ≡ lids_of (only switches [] terminals)
