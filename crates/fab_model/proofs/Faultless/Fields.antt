-- The rows of records without a fault, as the invariant of a fabric has them.
use Rattle.std.proofs.Common.{◌≡◌, ◌≢◌, ℕ, ◌+◌, ◌*◌, ◌<◌, ◌≤◌, inl, inr, true, List, length, sym, ◌∙◌, ap, subst, arith}
use Rattle.std.specs.Prelude.{All, Contains, map, slice_get, option_map, unwrap_or}
use Rattle.std.proofs.lemmas.Bool.{both_ways, not-true}
use Rattle.std.proofs.lemmas.List.{length-map}
use Rattle.fab_model.specs.declared.raw.RawNode.{RawNode}
use Rattle.fab_model.specs.declared.rows.SwitchRow.{SwitchRow}
use Rattle.fab_model.specs.declared.rows.AdapterRow.{AdapterRow}
use Rattle.fab_model.specs.declared.rows.ChannelRow.{ChannelRow}
use Rattle.fab_model.specs.declared.rows.TerminalRow.{TerminalRow}
use Rattle.fab_model.specs.Records.{Records, Stated, is_switch, is_adapter}
use Rattle.fab_model.specs.Faults.{switch_limit, lid_limit, port_limit}
use Rattle.fab_model.specs.InOrder.{in_order}
use Rattle.fab_model.specs.Topology.{reversed}
use Rattle.fab_model.specs.WellFormed.{IsWellFormed, GoesBefore, IsUnicast, IsPort, UseOtherPorts, AreOtherPorts}
use Rattle.fab_model.specs.Built.{topology_of, switch_rows, adapter_rows, channel_rows, terminal_rows, channel_row, terminal_row, switch_number, by_guid, by_lid}
use Rattle.fab_model.proofs.Lists.Members.{In, Pairs, All_from_in, AllPairs_from_pairs, Contains_from_in, length_from_in, cases_pairs, pairs_map}
use Rattle.fab_model.proofs.Lists.InOrder.{pairs_in_order}
use Rattle.fab_model.proofs.Faultless.Facts.{adapter_links, switch_nodes}
use Rattle.fab_model.proofs.Faultless.Sound.{AreSound, AreFew}
use Rattle.fab_model.proofs.Faultless.Nodes.{switch_row, adapter_row, from_switch_rows, in_switch_rows, length-switch_rows, switch_rows_rise, from_adapter_rows, adapter_rows_rise}
use Rattle.fab_model.proofs.Faultless.Lids as lid
use Rattle.fab_model.proofs.Faultless.Channels as channel
use Rattle.fab_model.proofs.Faultless.Terminals as terminal
use Rattle.fab_model.proofs.Faultless.Count.{channels_within}
use Rattle.fab_model.proofs.Order.{length-in_order}

-- what holds of each row, from what holds of each node or link

all_switches : (records : Records) (P : SwitchRow → Type 0) → ((node : RawNode) → In node records.nodes → is_switch node.kind ≡ true → P (switch_row node)) → All P (switch_rows records)
all_switches records P each =
    All_from_in P (switch_rows records) (λ row within.
    let there = from_switch_rows records row within in subst P there.3 (each there.0 there.1 there.2))

all_adapters : (records : Records) (P : AdapterRow → Type 0) → ((node : RawNode) → In node records.nodes → is_adapter node.kind ≡ true → P (adapter_row node)) → All P (adapter_rows records)
all_adapters records P each =
    All_from_in P (adapter_rows records) (λ row within.
    let there = from_adapter_rows records row within in subst P there.3 (each there.0 there.1 there.2))

abbrev pub channels : Records → List ChannelRow
channels records = channel_rows (switch_rows records) records

abbrev pub terminals : Records → List TerminalRow
terminals records = terminal_rows (switch_rows records) (adapter_rows records) records

each_channel : (records : Records) (P : ChannelRow → Type 0) → ((one : Stated) → channel.IsJoining records one → P (channel_row (switch_rows records) one)) → (row : ChannelRow) → In row (channels records) → P row
each_channel records P each row within =
    let there = channel.from_channel_rows records row within in subst P there.2 (each there.0 there.1)

all_channels : (records : Records) (P : ChannelRow → Type 0) → ((one : Stated) → channel.IsJoining records one → P (channel_row (switch_rows records) one)) → All P (channels records)
all_channels records P each = All_from_in P (channels records) (each_channel records P each)

all_terminals : (records : Records) (P : TerminalRow → Type 0) → ((one : Stated) → terminal.IsEnding records one → P (terminal_row (switch_rows records) (adapter_rows records) one)) → All P (terminals records)
all_terminals records P each =
    All_from_in P (terminals records) (λ row within.
    let there = terminal.from_terminal_rows records row within in subst P there.2 (each there.0 there.1))

-- ---- the counts

some_switch : (records : Records) → AreSound records → 0 < length (switch_rows records)
some_switch records sound =
    length_from_in (switch_rows records) (switch_row sound.some_switch.0)
    (in_switch_rows records sound.some_switch.0 sound.some_switch.1 sound.some_switch.2)

switch_count : (records : Records) → AreFew records → length (switch_rows records) ≤ switch_limit
switch_count records few = omega (arith, few.switch_count, length-switch_rows records)

pub length-terminals : (records : Records) → length (terminals records) ≡ length (adapter_links records)
length-terminals records =
    length-in_order by_lid (map (terminal_row (switch_rows records) (adapter_rows records)) (adapter_links records))
    ∙ length-map (adapter_links records) (terminal_row (switch_rows records) (adapter_rows records))

lid_count : (records : Records) → AreFew records → length (switch_rows records) + length (terminals records) ≤ lid_limit
lid_count records few = omega (arith, lid.lids_within records few, length-switch_rows records, length-terminals records)

channel_count : (records : Records) → AreSound records → AreFew records → length (channels records) ≤ switch_limit * port_limit
channel_count records sound few =
    channels_within (channels records) (channel.channels_rise records sound)
    (each_channel records (λ (row : ChannelRow). row.tail.0 < switch_limit) (λ one is. omega (arith, channel.tail_within records sound one is, switch_count records few)))
    (each_channel records (λ (row : ChannelRow). 0 < row.port) (λ one is. (sound.link_ports one is.within).0))
    (each_channel records (λ (row : ChannelRow). row.port ≤ port_limit) (λ one is.
    let low = (sound.link_ports one is.within).1 in
    let high = sound.node_ports one.node (sound.link_nodes one is.within) in
    omega (arith, low, high)))

-- ---- GUIDs and LIDs of two rows

guids_across : (records : Records) → AreSound records → All (λ switch. All (λ adapter. switch.guid ≢ adapter.guid) (adapter_rows records)) (switch_rows records)
guids_across records sound =
    all_switches records (λ (switch : SwitchRow). All (λ adapter. switch.guid ≢ adapter.guid) (adapter_rows records)) (λ node within is.
    all_adapters records (λ (adapter : AdapterRow). node.guid ≢ adapter.guid) (λ other in_other is_other guid.
    elim (cases_pairs (λ (one other : RawNode). one.guid ≢ other.guid) records.nodes sound.guids_differ node other within in_other) [
      | inl same ↦ both_ways (is_switch node.kind)
          (ap (λ (node : RawNode). is_switch node.kind) same ∙ not-true (is_switch other.kind) is_other) is
      | inr (inl apart) ↦ apart guid
      | inr (inr apart) ↦ apart (sym guid)
    ]))

lids_differ : (records : Records) → AreSound records → Pairs (λ first second. first.lid.0 ≢ second.lid.0) (switch_rows records)
lids_differ records sound =
    pairs_map (λ (first second : SwitchRow). first.lid.0 ≢ second.lid.0) switch_row (in_order by_guid (switch_nodes records))
    (pairs_in_order (λ (one other : RawNode). one.lid ≢ other.lid) by_guid (λ x y apart same. apart (sym same)) (switch_nodes records)
    (lid.switch_lids_differ records sound))

lids_across : (records : Records) → AreSound records → All (λ switch. All (λ terminal. switch.lid.0 ≢ terminal.lid.0) (terminals records)) (switch_rows records)
lids_across records sound =
    all_switches records (λ (switch : SwitchRow). All (λ terminal. switch.lid.0 ≢ terminal.lid.0) (terminals records)) (λ node within is.
    all_terminals records (λ (line : TerminalRow). node.lid ≢ line.lid.0) (λ one ends.
    lid.lids_across records sound node one within is ends.within ends.near))

none_there : (records : Records) → AreSound records → All (λ terminal. All (λ channel. channel.tail.0 ≡ terminal.switch.0 → channel.port ≢ terminal.port) (channels records)) (terminals records)
none_there records sound =
    all_terminals records (λ (line : TerminalRow). All (λ channel. channel.tail.0 ≡ line.switch.0 → channel.port ≢ line.port) (channels records)) (λ one ends.
    all_channels records
    (λ (row : ChannelRow). row.tail.0 ≡ switch_number (switch_rows records) one.link.far_guid → row.port ≢ one.link.far_port)
    (λ other joins. terminal.no_channel records sound one other ends joins))

-- ---- the invariant

abbrev ports_at : Records → ℕ → ℕ
ports_at records switch = unwrap_or (option_map (λ row. row.ports) (slice_get (switch_rows records) switch)) 0

abbrev adapter_ports_at : Records → ℕ → ℕ
adapter_ports_at records adapter = unwrap_or (option_map (λ row. row.ports) (slice_get (adapter_rows records) adapter)) 0

pub is_well_formed : (records : Records) → AreSound records → AreFew records → IsWellFormed (topology_of records)
unfolding topology_of
is_well_formed records sound few = record {
  some_switch = some_switch records sound;
  switch_count = switch_count records few;
  lid_count = lid_count records few;
  channel_count = channel_count records sound few;
  switch_guids = AllPairs_from_pairs (λ (first second : SwitchRow). first.guid < second.guid) (switch_rows records) (switch_rows_rise records sound);
  adapter_guids = AllPairs_from_pairs (λ (first second : AdapterRow). first.guid < second.guid) (adapter_rows records) (adapter_rows_rise records sound);
  other_guids = guids_across records sound;
  switch_ports = all_switches records (λ (row : SwitchRow). row.ports ≤ port_limit) (λ node within is. sound.node_ports node within);
  adapter_ports = all_adapters records (λ (row : AdapterRow). row.ports ≤ port_limit) (λ node within is. sound.node_ports node within);
  switch_lids = all_switches records (λ (row : SwitchRow). IsUnicast row.lid.0) (λ node within is. lid.switch_lid records sound node within is);
  terminal_lids = all_terminals records (λ (row : TerminalRow). IsUnicast row.lid.0) (λ one ends. lid.link_lid records sound one ends.within ends.near);
  switch_lids_differ = AllPairs_from_pairs (λ (first second : SwitchRow). first.lid.0 ≢ second.lid.0) (switch_rows records) (lids_differ records sound);
  terminal_lids_rise = AllPairs_from_pairs (λ (first second : TerminalRow). first.lid.0 < second.lid.0) (terminals records) (terminal.terminals_rise records sound);
  other_lids = lids_across records sound;
  channels_rise = AllPairs_from_pairs GoesBefore (channels records) (channel.channels_rise records sound);
  channel_tails = all_channels records (λ (row : ChannelRow). row.tail.0 < length (switch_rows records)) (channel.tail_within records sound);
  channel_ports = all_channels records (λ (row : ChannelRow). IsPort (ports_at records row.tail.0) row.port) (channel.port_of_channel records sound);
  reverses = all_channels records (λ (row : ChannelRow). Contains (channels records) (reversed row))
      (λ one joins. Contains_from_in (channels records) (reversed (channel_row (switch_rows records) one)) (channel.has_reverse records sound one joins));
  terminal_switches = all_terminals records (λ (row : TerminalRow). row.switch.0 < length (switch_rows records)) (terminal.switch_within records sound);
  terminal_ports = all_terminals records (λ (row : TerminalRow). IsPort (ports_at records row.switch.0) row.port) (terminal.port_of_terminal records sound);
  terminal_adapters = all_terminals records (λ (row : TerminalRow). row.adapter < length (adapter_rows records)) (terminal.adapter_within records sound);
  terminal_adapter_ports = all_terminals records (λ (row : TerminalRow). IsPort (adapter_ports_at records row.adapter) row.adapter_port) (terminal.adapter_port_of_terminal records sound);
  switch_ports_differ = AllPairs_from_pairs UseOtherPorts (terminals records) (terminal.switch_ports_differ records sound);
  adapter_ports_differ = AllPairs_from_pairs AreOtherPorts (terminals records) (terminal.adapter_ports_differ records sound);
  no_channel_there = none_there records sound;
}
