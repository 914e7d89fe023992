-- Each row of a fabric is stated by its own records: a channel once, and a terminal at both ends.
use Rattle.std.proofs.Common.{◌≡◌, ◌≢◌, ℕ, ◌+◌, ◌<◌, inl, inr, List, length, Option, Some, None, refl, sym, ◌∙◌, ap, subst, arith}
use Rattle.std.specs.Prelude.{All, map, option_map, slice_get, find, ◌==◌}
use Rattle.std.specs.List.{enumerate_from}
use Rattle.std.specs.Option.{option_or}
use Rattle.std.proofs.lemmas.Bool.{and_parts, and_from, eqb-true, eq-eqb, false_from_ne_true}
use Rattle.fab_model.specs.declared.raw.RawLink.{RawLink}
use Rattle.fab_model.specs.declared.rows.SwitchRow.{SwitchRow}
use Rattle.fab_model.specs.declared.rows.AdapterRow.{AdapterRow}
use Rattle.fab_model.specs.declared.rows.ChannelRow.{ChannelRow}
use Rattle.fab_model.specs.declared.rows.TerminalRow.{TerminalRow}
use Rattle.fab_model.specs.Records.{Stated, stated}
use Rattle.fab_model.specs.Topology.{Topology, ports_of, leaves_by, is_cabled_at}
use Rattle.fab_model.specs.WellFormed.{IsWellFormed, IsPort, GoesBefore, UseOtherPorts, AreOtherPorts, adapter_ports_of}
use Rattle.fab_model.specs.Written.{Block, blocks, records_of, switch_block, adapter_block, switch_link, terminal_link, adapter_link, port_numbers, is_on_adapter}
use Rattle.fab_model.proofs.Lists.Members.{In, in_all, pairs_from_AllPairs, cases_pairs, in_left, in_right, in_map}
use Rattle.fab_model.proofs.Lists.Found.{in_filter_map, find_only, find_none, in_enumerate, in_range, slice_get_some}
use Rattle.fab_model.proofs.MakesItself.Laid.{IsLaid, in_stated_of}
use Rattle.fab_model.proofs.MakesItself.Kinds.{IsChannelLink, IsSwitchEnd, IsAdapterEnd, channel_raw, switch_end_raw, adapter_end_raw, channel_kind, switch_end_kind, adapter_end_kind, stated_is, ports_at, adapter_ports_at}

-- ---- the blocks of nodes

pub switch_block_within : (fabric : Topology) (s : ℕ) (row : SwitchRow) → slice_get fabric.switches s ≡ Some row → In (switch_block fabric (s, row)) (blocks fabric)
switch_block_within fabric s row at =
    let same : 0 + s ≡ s = omega arith in
    in_left (map (switch_block fabric) (enumerate_from 0 fabric.switches)) (map (adapter_block fabric) (enumerate_from 0 fabric.adapters)) (switch_block fabric (s, row))
    (subst (λ (n : ℕ). In (switch_block fabric (n, row)) (map (switch_block fabric) (enumerate_from 0 fabric.switches))) same
    (in_map (switch_block fabric) (enumerate_from 0 fabric.switches) (0 + s, row) (in_enumerate 0 fabric.switches s row at)))

pub adapter_block_within : (fabric : Topology) (a : ℕ) (row : AdapterRow) → slice_get fabric.adapters a ≡ Some row → In (adapter_block fabric (a, row)) (blocks fabric)
adapter_block_within fabric a row at =
    let same : 0 + a ≡ a = omega arith in
    in_right (map (switch_block fabric) (enumerate_from 0 fabric.switches)) (map (adapter_block fabric) (enumerate_from 0 fabric.adapters)) (adapter_block fabric (a, row))
    (subst (λ (n : ℕ). In (adapter_block fabric (n, row)) (map (adapter_block fabric) (enumerate_from 0 fabric.adapters))) same
    (in_map (adapter_block fabric) (enumerate_from 0 fabric.adapters) (0 + a, row) (in_enumerate 0 fabric.adapters a row at)))

in_stated : (fabric : Topology) (block : Block) (link : RawLink) → In block (blocks fabric) → In link block.links → (one : Stated) × In one (stated (records_of fabric)) × IsLaid block link one
in_stated fabric block link within under =
    let there = in_stated_of (blocks fabric) 1 0 block link within under in
    (there.0, subst (λ (l : List Stated). In there.0 l) (sym (stated_is fabric)) there.1, there.2)

port_within : (ports port : ℕ) → IsPort ports port → In port (port_numbers ports)
port_within ports port is = in_range 1 ports port (omega (arith, is.0)) (omega (arith, is.1))

-- ---- what stands at a port

channel_found : (fabric : Topology) → IsWellFormed fabric → (row : ChannelRow) → In row fabric.channels → find (leaves_by row.tail.0 row.port) fabric.channels ≡ Some row
channel_found fabric rows row within =
    find_only (leaves_by row.tail.0 row.port) fabric.channels row within
    (and_from (row.tail.0 == row.tail.0) (row.port == row.port) (eq-eqb row.tail.0 row.tail.0 refl) (eq-eqb row.port row.port refl))
    (λ other in_other passes.
    let parts = and_parts (other.tail.0 == row.tail.0) (other.port == row.port) passes in
    same_place other row in_other within (eqb-true other.tail.0 row.tail.0 parts.0) (eqb-true other.port row.port parts.1))
  where
    never : (x y : ChannelRow) → x.tail.0 ≡ y.tail.0 → x.port ≡ y.port → GoesBefore x y → ⊥
    never x y tail port (inl less) = omega (arith, less)
    never x y tail port (inr both) = omega (arith, both.1)

    same_place : (x y : ChannelRow) → In x fabric.channels → In y fabric.channels → x.tail.0 ≡ y.tail.0 → x.port ≡ y.port → x ≡ y
    same_place x y in_x in_y tail port =
        elim (cases_pairs GoesBefore fabric.channels (pairs_from_AllPairs GoesBefore fabric.channels rows.channels_rise) x y in_x in_y) [
          | inl same ↦ same
          | inr (inl less) ↦ absurd (never x y tail port less)
          | inr (inr more) ↦ absurd (never y x (sym tail) (sym port) more)
        ]

no_channel_found : (fabric : Topology) → IsWellFormed fabric → (row : TerminalRow) → In row fabric.terminals → find (leaves_by row.switch.0 row.port) fabric.channels ≡ None
no_channel_found fabric rows row within =
    find_none (leaves_by row.switch.0 row.port) fabric.channels (λ channel in_channel.
    false_from_ne_true (leaves_by row.switch.0 row.port channel) (λ passes.
    let parts = and_parts (channel.tail.0 == row.switch.0) (channel.port == row.port) passes in
    in_all (λ (channel : ChannelRow). channel.tail.0 ≡ row.switch.0 → channel.port ≢ row.port) fabric.channels
    (in_all (λ (terminal : TerminalRow). All (λ channel. channel.tail.0 ≡ terminal.switch.0 → channel.port ≢ terminal.port) fabric.channels) fabric.terminals
    rows.no_channel_there row within)
    channel in_channel (eqb-true channel.tail.0 row.switch.0 parts.0) (eqb-true channel.port row.port parts.1)))

terminal_found : (fabric : Topology) → IsWellFormed fabric → (row : TerminalRow) → In row fabric.terminals → find (is_cabled_at row.switch.0 row.port) fabric.terminals ≡ Some row
terminal_found fabric rows row within =
    find_only (is_cabled_at row.switch.0 row.port) fabric.terminals row within
    (and_from (row.switch.0 == row.switch.0) (row.port == row.port) (eq-eqb row.switch.0 row.switch.0 refl) (eq-eqb row.port row.port refl))
    (λ other in_other passes.
    let parts = and_parts (other.switch.0 == row.switch.0) (other.port == row.port) passes in
    let switch = eqb-true other.switch.0 row.switch.0 parts.0 in
    let port = eqb-true other.port row.port parts.1 in
    elim (cases_pairs UseOtherPorts fabric.terminals (pairs_from_AllPairs UseOtherPorts fabric.terminals rows.switch_ports_differ) other row in_other within) [
      | inl same ↦ same
      | inr (inl apart) ↦ absurd (apart switch port)
      | inr (inr apart) ↦ absurd (apart (sym switch) (sym port))
    ])

on_adapter_found : (fabric : Topology) → IsWellFormed fabric → (row : TerminalRow) → In row fabric.terminals → find (is_on_adapter row.adapter row.adapter_port) fabric.terminals ≡ Some row
on_adapter_found fabric rows row within =
    find_only (is_on_adapter row.adapter row.adapter_port) fabric.terminals row within
    (and_from (row.adapter == row.adapter) (row.adapter_port == row.adapter_port) (eq-eqb row.adapter row.adapter refl) (eq-eqb row.adapter_port row.adapter_port refl))
    (λ other in_other passes.
    let parts = and_parts (other.adapter == row.adapter) (other.adapter_port == row.adapter_port) passes in
    let adapter = eqb-true other.adapter row.adapter parts.0 in
    let port = eqb-true other.adapter_port row.adapter_port parts.1 in
    elim (cases_pairs AreOtherPorts fabric.terminals (pairs_from_AllPairs AreOtherPorts fabric.terminals rows.adapter_ports_differ) other row in_other within) [
      | inl same ↦ same
      | inr (inl apart) ↦ absurd (apart adapter port)
      | inr (inr apart) ↦ absurd (apart (sym adapter) (sym port))
    ])

-- ---- each row is stated

pub channel_is_stated : (fabric : Topology) → IsWellFormed fabric → (row : ChannelRow) → In row fabric.channels → (one : Stated) × In one (stated (records_of fabric)) × IsChannelLink fabric row one
channel_is_stated fabric rows row within =
    let node = slice_get_some fabric.switches row.tail.0 (in_all (λ (row : ChannelRow). row.tail.0 < length fabric.switches) fabric.channels rows.channel_tails row within) in
    let port : IsPort node.0.ports row.port =
    subst (λ (ports : ℕ). IsPort ports row.port) (ports_at fabric row.tail.0 node.0 node.1)
    (in_all (λ (row : ChannelRow). IsPort (ports_of fabric row.tail.0) row.port) fabric.channels rows.channel_ports row within) in
    let link : switch_link fabric row.tail.0 row.port ≡ Some (channel_raw fabric row.port row) =
    ap (λ (o : Option ChannelRow). option_or (option_map (channel_raw fabric row.port) o) (terminal_link fabric row.tail.0 row.port)) (channel_found fabric rows row within) in
    let there = in_stated fabric (switch_block fabric (row.tail.0, node.0)) (channel_raw fabric row.port row)
    (switch_block_within fabric row.tail.0 node.0 node.1)
    (in_filter_map (switch_link fabric row.tail.0) (port_numbers node.0.ports) row.port (channel_raw fabric row.port row) (port_within node.0.ports row.port port) link) in
    (there.0, there.1, channel_kind fabric (row.tail.0, node.0) row.port row (channel_raw fabric row.port row) there.0 node.1 refl refl refl there.2)

pub switch_end_is_stated : (fabric : Topology) → IsWellFormed fabric → (row : TerminalRow) → In row fabric.terminals → (one : Stated) × In one (stated (records_of fabric)) × IsSwitchEnd fabric row one
switch_end_is_stated fabric rows row within =
    let node = slice_get_some fabric.switches row.switch.0 (in_all (λ (row : TerminalRow). row.switch.0 < length fabric.switches) fabric.terminals rows.terminal_switches row within) in
    let port : IsPort node.0.ports row.port =
    subst (λ (ports : ℕ). IsPort ports row.port) (ports_at fabric row.switch.0 node.0 node.1)
    (in_all (λ (row : TerminalRow). IsPort (ports_of fabric row.switch.0) row.port) fabric.terminals rows.terminal_ports row within) in
    let link : switch_link fabric row.switch.0 row.port ≡ Some (switch_end_raw fabric row.port row) =
    ap (λ (o : Option ChannelRow). option_or (option_map (channel_raw fabric row.port) o) (terminal_link fabric row.switch.0 row.port)) (no_channel_found fabric rows row within)
    ∙ ap (option_map (switch_end_raw fabric row.port)) (terminal_found fabric rows row within) in
    let there = in_stated fabric (switch_block fabric (row.switch.0, node.0)) (switch_end_raw fabric row.port row)
    (switch_block_within fabric row.switch.0 node.0 node.1)
    (in_filter_map (switch_link fabric row.switch.0) (port_numbers node.0.ports) row.port (switch_end_raw fabric row.port row) (port_within node.0.ports row.port port) link) in
    (there.0, there.1, switch_end_kind fabric (row.switch.0, node.0) row.port row (switch_end_raw fabric row.port row) there.0 node.1 refl refl refl there.2)

pub adapter_end_is_stated : (fabric : Topology) → IsWellFormed fabric → (row : TerminalRow) → In row fabric.terminals → (one : Stated) × In one (stated (records_of fabric)) × IsAdapterEnd fabric row one
adapter_end_is_stated fabric rows row within =
    let node = slice_get_some fabric.adapters row.adapter (in_all (λ (row : TerminalRow). row.adapter < length fabric.adapters) fabric.terminals rows.terminal_adapters row within) in
    let port : IsPort node.0.ports row.adapter_port =
    subst (λ (ports : ℕ). IsPort ports row.adapter_port) (adapter_ports_at fabric row.adapter node.0 node.1)
    (in_all (λ (row : TerminalRow). IsPort (adapter_ports_of fabric row.adapter) row.adapter_port) fabric.terminals rows.terminal_adapter_ports row within) in
    let there = in_stated fabric (adapter_block fabric (row.adapter, node.0)) (adapter_end_raw fabric row.adapter_port row)
    (adapter_block_within fabric row.adapter node.0 node.1)
    (in_filter_map (adapter_link fabric row.adapter) (port_numbers node.0.ports) row.adapter_port (adapter_end_raw fabric row.adapter_port row)
    (port_within node.0.ports row.adapter_port port)
    (ap (option_map (adapter_end_raw fabric row.adapter_port)) (on_adapter_found fabric rows row within))) in
    (there.0, there.1, adapter_end_kind fabric (row.adapter, node.0) row.adapter_port row (adapter_end_raw fabric row.adapter_port row) there.0 node.1 refl refl refl there.2)
