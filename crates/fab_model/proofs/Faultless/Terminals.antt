-- The rows of terminals: the links that stand under adapters.
use Rattle.std.proofs.Common.{◌≡◌, ◌≢◌, ℕ, ◌<◌, inl, inr, true, length, sym, ◌∙◌, ap, subst}
use Rattle.std.specs.Prelude.{map, slice_get, option_map, unwrap_or}
use Rattle.std.proofs.lemmas.Bool.{ltb-true, both_ways, not-true}
use Rattle.fab_model.specs.declared.rows.TerminalRow.{TerminalRow}
use Rattle.fab_model.specs.Records.{Records, Stated, stated, is_switch, is_adapter}
use Rattle.fab_model.specs.WellFormed.{IsPort, UseOtherPorts, AreOtherPorts}
use Rattle.fab_model.specs.Built.{by_lid, terminal_row, terminal_rows, switch_rows, adapter_rows, switch_number, adapter_number}
use Rattle.fab_model.proofs.Lists.Members.{In, Pairs, pairs_weaker, pairs_map, pairs_filter, in_map, in_filter, from_map, from_filter, cases_pairs}
use Rattle.fab_model.proofs.Lists.InOrder.{from_in_order, in_in_order, pairs_in_order, rise_in_order, Goes, AreApart}
use Rattle.fab_model.proofs.Faultless.Facts.{AreSides, UseOthers, adapter_links}
use Rattle.fab_model.proofs.Faultless.Sound.{AreSound}
use Rattle.fab_model.proofs.Faultless.Nodes.{less_along, apart_of_numbers, switch_number_within, same_switch, ports_at, adapter_number_within, same_adapter, adapter_ports_at}
use Rattle.fab_model.proofs.Faultless.Lids.{link_lids_differ}
use Rattle.fab_model.proofs.Faultless.Channels.{IsJoining}

pub record IsEnding (records : Records) (one : Stated) : Type 0 where
  pub within : In one (stated records)
  pub near : is_adapter one.node.kind ≡ true

-- the other side of a link under an adapter stands under a switch
record HasFarSwitch (records : Records) (one : Stated) : Type 0 where
  other : Stated
  within : In other (stated records)
  sides : AreSides one other
  node : In other.node records.nodes
  is : is_switch other.node.kind ≡ true

abbrev row : Records → Stated → TerminalRow
row records one = terminal_row (switch_rows records) (adapter_rows records) one

pub from_terminal_rows : (records : Records) (line : TerminalRow) → In line (terminal_rows (switch_rows records) (adapter_rows records) records) → (one : Stated) × IsEnding records one × (terminal_row (switch_rows records) (adapter_rows records) one ≡ line)
from_terminal_rows records line within =
    let there = from_map (row records) (adapter_links records) line (from_in_order by_lid (map (row records) (adapter_links records)) line within) in
    let link = from_filter (λ (one : Stated). is_adapter one.node.kind) (stated records) there.0 there.1 in
    (there.0, record { within = link.0; near = link.1 }, there.2)

pub in_terminal_rows : (records : Records) (one : Stated) → IsEnding records one → In (terminal_row (switch_rows records) (adapter_rows records) one) (terminal_rows (switch_rows records) (adapter_rows records) records)
in_terminal_rows records one is =
    in_in_order by_lid (map (row records) (adapter_links records)) (row records one)
    (in_map (row records) (adapter_links records) one (in_filter (λ (one : Stated). is_adapter one.node.kind) (stated records) one is.within is.near))

from_links : (records : Records) (one : Stated) → In one (adapter_links records) → IsEnding records one
from_links records one within =
    let link = from_filter (λ (one : Stated). is_adapter one.node.kind) (stated records) one within in
    record { within = link.0; near = link.1 }

far_switch : (records : Records) → AreSound records → (one : Stated) → IsEnding records one → HasFarSwitch records one
far_switch records sound one is =
    let there = sound.sides one is.within in
    record {
      other = there.0;
      within = there.1;
      sides = there.2;
      node = sound.link_nodes there.0 there.1;
      is = there.2.kind ∙ sound.switched one is.within is.near;
    }

-- two links under one node by one port are the same
same_link : (records : Records) → AreSound records → (one other : Stated) → In one (stated records) → In other (stated records) → one.node.guid ≡ other.node.guid → one.link.port ≡ other.link.port → one ≡ other
same_link records sound one other in_one in_other guid port =
    elim (cases_pairs UseOthers (stated records) sound.ports_differ one other in_one in_other) [
      | inl same ↦ same
      | inr (inl apart) ↦ absurd (apart guid port)
      | inr (inr apart) ↦ absurd (apart (sym guid) (sym port))
    ]

-- ---- the fields

pub terminals_rise : (records : Records) → AreSound records → Pairs (λ first second. first.lid.0 < second.lid.0) (terminal_rows (switch_rows records) (adapter_rows records) records)
terminals_rise records sound =
    pairs_weaker (Goes by_lid) (λ (first second : TerminalRow). first.lid.0 < second.lid.0) (terminal_rows (switch_rows records) (adapter_rows records) records)
    (λ x y in_x in_y goes. ltb-true x.lid.0 y.lid.0 goes)
    (rise_in_order by_lid (λ x y z. less_along x.lid.0 y.lid.0 z.lid.0) (map (row records) (adapter_links records))
    (pairs_map (AreApart by_lid) (row records) (adapter_links records)
    (pairs_weaker (λ (one other : Stated). one.link.lid ≢ other.link.lid) (λ (one other : Stated). AreApart by_lid (row records one) (row records other)) (adapter_links records)
    (λ one other in_one in_other apart. apart_of_numbers one.link.lid other.link.lid apart)
    (link_lids_differ records sound))))

pub switch_within : (records : Records) → AreSound records → (one : Stated) → IsEnding records one → switch_number (switch_rows records) one.link.far_guid < length (switch_rows records)
switch_within records sound one is =
    let far = far_switch records sound one is in
    subst (λ (guid : ℕ). switch_number (switch_rows records) guid < length (switch_rows records)) far.sides.guid
    (switch_number_within records sound far.other.node far.node far.is)

abbrev ports_of_guid : Records → ℕ → ℕ
ports_of_guid records guid = unwrap_or (option_map (λ row. row.ports) (slice_get (switch_rows records) (switch_number (switch_rows records) guid))) 0

pub port_of_terminal : (records : Records) → AreSound records → (one : Stated) → IsEnding records one → IsPort (unwrap_or (option_map (λ row. row.ports) (slice_get (switch_rows records) (switch_number (switch_rows records) one.link.far_guid))) 0) one.link.far_port
port_of_terminal records sound one is =
    let far = far_switch records sound one is in
    let there : IsPort (ports_of_guid records far.other.node.guid) far.other.link.port =
    subst (λ (ports : ℕ). IsPort ports far.other.link.port) (sym (ports_at records sound far.other.node far.node far.is)) (sound.link_ports far.other far.within) in
    subst (λ (port : ℕ). IsPort (ports_of_guid records one.link.far_guid) port) far.sides.port
    (subst (λ (guid : ℕ). IsPort (ports_of_guid records guid) far.other.link.port) far.sides.guid there)

pub adapter_within : (records : Records) → AreSound records → (one : Stated) → IsEnding records one → adapter_number (adapter_rows records) one.node.guid < length (adapter_rows records)
adapter_within records sound one is = adapter_number_within records sound one.node (sound.link_nodes one is.within) is.near

pub adapter_port_of_terminal : (records : Records) → AreSound records → (one : Stated) → IsEnding records one → IsPort (unwrap_or (option_map (λ row. row.ports) (slice_get (adapter_rows records) (adapter_number (adapter_rows records) one.node.guid))) 0) one.link.port
adapter_port_of_terminal records sound one is =
    subst (λ (ports : ℕ). IsPort ports one.link.port) (sym (adapter_ports_at records sound one.node (sound.link_nodes one is.within) is.near)) (sound.link_ports one is.within)

others_at_switch : (records : Records) → AreSound records → (one other : Stated) → IsEnding records one → IsEnding records other → UseOthers one other → UseOtherPorts (row records one) (row records other)
others_at_switch records sound one other is_one is_other apart number port =
    let far = far_switch records sound one is_one in
    let end = far_switch records sound other is_other in
    let guid : far.other.node.guid ≡ end.other.node.guid =
    same_switch records sound far.other.node end.other.node far.node far.is end.node end.is
    (ap (switch_number (switch_rows records)) far.sides.guid ∙ number ∙ ap (switch_number (switch_rows records)) (sym end.sides.guid)) in
    let same : far.other ≡ end.other =
    same_link records sound far.other end.other far.within end.within guid (far.sides.port ∙ port ∙ sym end.sides.port) in
    apart (far.sides.back_guid ∙ ap (λ (s : Stated). s.link.far_guid) same ∙ sym end.sides.back_guid)
    (sym far.sides.back_port ∙ ap (λ (s : Stated). s.link.far_port) same ∙ end.sides.back_port)

pub switch_ports_differ : (records : Records) → AreSound records → Pairs UseOtherPorts (terminal_rows (switch_rows records) (adapter_rows records) records)
switch_ports_differ records sound =
    pairs_in_order UseOtherPorts by_lid (λ x y apart number port. apart (sym number) (sym port)) (map (row records) (adapter_links records))
    (pairs_map UseOtherPorts (row records) (adapter_links records)
    (pairs_weaker UseOthers (λ (one other : Stated). UseOtherPorts (row records one) (row records other)) (adapter_links records)
    (λ one other in_one in_other apart. others_at_switch records sound one other (from_links records one in_one) (from_links records other in_other) apart)
    (pairs_filter UseOthers (λ (one : Stated). is_adapter one.node.kind) (stated records) sound.ports_differ)))

pub adapter_ports_differ : (records : Records) → AreSound records → Pairs AreOtherPorts (terminal_rows (switch_rows records) (adapter_rows records) records)
adapter_ports_differ records sound =
    pairs_in_order AreOtherPorts by_lid (λ x y apart number port. apart (sym number) (sym port)) (map (row records) (adapter_links records))
    (pairs_map AreOtherPorts (row records) (adapter_links records)
    (pairs_weaker UseOthers (λ (one other : Stated). AreOtherPorts (row records one) (row records other)) (adapter_links records)
    (λ one other in_one in_other apart number.
    let is_one = from_links records one in_one in
    let is_other = from_links records other in_other in
    apart (same_adapter records sound one.node other.node (sound.link_nodes one is_one.within) is_one.near (sound.link_nodes other is_other.within) is_other.near number))
    (pairs_filter UseOthers (λ (one : Stated). is_adapter one.node.kind) (stated records) sound.ports_differ)))

-- a channel at the port of a terminal would be the terminal's other side, which leads to an adapter
pub no_channel : (records : Records) → AreSound records → (one other : Stated) → IsEnding records one → IsJoining records other → switch_number (switch_rows records) other.node.guid ≡ switch_number (switch_rows records) one.link.far_guid → other.link.port ≢ one.link.far_port
no_channel records sound one other is joins number port =
    let far = far_switch records sound one is in
    let guid : other.node.guid ≡ far.other.node.guid =
    same_switch records sound other.node far.other.node (sound.link_nodes other joins.within) joins.near far.node far.is
    (number ∙ ap (switch_number (switch_rows records)) (sym far.sides.guid)) in
    let same : other ≡ far.other = same_link records sound other far.other joins.within far.within guid (port ∙ sym far.sides.port) in
    both_ways (is_switch one.node.kind) (not-true (is_switch one.node.kind) is.near)
    (far.sides.back_kind ∙ ap (λ (s : Stated). is_switch s.link.far_kind) (sym same) ∙ joins.far)
