-- A fabric's own records have no fault in any of the facts that its rows need.
use Rattle.std.proofs.Common.{◌≡◌, ◌≢◌, ℕ, ◌<◌, ◌≤◌, ◌⊎◌, inl, inr, true, false, sym, ◌∙◌, ap, subst, arith}
use Rattle.std.specs.Prelude.{All, Contains, map}
use Rattle.std.proofs.lemmas.Bool.{both_ways, not-true}
use Rattle.fab_model.specs.declared.raw.RawNode.{RawNode}
use Rattle.fab_model.specs.declared.rows.SwitchRow.{SwitchRow}
use Rattle.fab_model.specs.declared.rows.AdapterRow.{AdapterRow}
use Rattle.fab_model.specs.declared.rows.ChannelRow.{ChannelRow}
use Rattle.fab_model.specs.declared.rows.TerminalRow.{TerminalRow}
use Rattle.fab_model.specs.Records.{Records, Stated, stated, is_switch, is_adapter}
use Rattle.fab_model.specs.Faults.{Claim, claims, port_limit}
use Rattle.fab_model.specs.Topology.{Topology, ports_of, reversed}
use Rattle.fab_model.specs.WellFormed.{IsWellFormed, IsPort, IsUnicast, adapter_ports_of}
use Rattle.fab_model.specs.Written.{records_of, adapter_guid_of}
use Rattle.fab_model.proofs.Lists.Members.{In, Pairs, in_all, in_from_Contains, from_append, from_map, from_filter, pairs_weaker, pairs_map, pairs_filter, pairs_join, pairs_from_AllPairs, cases_pairs}
use Rattle.fab_model.proofs.Faultless.Facts.{AreSides, UseOthers, node_of_stated, node_claim, link_claim, switch_nodes, adapter_links, slice_get_in}
use Rattle.fab_model.proofs.Faultless.Sound.{AreSound}
use Rattle.fab_model.proofs.Lists.Found.{slice_get_some}
use Rattle.fab_model.proofs.MakesItself.Kinds.{IsAnAdapterEnd, StatesARow, states_a_row}
use Rattle.fab_model.proofs.MakesItself.States.{channel_is_stated, switch_end_is_stated, adapter_end_is_stated}
use Rattle.fab_model.proofs.MakesItself.Nodes.{IsSwitchHead, IsAdapterHead, IsAHead, head_states, switch_has_head, own_guids_differ, own_ports_differ}

-- ---- nodes

some_switch : (fabric : Topology) → IsWellFormed fabric → (node : RawNode) × In node (records_of fabric).nodes × (is_switch node.kind ≡ true)
some_switch fabric rows =
    let first = slice_get_some fabric.switches 0 rows.some_switch in
    let head = switch_has_head fabric first.0 (slice_get_in fabric.switches 0 first.0 first.1) in
    (head.0, head.1, head.2.kind)

head_ports : (fabric : Topology) → IsWellFormed fabric → (node : RawNode) → IsAHead fabric node → node.ports ≤ port_limit
head_ports fabric rows node (inl switch) =
    subst (λ (row : SwitchRow). row.ports ≤ port_limit) (sym switch.2.states) (in_all (λ (row : SwitchRow). row.ports ≤ port_limit) fabric.switches rows.switch_ports switch.0 switch.1)
head_ports fabric rows node (inr adapter) =
    subst (λ (row : AdapterRow). row.ports ≤ port_limit) (sym adapter.2.states) (in_all (λ (row : AdapterRow). row.ports ≤ port_limit) fabric.adapters rows.adapter_ports adapter.0 adapter.1)

-- the row of a head that is a switch's
pub switch_of_head : (fabric : Topology) (node : RawNode) → In node (records_of fabric).nodes → is_switch node.kind ≡ true → (row : SwitchRow) × In row fabric.switches × IsSwitchHead row node
switch_of_head fabric node within is =
    elim (head_states fabric node within) [
      | inl switch ↦ switch
      | inr adapter ↦ absurd (both_ways (is_switch node.kind) adapter.2.kind is)
    ]

pub adapter_of_head : (fabric : Topology) (node : RawNode) → In node (records_of fabric).nodes → is_adapter node.kind ≡ true → (row : AdapterRow) × In row fabric.adapters × IsAdapterHead row node
adapter_of_head fabric node within is =
    elim (head_states fabric node within) [
      | inl switch ↦ absurd (both_ways (is_switch node.kind) (not-true (is_switch node.kind) is) switch.2.kind)
      | inr adapter ↦ adapter
    ]

-- ---- links

port_from : (ports port other_ports other_port : ℕ) → ports ≡ other_ports → port ≡ other_port → IsPort other_ports other_port → IsPort ports port
port_from ports port other_ports other_port same equal is = (omega (arith, equal, is.0), omega (arith, same, equal, is.1))

link_port : (fabric : Topology) → IsWellFormed fabric → (one : Stated) → StatesARow fabric one → IsPort one.node.ports one.link.port
link_port fabric rows one (inl channel) =
    port_from one.node.ports one.link.port (ports_of fabric channel.0.tail.0) channel.0.port channel.2.ports channel.2.port
    (in_all (λ (row : ChannelRow). IsPort (ports_of fabric row.tail.0) row.port) fabric.channels rows.channel_ports channel.0 channel.1)
link_port fabric rows one (inr (inl terminal)) =
    port_from one.node.ports one.link.port (ports_of fabric terminal.0.switch.0) terminal.0.port terminal.2.ports terminal.2.port
    (in_all (λ (row : TerminalRow). IsPort (ports_of fabric row.switch.0) row.port) fabric.terminals rows.terminal_ports terminal.0 terminal.1)
link_port fabric rows one (inr (inr terminal)) =
    port_from one.node.ports one.link.port (adapter_ports_of fabric terminal.0.adapter) terminal.0.adapter_port terminal.2.ports terminal.2.port
    (in_all (λ (row : TerminalRow). IsPort (adapter_ports_of fabric row.adapter) row.adapter_port) fabric.terminals rows.terminal_adapter_ports terminal.0 terminal.1)

-- a link under an adapter states a terminal
pub end_of_link : (fabric : Topology) (one : Stated) → In one (stated (records_of fabric)) → is_adapter one.node.kind ≡ true → IsAnAdapterEnd fabric one
end_of_link fabric one within is =
    let near : is_switch one.node.kind ≡ false = not-true (is_switch one.node.kind) is in
    elim (states_a_row fabric one within) [
      | inl channel ↦ absurd (both_ways (is_switch one.node.kind) near channel.2.kind)
      | inr (inl terminal) ↦ absurd (both_ways (is_switch one.node.kind) near terminal.2.kind)
      | inr (inr terminal) ↦ terminal
    ]

sides_of : (fabric : Topology) → IsWellFormed fabric → (one : Stated) → StatesARow fabric one → (other : Stated) × In other (stated (records_of fabric)) × AreSides one other
sides_of fabric rows one (inl channel) =
    let back = channel_is_stated fabric rows (reversed channel.0)
    (in_from_Contains fabric.channels (reversed channel.0)
    (in_all (λ (row : ChannelRow). Contains fabric.channels (reversed row)) fabric.channels rows.reverses channel.0 channel.1)) in (
      back.0,
      back.1,
      record {
        kind = back.2.kind ∙ sym channel.2.far_kind;
        guid = back.2.guid ∙ sym channel.2.far_guid;
        port = back.2.port ∙ sym channel.2.far_port;
        back_kind = channel.2.kind ∙ sym back.2.far_kind;
        back_guid = channel.2.guid ∙ sym back.2.far_guid;
        back_port = back.2.far_port ∙ sym channel.2.port;
      },
    )
sides_of fabric rows one (inr (inl terminal)) =
    let back = adapter_end_is_stated fabric rows terminal.0 terminal.1 in (
      back.0,
      back.1,
      record {
        kind = back.2.kind ∙ sym terminal.2.far_kind;
        guid = back.2.guid ∙ sym terminal.2.far_guid;
        port = back.2.port ∙ sym terminal.2.far_port;
        back_kind = terminal.2.kind ∙ sym back.2.far_kind;
        back_guid = terminal.2.guid ∙ sym back.2.far_guid;
        back_port = back.2.far_port ∙ sym terminal.2.port;
      },
    )
sides_of fabric rows one (inr (inr terminal)) =
    let back = switch_end_is_stated fabric rows terminal.0 terminal.1 in (
      back.0,
      back.1,
      record {
        kind = back.2.kind ∙ sym terminal.2.far_kind;
        guid = back.2.guid ∙ sym terminal.2.far_guid;
        port = back.2.port ∙ sym terminal.2.far_port;
        back_kind = terminal.2.kind ∙ sym back.2.far_kind;
        back_guid = terminal.2.guid ∙ sym back.2.far_guid;
        back_port = back.2.far_port ∙ sym terminal.2.port;
      },
    )

-- ---- LIDs

-- a claim is that of a switch or of a terminal
pub from_claims : (records : Records) (claim : Claim) → In claim (claims records) → ((node : RawNode) × In node records.nodes × (is_switch node.kind ≡ true) × (node_claim node ≡ claim)) ⊎ ((one : Stated) × In one (stated records) × (is_adapter one.node.kind ≡ true) × (link_claim one ≡ claim))
from_claims records claim within =
    elim (from_append (map node_claim (switch_nodes records)) (map link_claim (adapter_links records)) claim within) [
      | inl here ↦
          let there = from_map node_claim (switch_nodes records) claim here in
          let node = from_filter (λ (node : RawNode). is_switch node.kind) records.nodes there.0 there.1 in
          inl (there.0, node.0, node.1, there.2)
      | inr here ↦
          let there = from_map link_claim (adapter_links records) claim here in
          let link = from_filter (λ (one : Stated). is_adapter one.node.kind) (stated records) there.0 there.1 in
          inr (there.0, link.0, link.1, there.2)
    ]

lid_of_switch : (fabric : Topology) → IsWellFormed fabric → (node : RawNode) → In node (records_of fabric).nodes → is_switch node.kind ≡ true → IsUnicast node.lid
lid_of_switch fabric rows node within is =
    let switch = switch_of_head fabric node within is in
    subst (λ (row : SwitchRow). IsUnicast row.lid.0) (sym switch.2.states) (in_all (λ (row : SwitchRow). IsUnicast row.lid.0) fabric.switches rows.switch_lids switch.0 switch.1)

lid_of_link : (fabric : Topology) → IsWellFormed fabric → (one : Stated) → In one (stated (records_of fabric)) → is_adapter one.node.kind ≡ true → IsUnicast one.link.lid
lid_of_link fabric rows one within is =
    let terminal = end_of_link fabric one within is in
    subst (λ (lid : ℕ). IsUnicast lid) (sym terminal.2.lid) (in_all (λ (row : TerminalRow). IsUnicast row.lid.0) fabric.terminals rows.terminal_lids terminal.0 terminal.1)

lid_of_claim : (fabric : Topology) → IsWellFormed fabric → (claim : Claim) → In claim (claims (records_of fabric)) → IsUnicast claim.lid
lid_of_claim fabric rows claim within =
    elim (from_claims (records_of fabric) claim within) [
      | inl node ↦ subst (λ (claim : Claim). IsUnicast claim.lid) node.3 (lid_of_switch fabric rows node.0 node.1 node.2)
      | inr link ↦ subst (λ (claim : Claim). IsUnicast claim.lid) link.3 (lid_of_link fabric rows link.0 link.1 link.2)
    ]

switches_lids : (fabric : Topology) → IsWellFormed fabric → (one other : RawNode) → In one (switch_nodes (records_of fabric)) → In other (switch_nodes (records_of fabric)) → one.guid ≢ other.guid → one.lid ≢ other.lid
switches_lids fabric rows one other in_one in_other apart lid =
    let near = from_filter (λ (node : RawNode). is_switch node.kind) (records_of fabric).nodes one in_one in
    let far = from_filter (λ (node : RawNode). is_switch node.kind) (records_of fabric).nodes other in_other in
    let here = switch_of_head fabric one near.0 near.1 in
    let there = switch_of_head fabric other far.0 far.1 in
    let same : here.0.lid.0 ≡ there.0.lid.0 = ap (λ (row : SwitchRow). row.lid.0) (sym here.2.states) ∙ lid ∙ ap (λ (row : SwitchRow). row.lid.0) there.2.states in
    elim (cases_pairs (λ (first second : SwitchRow). first.lid.0 ≢ second.lid.0) fabric.switches
    (pairs_from_AllPairs (λ (first second : SwitchRow). first.lid.0 ≢ second.lid.0) fabric.switches rows.switch_lids_differ) here.0 there.0 here.1 there.1) [
      | inl equal ↦ apart (ap (λ (row : SwitchRow). row.guid) here.2.states ∙ ap (λ (row : SwitchRow). row.guid) equal ∙ ap (λ (row : SwitchRow). row.guid) (sym there.2.states))
      | inr (inl differ) ↦ differ same
      | inr (inr differ) ↦ differ (sym same)
    ]

links_lids : (fabric : Topology) → IsWellFormed fabric → (one other : Stated) → In one (adapter_links (records_of fabric)) → In other (adapter_links (records_of fabric)) → UseOthers one other → one.link.lid ≢ other.link.lid
links_lids fabric rows one other in_one in_other apart lid =
    let near = from_filter (λ (one : Stated). is_adapter one.node.kind) (stated (records_of fabric)) one in_one in
    let far = from_filter (λ (one : Stated). is_adapter one.node.kind) (stated (records_of fabric)) other in_other in
    let here = end_of_link fabric one near.0 near.1 in
    let there = end_of_link fabric other far.0 far.1 in
    let same : here.0.lid.0 ≡ there.0.lid.0 = sym here.2.lid ∙ lid ∙ there.2.lid in
    elim (cases_pairs (λ (first second : TerminalRow). first.lid.0 < second.lid.0) fabric.terminals
    (pairs_from_AllPairs (λ (first second : TerminalRow). first.lid.0 < second.lid.0) fabric.terminals rows.terminal_lids_rise) here.0 there.0 here.1 there.1) [
      | inl equal ↦ apart
          (here.2.guid ∙ ap (λ (row : TerminalRow). adapter_guid_of fabric row.adapter) equal ∙ sym there.2.guid)
          (here.2.port ∙ ap (λ (row : TerminalRow). row.adapter_port) equal ∙ sym there.2.port)
      | inr (inl less) ↦ omega (arith, less, same)
      | inr (inr more) ↦ omega (arith, more, same)
    ]

claims_across : (fabric : Topology) → IsWellFormed fabric → (one other : Claim) → In one (map node_claim (switch_nodes (records_of fabric))) → In other (map link_claim (adapter_links (records_of fabric))) → one.lid ≢ other.lid
claims_across fabric rows one other in_one in_other lid =
    let near = from_map node_claim (switch_nodes (records_of fabric)) one in_one in
    let far = from_map link_claim (adapter_links (records_of fabric)) other in_other in
    let node = from_filter (λ (node : RawNode). is_switch node.kind) (records_of fabric).nodes near.0 near.1 in
    let link = from_filter (λ (one : Stated). is_adapter one.node.kind) (stated (records_of fabric)) far.0 far.1 in
    let here = switch_of_head fabric near.0 node.0 node.1 in
    let there = end_of_link fabric far.0 link.0 link.1 in
    in_all (λ (row : TerminalRow). here.0.lid.0 ≢ row.lid.0) fabric.terminals
    (in_all (λ (row : SwitchRow). All (λ terminal. row.lid.0 ≢ terminal.lid.0) fabric.terminals) fabric.switches rows.other_lids here.0 here.1)
    there.0 there.1
    (ap (λ (row : SwitchRow). row.lid.0) (sym here.2.states) ∙ ap (λ (claim : Claim). claim.lid) near.2 ∙ lid
    ∙ ap (λ (claim : Claim). claim.lid) (sym far.2) ∙ there.2.lid)

own_lids_differ : (fabric : Topology) → IsWellFormed fabric → Pairs (λ one other. one.lid ≢ other.lid) (claims (records_of fabric))
own_lids_differ fabric rows =
    pairs_join (λ (one other : Claim). one.lid ≢ other.lid) (map node_claim (switch_nodes (records_of fabric))) (map link_claim (adapter_links (records_of fabric)))
    (pairs_map (λ (one other : Claim). one.lid ≢ other.lid) node_claim (switch_nodes (records_of fabric))
    (pairs_weaker (λ (one other : RawNode). one.guid ≢ other.guid) (λ (one other : RawNode). one.lid ≢ other.lid) (switch_nodes (records_of fabric))
    (switches_lids fabric rows)
    (pairs_filter (λ (one other : RawNode). one.guid ≢ other.guid) (λ (node : RawNode). is_switch node.kind) (records_of fabric).nodes (own_guids_differ fabric rows))))
    (pairs_map (λ (one other : Claim). one.lid ≢ other.lid) link_claim (adapter_links (records_of fabric))
    (pairs_weaker UseOthers (λ (one other : Stated). one.link.lid ≢ other.link.lid) (adapter_links (records_of fabric))
    (links_lids fabric rows)
    (pairs_filter UseOthers (λ (one : Stated). is_adapter one.node.kind) (stated (records_of fabric)) (own_ports_differ fabric rows))))
    (claims_across fabric rows)

-- ---- all of it

pub own_are_sound : (fabric : Topology) → IsWellFormed fabric → AreSound (records_of fabric)
own_are_sound fabric rows = record {
  some_switch = some_switch fabric rows;
  guids_differ = own_guids_differ fabric rows;
  node_ports = λ node within. head_ports fabric rows node (head_states fabric node within);
  link_ports = λ one within. link_port fabric rows one (states_a_row fabric one within);
  link_nodes = node_of_stated (records_of fabric);
  ports_differ = own_ports_differ fabric rows;
  switched = λ one within is. (end_of_link fabric one within is).2.far_kind;
  sides = λ one within. sides_of fabric rows one (states_a_row fabric one within);
  lids = lid_of_claim fabric rows;
  lids_differ = own_lids_differ fabric rows;
}
