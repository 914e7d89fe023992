-- The LIDs of switches and of links under adapters: unicast, and no two the same.
use Rattle.std.proofs.Common.{◌≡◌, ◌≢◌, ◌+◌, ◌≤◌, true, length, arith, length-append}
use Rattle.std.specs.Prelude.{map, count_by}
use Rattle.std.proofs.lemmas.List.{length-map}
use Rattle.std.proofs.lemmas.List.Sums.{length-filter}
use Rattle.fab_model.specs.declared.raw.RawNode.{RawNode}
use Rattle.fab_model.specs.Records.{Records, Stated, stated, is_switch, is_adapter}
use Rattle.fab_model.specs.Faults.{Claim, lid_limit}
use Rattle.fab_model.specs.WellFormed.{IsUnicast}
use Rattle.fab_model.proofs.Lists.Members.{In, Pairs, pairs_left, pairs_right, pairs_append, pairs_from_map, in_map, in_left, in_right, in_filter}
use Rattle.fab_model.proofs.Faultless.Facts.{node_claim, link_claim, switch_nodes, adapter_links}
use Rattle.fab_model.proofs.Faultless.Sound.{AreSound, AreFew}

abbrev OtherLids : Claim → Claim → Type 0
OtherLids one other = one.lid ≢ other.lid

pub switch_lids_differ : (records : Records) → AreSound records → Pairs (λ one other. one.lid ≢ other.lid) (switch_nodes records)
switch_lids_differ records sound =
    pairs_from_map OtherLids node_claim (switch_nodes records)
    (pairs_left OtherLids (map node_claim (switch_nodes records)) (map link_claim (adapter_links records)) sound.lids_differ)

pub link_lids_differ : (records : Records) → AreSound records → Pairs (λ one other. one.link.lid ≢ other.link.lid) (adapter_links records)
link_lids_differ records sound =
    pairs_from_map OtherLids link_claim (adapter_links records)
    (pairs_right OtherLids (map node_claim (switch_nodes records)) (map link_claim (adapter_links records)) sound.lids_differ)

pub lids_across : (records : Records) → AreSound records → (node : RawNode) (one : Stated) → In node records.nodes → is_switch node.kind ≡ true → In one (stated records) → is_adapter one.node.kind ≡ true → node.lid ≢ one.link.lid
lids_across records sound node one in_node is_one in_link is_other =
    pairs_append OtherLids (map node_claim (switch_nodes records)) (map link_claim (adapter_links records)) sound.lids_differ (node_claim node) (link_claim one)
    (in_map node_claim (switch_nodes records) node (in_filter (λ (node : RawNode). is_switch node.kind) records.nodes node in_node is_one))
    (in_map link_claim (adapter_links records) one (in_filter (λ (one : Stated). is_adapter one.node.kind) (stated records) one in_link is_other))

pub switch_lid : (records : Records) → AreSound records → (node : RawNode) → In node records.nodes → is_switch node.kind ≡ true → IsUnicast node.lid
switch_lid records sound node within is =
    sound.lids (node_claim node)
    (in_left (map node_claim (switch_nodes records)) (map link_claim (adapter_links records)) (node_claim node)
    (in_map node_claim (switch_nodes records) node (in_filter (λ (node : RawNode). is_switch node.kind) records.nodes node within is)))

pub link_lid : (records : Records) → AreSound records → (one : Stated) → In one (stated records) → is_adapter one.node.kind ≡ true → IsUnicast one.link.lid
link_lid records sound one within is =
    sound.lids (link_claim one)
    (in_right (map node_claim (switch_nodes records)) (map link_claim (adapter_links records)) (link_claim one)
    (in_map link_claim (adapter_links records) one (in_filter (λ (one : Stated). is_adapter one.node.kind) (stated records) one within is)))

pub lids_within : (records : Records) → AreFew records → count_by (λ node. is_switch node.kind) records.nodes + length (adapter_links records) ≤ lid_limit
lids_within records few =
    omega (
      arith,
      few.lid_count,
      length-append (map node_claim (switch_nodes records)) (map link_claim (adapter_links records)),
      length-map (switch_nodes records) node_claim,
      length-map (adapter_links records) link_claim,
      length-filter (λ (node : RawNode). is_switch node.kind) records.nodes,
    )
