-- The nodes of a fabric's own records, and that GUIDs and ports there differ.
use Rattle.std.proofs.Common.{◌≡◌, ◌≢◌, ℕ, ◌<◌, ◌⊎◌, inl, inr, true, false, List, Option, Some, refl, sym, ◌∙◌, ap, subst, arith}
use Rattle.std.specs.Prelude.{All, map, filter_map, find}
use Rattle.std.specs.List.{enumerate_from}
use Rattle.fab_model.specs.declared.raw.RawLink.{RawLink}
use Rattle.fab_model.specs.declared.raw.RawNode.{RawNode}
use Rattle.fab_model.specs.declared.rows.SwitchRow.{SwitchRow}
use Rattle.fab_model.specs.declared.rows.AdapterRow.{AdapterRow}
use Rattle.fab_model.specs.Records.{Stated, stated, is_switch}
use Rattle.fab_model.specs.Topology.{Topology, leaves_by, is_cabled_at}
use Rattle.fab_model.specs.WellFormed.{IsWellFormed}
use Rattle.fab_model.specs.Written.{Block, blocks, records_of, switch_block, adapter_block, switch_link, channel_link, terminal_link, adapter_link, port_numbers, is_on_adapter}
use Rattle.fab_model.proofs.Lists.Members.{In, Pairs, in_all, from_map, pairs_from_AllPairs, pairs_weaker, pairs_map, pairs_join, pairs_filter_map}
use Rattle.fab_model.proofs.Faultless.Facts.{UseOthers, from_option_map, slice_get_in}
use Rattle.fab_model.proofs.Faultless.Nodes.{switch_row, adapter_row}
use Rattle.fab_model.proofs.Lists.Found.{from_enumerate, pairs_enumerate, range_rises, place_of_in}
use Rattle.fab_model.proofs.MakesItself.Laid.{OtherHeads, from_laid_nodes, in_laid_nodes, guids_laid, use_others_laid, link_is_stated}
use Rattle.fab_model.proofs.MakesItself.Kinds.{from_blocks, from_option_or, channel_raw, switch_end_raw, adapter_end_raw, stated_is}
use Rattle.fab_model.proofs.MakesItself.States.{switch_block_within, adapter_block_within}

-- a head states a row
pub record IsSwitchHead (row : SwitchRow) (node : RawNode) : Type 0 where
  pub kind : is_switch node.kind ≡ true
  pub states : switch_row node ≡ row
  pub lmc : node.lmc ≡ 0

pub record IsAdapterHead (row : AdapterRow) (node : RawNode) : Type 0 where
  pub kind : is_switch node.kind ≡ false
  pub states : adapter_row node ≡ row

switch_head_of : (fabric : Topology) (p : ℕ × SwitchRow) (block : Block) (line : ℕ) (node : RawNode) → switch_block fabric p ≡ block → node ≡ record block.head { line = line } → IsSwitchHead p.1 node
switch_head_of fabric p block line node same is =
    let whole : node ≡ record (switch_block fabric p).head { line = line } = is ∙ ap (λ (b : Block). record b.head { line = line }) (sym same) in
    record {
      kind = ap (λ (n : RawNode). is_switch n.kind) whole;
      states = ap switch_row whole;
      lmc = ap (λ (n : RawNode). n.lmc) whole;
    }

adapter_head_of : (fabric : Topology) (p : ℕ × AdapterRow) (block : Block) (line : ℕ) (node : RawNode) → adapter_block fabric p ≡ block → node ≡ record block.head { line = line } → IsAdapterHead p.1 node
adapter_head_of fabric p block line node same is =
    let whole : node ≡ record (adapter_block fabric p).head { line = line } = is ∙ ap (λ (b : Block). record b.head { line = line }) (sym same) in
    record {
      kind = ap (λ (n : RawNode). is_switch n.kind) whole;
      states = ap adapter_row whole;
    }

abbrev pub IsAHead : Topology → RawNode → Type 0
IsAHead fabric node = ((row : SwitchRow) × In row fabric.switches × IsSwitchHead row node) ⊎ ((row : AdapterRow) × In row fabric.adapters × IsAdapterHead row node)

pub head_states : (fabric : Topology) (node : RawNode) → In node (records_of fabric).nodes → IsAHead fabric node
unfolding records_of
head_states fabric node within =
    let there = from_laid_nodes (blocks fabric) 1 0 node within in
    elim (from_blocks fabric there.0 there.1) [
      | inl here ↦ inl (here.0.1, slice_get_in fabric.switches here.0.0 here.0.1 here.1, switch_head_of fabric here.0 there.0 there.2 node here.2 there.3)
      | inr here ↦ inr (here.0.1, slice_get_in fabric.adapters here.0.0 here.0.1 here.1, adapter_head_of fabric here.0 there.0 there.2 node here.2 there.3)
    ]

pub switch_has_head : (fabric : Topology) (row : SwitchRow) → In row fabric.switches → (node : RawNode) × In node (records_of fabric).nodes × IsSwitchHead row node
unfolding records_of
switch_has_head fabric row within =
    let place = place_of_in fabric.switches row within in
    let there = in_laid_nodes (blocks fabric) 1 0 (switch_block fabric (place.0, row)) (switch_block_within fabric place.0 row place.1) in
    (there.0, there.1, switch_head_of fabric (place.0, row) (switch_block fabric (place.0, row)) there.2 there.0 refl there.3)

pub adapter_has_head : (fabric : Topology) (row : AdapterRow) → In row fabric.adapters → (node : RawNode) × In node (records_of fabric).nodes × IsAdapterHead row node
unfolding records_of
adapter_has_head fabric row within =
    let place = place_of_in fabric.adapters row within in
    let there = in_laid_nodes (blocks fabric) 1 0 (adapter_block fabric (place.0, row)) (adapter_block_within fabric place.0 row place.1) in
    (there.0, there.1, adapter_head_of fabric (place.0, row) (adapter_block fabric (place.0, row)) there.2 there.0 refl there.3)

-- ---- GUIDs differ

heads_across : (fabric : Topology) → IsWellFormed fabric → (one other : Block) → In one (map (switch_block fabric) (enumerate_from 0 fabric.switches)) → In other (map (adapter_block fabric) (enumerate_from 0 fabric.adapters)) → OtherHeads one other
heads_across fabric rows one other in_one in_other guid =
    let switch = from_map (switch_block fabric) (enumerate_from 0 fabric.switches) one in_one in
    let adapter = from_map (adapter_block fabric) (enumerate_from 0 fabric.adapters) other in_other in
    let switch_place = from_enumerate 0 fabric.switches switch.0 switch.1 in
    let adapter_place = from_enumerate 0 fabric.adapters adapter.0 adapter.1 in
    let apart : switch.0.1.guid ≢ adapter.0.1.guid =
    in_all (λ (row : AdapterRow). switch.0.1.guid ≢ row.guid) fabric.adapters
    (in_all (λ (row : SwitchRow). All (λ adapter. row.guid ≢ adapter.guid) fabric.adapters) fabric.switches rows.other_guids switch.0.1
    (slice_get_in fabric.switches switch_place.0 switch.0.1 switch_place.2))
    adapter.0.1 (slice_get_in fabric.adapters adapter_place.0 adapter.0.1 adapter_place.2) in
    apart (ap (λ (b : Block). b.head.guid) switch.2 ∙ guid ∙ sym (ap (λ (b : Block). b.head.guid) adapter.2))

heads_differ : (fabric : Topology) → IsWellFormed fabric → Pairs OtherHeads (blocks fabric)
heads_differ fabric rows =
    pairs_join OtherHeads (map (switch_block fabric) (enumerate_from 0 fabric.switches)) (map (adapter_block fabric) (enumerate_from 0 fabric.adapters))
    (pairs_map OtherHeads (switch_block fabric) (enumerate_from 0 fabric.switches)
    (pairs_enumerate (λ (one other : SwitchRow). one.guid ≢ other.guid) 0 fabric.switches
    (pairs_weaker (λ (one other : SwitchRow). one.guid < other.guid) (λ (one other : SwitchRow). one.guid ≢ other.guid) fabric.switches
    (λ one other in_one in_other less same. omega arith)
    (pairs_from_AllPairs (λ (one other : SwitchRow). one.guid < other.guid) fabric.switches rows.switch_guids))))
    (pairs_map OtherHeads (adapter_block fabric) (enumerate_from 0 fabric.adapters)
    (pairs_enumerate (λ (one other : AdapterRow). one.guid ≢ other.guid) 0 fabric.adapters
    (pairs_weaker (λ (one other : AdapterRow). one.guid < other.guid) (λ (one other : AdapterRow). one.guid ≢ other.guid) fabric.adapters
    (λ one other in_one in_other less same. omega arith)
    (pairs_from_AllPairs (λ (one other : AdapterRow). one.guid < other.guid) fabric.adapters rows.adapter_guids))))
    (heads_across fabric rows)

pub own_guids_differ : (fabric : Topology) → IsWellFormed fabric → Pairs (λ one other. one.guid ≢ other.guid) (records_of fabric).nodes
unfolding records_of
own_guids_differ fabric rows = guids_laid (blocks fabric) 1 0 (heads_differ fabric rows)

-- ---- ports differ

switch_link_port : (fabric : Topology) (s port : ℕ) (link : RawLink) → switch_link fabric s port ≡ Some link → port ≡ link.port
switch_link_port fabric s port link is =
    elim (from_option_or (channel_link fabric s port) (terminal_link fabric s port) link is) [
      | inl here ↦ ap (λ (l : RawLink). l.port) (from_option_map (channel_raw fabric port) (find (leaves_by s port) fabric.channels) link here).2
      | inr here ↦ ap (λ (l : RawLink). l.port) (from_option_map (switch_end_raw fabric port) (find (is_cabled_at s port) fabric.terminals) link here).2
    ]

adapter_link_port : (fabric : Topology) (a port : ℕ) (link : RawLink) → adapter_link fabric a port ≡ Some link → port ≡ link.port
adapter_link_port fabric a port link is =
    ap (λ (l : RawLink). l.port) (from_option_map (adapter_end_raw fabric port) (find (is_on_adapter a port) fabric.terminals) link is).2

abbrev PortsRise : List RawLink → Type 0
PortsRise links = Pairs (λ one other. one.port < other.port) links

links_rise : (link_at : ℕ → Option RawLink) → ((port : ℕ) (link : RawLink) → link_at port ≡ Some link → port ≡ link.port) → (ports : ℕ) → PortsRise (filter_map link_at (port_numbers ports))
links_rise link_at same ports =
    pairs_filter_map (λ (m n : ℕ). m < n) (λ (one other : RawLink). one.port < other.port) link_at
    (λ m n v w is_v is_w less. omega (arith, same m v is_v, same n w is_w, less))
    (port_numbers ports) (range_rises 1 ports)

ports_rise : (fabric : Topology) (block : Block) → In block (blocks fabric) → PortsRise block.links
ports_rise fabric block within =
    elim (from_blocks fabric block within) [
      | inl here ↦ subst (λ (b : Block). PortsRise b.links) here.2
          (links_rise (switch_link fabric here.0.0) (switch_link_port fabric here.0.0) here.0.1.ports)
      | inr here ↦ subst (λ (b : Block). PortsRise b.links) here.2
          (links_rise (adapter_link fabric here.0.0) (adapter_link_port fabric here.0.0) here.0.1.ports)
    ]

pub own_ports_differ : (fabric : Topology) → IsWellFormed fabric → Pairs UseOthers (stated (records_of fabric))
own_ports_differ fabric rows =
    subst (λ (l : List Stated). Pairs UseOthers l) (sym (stated_is fabric))
    (use_others_laid (blocks fabric) 1 0 (heads_differ fabric rows) (ports_rise fabric))

pub own_link_is_stated : (fabric : Topology) (link : RawLink) → In link (records_of fabric).links → (one : Stated) × In one (stated (records_of fabric)) × (one.link ≡ link)
unfolding records_of
own_link_is_stated fabric link within =
    let there = link_is_stated (blocks fabric) 1 0 link within in
    (there.0, subst (λ (l : List Stated). In there.0 l) (sym (stated_is fabric)) there.1, there.2)
