-- What the links of a fabric's own records are: each channel once, and each terminal once at either end.
use Rattle.std.proofs.Common.{◌≡◌, ℕ, ◌⊎◌, inl, inr, true, false, List, Option, Some, None, sym, ◌∙◌, ap, subst, arith}
use Rattle.std.specs.Prelude.{map, option_map, slice_get, unwrap_or, find, ◌==◌}
use Rattle.std.specs.List.{enumerate_from}
use Rattle.std.specs.Option.{option_or}
use Rattle.std.proofs.lemmas.Bool.{and_parts, eqb-true}
use Rattle.fab_model.specs.declared.raw.NodeKind.TheVariants.{Switch, Adapter}
use Rattle.fab_model.specs.declared.raw.RawLink.{RawLink}
use Rattle.fab_model.specs.declared.raw.RawNode.{RawNode}
use Rattle.fab_model.specs.declared.rows.SwitchRow.{SwitchRow}
use Rattle.fab_model.specs.declared.rows.AdapterRow.{AdapterRow}
use Rattle.fab_model.specs.declared.rows.ChannelRow.{ChannelRow}
use Rattle.fab_model.specs.declared.rows.TerminalRow.{TerminalRow}
use Rattle.fab_model.specs.Records.{Stated, stated, is_switch}
use Rattle.fab_model.specs.Topology.{Topology, guid_of, ports_of, leaves_by, is_cabled_at}
use Rattle.fab_model.specs.WellFormed.{adapter_ports_of}
use Rattle.fab_model.specs.Written.{Block, blocks, records_of, switch_block, adapter_block, switch_link, channel_link, terminal_link, adapter_link, port_numbers, adapter_guid_of, is_on_adapter}
use Rattle.fab_model.proofs.Lists.Members.{In, from_append, from_map, from_filter_map}
use Rattle.fab_model.proofs.Faultless.Facts.{from_option_map}
use Rattle.fab_model.proofs.Lists.Found.{from_find, from_enumerate}
use Rattle.fab_model.proofs.MakesItself.Laid.{IsLaid, stated_of, stated_laid, from_stated_of}

-- a link between two switches states a channel
pub record IsChannelLink (fabric : Topology) (row : ChannelRow) (one : Stated) : Type 0 where
  pub kind : is_switch one.node.kind ≡ true
  pub guid : one.node.guid ≡ guid_of fabric row.tail.0
  pub ports : one.node.ports ≡ ports_of fabric row.tail.0
  pub port : one.link.port ≡ row.port
  pub far_kind : is_switch one.link.far_kind ≡ true
  pub far_guid : one.link.far_guid ≡ guid_of fabric row.tip.0
  pub far_port : one.link.far_port ≡ row.tip_port

-- a link under a switch states a terminal
pub record IsSwitchEnd (fabric : Topology) (row : TerminalRow) (one : Stated) : Type 0 where
  pub kind : is_switch one.node.kind ≡ true
  pub guid : one.node.guid ≡ guid_of fabric row.switch.0
  pub ports : one.node.ports ≡ ports_of fabric row.switch.0
  pub port : one.link.port ≡ row.port
  pub far_kind : is_switch one.link.far_kind ≡ false
  pub far_guid : one.link.far_guid ≡ adapter_guid_of fabric row.adapter
  pub far_port : one.link.far_port ≡ row.adapter_port

-- a link under an adapter states a terminal
pub record IsAdapterEnd (fabric : Topology) (row : TerminalRow) (one : Stated) : Type 0 where
  pub kind : is_switch one.node.kind ≡ false
  pub guid : one.node.guid ≡ adapter_guid_of fabric row.adapter
  pub ports : one.node.ports ≡ adapter_ports_of fabric row.adapter
  pub port : one.link.port ≡ row.adapter_port
  pub far_kind : is_switch one.link.far_kind ≡ true
  pub far_guid : one.link.far_guid ≡ guid_of fabric row.switch.0
  pub far_port : one.link.far_port ≡ row.port
  pub port_guid : one.link.port_guid ≡ row.port_guid
  pub lid : one.link.lid ≡ row.lid.0
  pub lmc : one.link.lmc ≡ 0

abbrev pub IsAChannel : Topology → Stated → Type 0
IsAChannel fabric one = (row : ChannelRow) × In row fabric.channels × IsChannelLink fabric row one

abbrev pub IsASwitchEnd : Topology → Stated → Type 0
IsASwitchEnd fabric one = (row : TerminalRow) × In row fabric.terminals × IsSwitchEnd fabric row one

abbrev pub IsAnAdapterEnd : Topology → Stated → Type 0
IsAnAdapterEnd fabric one = (row : TerminalRow) × In row fabric.terminals × IsAdapterEnd fabric row one

abbrev pub StatesARow : Topology → Stated → Type 0
StatesARow fabric one = IsAChannel fabric one ⊎ (IsASwitchEnd fabric one ⊎ IsAnAdapterEnd fabric one)

-- ---- the blocks

pub from_blocks : (fabric : Topology) (block : Block) → In block (blocks fabric) → ((p : ℕ × SwitchRow) × (slice_get fabric.switches p.0 ≡ Some p.1) × (switch_block fabric p ≡ block)) ⊎ ((p : ℕ × AdapterRow) × (slice_get fabric.adapters p.0 ≡ Some p.1) × (adapter_block fabric p ≡ block))
from_blocks fabric block within =
    elim (from_append (map (switch_block fabric) (enumerate_from 0 fabric.switches)) (map (adapter_block fabric) (enumerate_from 0 fabric.adapters)) block within) [
      | inl here ↦
          let there = from_map (switch_block fabric) (enumerate_from 0 fabric.switches) block here in
          let place = from_enumerate 0 fabric.switches there.0 there.1 in
          let same : place.0 ≡ there.0.0 = omega (arith, place.1) in
          inl (there.0, subst (λ (n : ℕ). slice_get fabric.switches n ≡ Some there.0.1) same place.2, there.2)
      | inr here ↦
          let there = from_map (adapter_block fabric) (enumerate_from 0 fabric.adapters) block here in
          let place = from_enumerate 0 fabric.adapters there.0 there.1 in
          let same : place.0 ≡ there.0.0 = omega (arith, place.1) in
          inr (there.0, subst (λ (n : ℕ). slice_get fabric.adapters n ≡ Some there.0.1) same place.2, there.2)
    ]

-- ---- one link

abbrev pub channel_raw : Topology → ℕ → ChannelRow → RawLink
channel_raw fabric port row = record { line = 0; node = 0; port = port; far_kind = Switch; far_guid = guid_of fabric row.tip.0; far_port = row.tip_port; port_guid = 0; lid = 0; lmc = 0 }

abbrev pub switch_end_raw : Topology → ℕ → TerminalRow → RawLink
switch_end_raw fabric port row = record { line = 0; node = 0; port = port; far_kind = Adapter; far_guid = adapter_guid_of fabric row.adapter; far_port = row.adapter_port; port_guid = 0; lid = 0; lmc = 0 }

abbrev pub adapter_end_raw : Topology → ℕ → TerminalRow → RawLink
adapter_end_raw fabric port row = record { line = 0; node = 0; port = port; far_kind = Switch; far_guid = guid_of fabric row.switch.0; far_port = row.port; port_guid = row.port_guid; lid = row.lid.0; lmc = 0 }

pub guid_at : (fabric : Topology) (s : ℕ) (row : SwitchRow) → slice_get fabric.switches s ≡ Some row → guid_of fabric s ≡ row.guid
guid_at fabric s row at = ap (λ (o : Option SwitchRow). unwrap_or (option_map (λ row. row.guid) o) 0) at

pub ports_at : (fabric : Topology) (s : ℕ) (row : SwitchRow) → slice_get fabric.switches s ≡ Some row → ports_of fabric s ≡ row.ports
ports_at fabric s row at = ap (λ (o : Option SwitchRow). unwrap_or (option_map (λ row. row.ports) o) 0) at

pub adapter_guid_at : (fabric : Topology) (a : ℕ) (row : AdapterRow) → slice_get fabric.adapters a ≡ Some row → adapter_guid_of fabric a ≡ row.guid
adapter_guid_at fabric a row at = ap (λ (o : Option AdapterRow). unwrap_or (option_map (λ row. row.guid) o) 0) at

pub adapter_ports_at : (fabric : Topology) (a : ℕ) (row : AdapterRow) → slice_get fabric.adapters a ≡ Some row → adapter_ports_of fabric a ≡ row.ports
adapter_ports_at fabric a row at = ap (λ (o : Option AdapterRow). unwrap_or (option_map (λ row. row.ports) o) 0) at

laid_as : (block : Block) (link other : RawLink) (one : Stated) → (laid : IsLaid block link one) → other ≡ link → one.link ≡ record other { line = laid.place; node = laid.index }
laid_as block link other one laid same = laid.states ∙ ap (λ (l : RawLink). record l { line = laid.place; node = laid.index }) (sym same)

pub channel_kind : (fabric : Topology) (p : ℕ × SwitchRow) (port : ℕ) (row : ChannelRow) (link : RawLink) (one : Stated) → slice_get fabric.switches p.0 ≡ Some p.1 → row.tail.0 ≡ p.0 → row.port ≡ port → channel_raw fabric port row ≡ link → IsLaid (switch_block fabric p) link one → IsChannelLink fabric row one
channel_kind fabric p port row link one at tail leaves is laid =
    let whole = laid_as (switch_block fabric p) link (channel_raw fabric port row) one laid is in
    record {
      kind = ap (λ (n : RawNode). is_switch n.kind) laid.stands;
      guid = ap (λ (n : RawNode). n.guid) laid.stands ∙ sym (guid_at fabric p.0 p.1 at) ∙ ap (guid_of fabric) (sym tail);
      ports = ap (λ (n : RawNode). n.ports) laid.stands ∙ sym (ports_at fabric p.0 p.1 at) ∙ ap (ports_of fabric) (sym tail);
      port = ap (λ (l : RawLink). l.port) whole ∙ sym leaves;
      far_kind = ap (λ (l : RawLink). is_switch l.far_kind) whole;
      far_guid = ap (λ (l : RawLink). l.far_guid) whole;
      far_port = ap (λ (l : RawLink). l.far_port) whole;
    }

pub switch_end_kind : (fabric : Topology) (p : ℕ × SwitchRow) (port : ℕ) (row : TerminalRow) (link : RawLink) (one : Stated) → slice_get fabric.switches p.0 ≡ Some p.1 → row.switch.0 ≡ p.0 → row.port ≡ port → switch_end_raw fabric port row ≡ link → IsLaid (switch_block fabric p) link one → IsSwitchEnd fabric row one
switch_end_kind fabric p port row link one at tail leaves is laid =
    let whole = laid_as (switch_block fabric p) link (switch_end_raw fabric port row) one laid is in
    record {
      kind = ap (λ (n : RawNode). is_switch n.kind) laid.stands;
      guid = ap (λ (n : RawNode). n.guid) laid.stands ∙ sym (guid_at fabric p.0 p.1 at) ∙ ap (guid_of fabric) (sym tail);
      ports = ap (λ (n : RawNode). n.ports) laid.stands ∙ sym (ports_at fabric p.0 p.1 at) ∙ ap (ports_of fabric) (sym tail);
      port = ap (λ (l : RawLink). l.port) whole ∙ sym leaves;
      far_kind = ap (λ (l : RawLink). is_switch l.far_kind) whole;
      far_guid = ap (λ (l : RawLink). l.far_guid) whole;
      far_port = ap (λ (l : RawLink). l.far_port) whole;
    }

pub adapter_end_kind : (fabric : Topology) (p : ℕ × AdapterRow) (port : ℕ) (row : TerminalRow) (link : RawLink) (one : Stated) → slice_get fabric.adapters p.0 ≡ Some p.1 → row.adapter ≡ p.0 → row.adapter_port ≡ port → adapter_end_raw fabric port row ≡ link → IsLaid (adapter_block fabric p) link one → IsAdapterEnd fabric row one
adapter_end_kind fabric p port row link one at tail leaves is laid =
    let whole = laid_as (adapter_block fabric p) link (adapter_end_raw fabric port row) one laid is in
    record {
      kind = ap (λ (n : RawNode). is_switch n.kind) laid.stands;
      guid = ap (λ (n : RawNode). n.guid) laid.stands ∙ sym (adapter_guid_at fabric p.0 p.1 at) ∙ ap (adapter_guid_of fabric) (sym tail);
      ports = ap (λ (n : RawNode). n.ports) laid.stands ∙ sym (adapter_ports_at fabric p.0 p.1 at) ∙ ap (adapter_ports_of fabric) (sym tail);
      port = ap (λ (l : RawLink). l.port) whole ∙ sym leaves;
      far_kind = ap (λ (l : RawLink). is_switch l.far_kind) whole;
      far_guid = ap (λ (l : RawLink). l.far_guid) whole;
      far_port = ap (λ (l : RawLink). l.far_port) whole;
      port_guid = ap (λ (l : RawLink). l.port_guid) whole;
      lid = ap (λ (l : RawLink). l.lid) whole;
      lmc = ap (λ (l : RawLink). l.lmc) whole;
    }

-- ---- from the links under a node

pub from_option_or : {X : Type 0} (a b : Option X) (x : X) → option_or a b ≡ Some x → (a ≡ Some x) ⊎ (b ≡ Some x)
from_option_or None b x is = inr is
from_option_or (Some y) b x is = inl is

switch_link_kind : (fabric : Topology) (p : ℕ × SwitchRow) (port : ℕ) (link : RawLink) (one : Stated) → slice_get fabric.switches p.0 ≡ Some p.1 → switch_link fabric p.0 port ≡ Some link → IsLaid (switch_block fabric p) link one → IsAChannel fabric one ⊎ IsASwitchEnd fabric one
switch_link_kind fabric p port link one at is laid =
    elim (from_option_or (channel_link fabric p.0 port) (terminal_link fabric p.0 port) link is) [
      | inl here ↦
          let there = from_option_map (channel_raw fabric port) (find (leaves_by p.0 port) fabric.channels) link here in
          let found = from_find (leaves_by p.0 port) fabric.channels there.0 there.1 in
          let parts = and_parts (there.0.tail.0 == p.0) (there.0.port == port) found.1 in
          inl (there.0, found.0, channel_kind fabric p port there.0 link one at (eqb-true there.0.tail.0 p.0 parts.0) (eqb-true there.0.port port parts.1) there.2 laid)
      | inr here ↦
          let there = from_option_map (switch_end_raw fabric port) (find (is_cabled_at p.0 port) fabric.terminals) link here in
          let found = from_find (is_cabled_at p.0 port) fabric.terminals there.0 there.1 in
          let parts = and_parts (there.0.switch.0 == p.0) (there.0.port == port) found.1 in
          inr (there.0, found.0, switch_end_kind fabric p port there.0 link one at (eqb-true there.0.switch.0 p.0 parts.0) (eqb-true there.0.port port parts.1) there.2 laid)
    ]

adapter_link_kind : (fabric : Topology) (p : ℕ × AdapterRow) (port : ℕ) (link : RawLink) (one : Stated) → slice_get fabric.adapters p.0 ≡ Some p.1 → adapter_link fabric p.0 port ≡ Some link → IsLaid (adapter_block fabric p) link one → IsAnAdapterEnd fabric one
adapter_link_kind fabric p port link one at is laid =
    let there = from_option_map (adapter_end_raw fabric port) (find (is_on_adapter p.0 port) fabric.terminals) link is in
    let found = from_find (is_on_adapter p.0 port) fabric.terminals there.0 there.1 in
    let parts = and_parts (there.0.adapter == p.0) (there.0.adapter_port == port) found.1 in
    (there.0, found.0, adapter_end_kind fabric p port there.0 link one at (eqb-true there.0.adapter p.0 parts.0) (eqb-true there.0.adapter_port port parts.1) there.2 laid)

pub stated_is : (fabric : Topology) → stated (records_of fabric) ≡ stated_of 1 0 (blocks fabric)
unfolding records_of
stated_is fabric = stated_laid (blocks fabric)

kind_of_block : (fabric : Topology) (block : Block) (link : RawLink) (one : Stated) → In block (blocks fabric) → In link block.links → IsLaid block link one → StatesARow fabric one
kind_of_block fabric block link one within under laid =
    elim (from_blocks fabric block within) [
      | inl here ↦
          let there = from_filter_map (switch_link fabric here.0.0) (port_numbers here.0.1.ports) link (subst (λ (b : Block). In link b.links) (sym here.2) under) in
          elim (switch_link_kind fabric here.0 there.0 link one here.1 there.2 (subst (λ (b : Block). IsLaid b link one) (sym here.2) laid)) [
            | inl channel ↦ inl channel
            | inr terminal ↦ inr (inl terminal)
          ]
      | inr here ↦
          let there = from_filter_map (adapter_link fabric here.0.0) (port_numbers here.0.1.ports) link (subst (λ (b : Block). In link b.links) (sym here.2) under) in
          inr (inr (adapter_link_kind fabric here.0 there.0 link one here.1 there.2 (subst (λ (b : Block). IsLaid b link one) (sym here.2) laid)))
    ]

pub states_a_row : (fabric : Topology) (one : Stated) → In one (stated (records_of fabric)) → StatesARow fabric one
states_a_row fabric one within =
    let there = from_stated_of (blocks fabric) 1 0 one (subst (λ (l : List Stated). In one l) (stated_is fabric) within) in
    kind_of_block fabric there.0 there.2 one there.1 there.3 there.4
