-- The rows of a fabric, written out as raw records, make it.
pub mod Kinds
pub mod Laid
pub mod Lines
pub mod Nodes
pub mod NoFault
pub mod Rows
pub mod Sound
pub mod States
use Rattle.std.proofs.Common.{◌≡◌, inl, inr, List, length, Some, None, Ok, Option, refl, sym, ◌∙◌, ap, subst, arith, length-append}
use Rattle.std.specs.Prelude.{map}
use Rattle.std.proofs.lemmas.List.{length-map}
use Rattle.std.proofs.lemmas.List.Sums.{length-filter}
use Rattle.fab_model.specs.declared.raw.RawNode.{RawNode}
use Rattle.fab_model.specs.declared.rows.SwitchRow.{SwitchRow}
use Rattle.fab_model.specs.declared.rows.AdapterRow.{AdapterRow}
use Rattle.fab_model.specs.declared.rows.ChannelRow.{ChannelRow}
use Rattle.fab_model.specs.declared.rows.TerminalRow.{TerminalRow}
use Rattle.fab_model.specs.declared.fault.FabricFault.{FabricFault}
use Rattle.fab_model.specs.Records.{is_switch}
use Rattle.fab_model.specs.Faults.{Claim, claims, first_fault}
use Rattle.fab_model.specs.Topology.{Topology}
use Rattle.fab_model.specs.WellFormed.{IsWellFormed}
use Rattle.fab_model.specs.Built.{topology_of, unless_faulty, switch_rows, adapter_rows, channel_rows}
use Rattle.fab_model.specs.Laws.{WellFormedMakeThemselves}
use Rattle.fab_model.specs.Written as written
use Rattle.fab_model.specs.Written.{records_of}
use Rattle.fab_model.proofs.Lists.Members.{In}
use Rattle.fab_model.proofs.Faultless.Facts.{node_claim, link_claim, switch_nodes, adapter_links}
use Rattle.fab_model.proofs.Faultless.Sound.{AreFew, are_sound, are_few}
use Rattle.fab_model.proofs.Faultless.Nodes.{length-switch_rows}
use Rattle.fab_model.proofs.Faultless.Fields.{terminals, length-terminals, is_well_formed}
use Rattle.fab_model.proofs.MakesItself.Nodes.{own_link_is_stated}
use Rattle.fab_model.proofs.MakesItself.Sound.{own_are_sound, from_claims, switch_of_head, end_of_link}
use Rattle.fab_model.proofs.MakesItself.Rows.{own_switch_rows, own_adapter_rows, own_channel_rows, own_terminal_rows}
use Rattle.fab_model.proofs.MakesItself.Lines.{own_lines}
use Rattle.fab_model.proofs.MakesItself.NoFault.{AreComplete, no_fault_of}

own_are_few : (fabric : Topology) → IsWellFormed fabric → AreFew (records_of fabric)
own_are_few fabric rows =
    let switches = ap (λ (l : List SwitchRow). length l) (own_switch_rows fabric rows) in
    let ends = ap (λ (l : List TerminalRow). length l) (own_terminal_rows fabric rows) in
    let counted = length-switch_rows (records_of fabric) in
    record {
      switch_count = omega (arith, switches, counted, rows.switch_count);
      lid_count = omega (
        arith,
        switches,
        ends,
        counted,
        rows.lid_count,
        length-terminals (records_of fabric),
        length-append (map node_claim (switch_nodes (records_of fabric))) (map link_claim (adapter_links (records_of fabric))),
        length-map (switch_nodes (records_of fabric)) node_claim,
        length-map (adapter_links (records_of fabric)) link_claim,
        length-filter (λ (node : RawNode). is_switch node.kind) (records_of fabric).nodes,
      );
    }

own_lmc : (fabric : Topology) (claim : Claim) → In claim (claims (records_of fabric)) → claim.lmc ≡ 0
own_lmc fabric claim within =
    elim (from_claims (records_of fabric) claim within) [
      | inl node ↦ ap (λ (c : Claim). c.lmc) (sym node.3) ∙ (switch_of_head fabric node.0 node.1 node.2).2.lmc
      | inr link ↦ ap (λ (c : Claim). c.lmc) (sym link.3) ∙ (end_of_link fabric link.0 link.1 link.2).2.lmc
    ]

own_are_complete : (fabric : Topology) → AreComplete (records_of fabric)
own_are_complete fabric = record { stands = own_link_is_stated fabric; lmcs = own_lmc fabric }

no_own_fault : (fabric : Topology) → IsWellFormed fabric → first_fault (records_of fabric) ≡ None
no_own_fault fabric rows = no_fault_of (records_of fabric) (own_are_sound fabric rows) (own_are_few fabric rows) (own_are_complete fabric)

abbrev topology : List SwitchRow → List AdapterRow → List ChannelRow → List TerminalRow → Topology
topology switches adapters channels terminals = record { switches = switches; adapters = adapters; channels = channels; terminals = terminals }

same_topology : (s s' : List SwitchRow) (a a' : List AdapterRow) (c c' : List ChannelRow) (t t' : List TerminalRow) → s ≡ s' → a ≡ a' → c ≡ c' → t ≡ t' → topology s a c t ≡ topology s' a' c' t'
same_topology s s' a a' c c' t t' e f g h = cc

own_topology : (fabric : Topology) → IsWellFormed fabric → topology_of (records_of fabric) ≡ fabric
unfolding topology_of
own_topology fabric rows =
    same_topology (switch_rows (records_of fabric)) fabric.switches (adapter_rows (records_of fabric)) fabric.adapters
    (channel_rows (switch_rows (records_of fabric)) (records_of fabric)) fabric.channels (terminals (records_of fabric)) fabric.terminals
    (own_switch_rows fabric rows) (own_adapter_rows fabric rows) (own_channel_rows fabric rows) (own_terminal_rows fabric rows)

pub makes_itself : (fabric : Topology) → IsWellFormed fabric → written.MakesItself fabric
makes_itself fabric rows =
    ap (λ (fault : Option FabricFault). unless_faulty fault (topology_of (records_of fabric))) (no_own_fault fabric rows)
    ∙ ap Ok (own_topology fabric rows)

-- ---- the other way

from_unless : (o : Option FabricFault) (made fabric : Topology) → unless_faulty o made ≡ Ok fabric → (o ≡ None) × (made ≡ fabric)
from_unless None made fabric is = (refl, cc)
from_unless (Some fault) made fabric is = absurd (cc)

keeps_rows : (fabric : Topology) → written.MakesItself fabric → IsWellFormed fabric
keeps_rows fabric makes =
    let parts = from_unless (first_fault (records_of fabric)) (topology_of (records_of fabric)) fabric makes in
    subst IsWellFormed parts.1
    (is_well_formed (records_of fabric) (are_sound (records_of fabric) (own_lines fabric) parts.0) (are_few (records_of fabric) parts.0))

pub well_formed_make_themselves : WellFormedMakeThemselves
well_formed_make_themselves fabric = (makes_itself fabric, keeps_rows fabric)
