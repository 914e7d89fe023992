-- The rows of records are in the ranges of their types.
use Rattle.std.proofs.Common.{◌<◌, ◌^◌, length, subst, arith}
use Rattle.std.specs.Prelude.{All}
use Rattle.std.proofs.lemmas.List.Sums.{count_by-le-length}
use Rattle.fab_model.specs.declared.raw.RawNode.{RawNode}
use Rattle.fab_model.specs.declared.raw.RawLink.{RawLink}
use Rattle.fab_model.specs.declared.rows.SwitchRow.{SwitchRow}
use Rattle.fab_model.specs.declared.rows.AdapterRow.{AdapterRow}
use Rattle.fab_model.specs.declared.rows.TerminalRow.{TerminalRow}
use Rattle.fab_model.specs.Description.{IsDescription}
use Rattle.fab_model.specs.Records.{Records, AreRecords}
use Rattle.fab_model.specs.WellFormed.{FitsTypes}
use Rattle.fab_model.specs.Built.{topology_of, switch_rows, adapter_rows, terminal_rows}
use Rattle.fab_model.proofs.Lists.Members.{In, All_from_in, in_all}
use Rattle.fab_model.proofs.Faultless.Facts.{from_stated}
use Rattle.fab_model.proofs.Faultless.Nodes.{switch_row, adapter_row, tests_adapter, from_switch_rows, from_adapter_rows, length-adapter_rows}
use Rattle.fab_model.proofs.Faultless.Terminals.{from_terminal_rows}

all_switches : (records : Records) (P : SwitchRow → Type 0) → ((node : RawNode) → In node records.nodes → P (switch_row node)) → All P (switch_rows records)
all_switches records P each =
    All_from_in P (switch_rows records) (λ row within.
    let there = from_switch_rows records row within in subst P there.3 (each there.0 there.1))

all_adapters : (records : Records) (P : AdapterRow → Type 0) → ((node : RawNode) → In node records.nodes → P (adapter_row node)) → All P (adapter_rows records)
all_adapters records P each =
    All_from_in P (adapter_rows records) (λ row within.
    let there = from_adapter_rows records row within in subst P there.3 (each there.0 there.1))

terminal_guids : (records : Records) → AreRecords records → All (λ row. row.port_guid < 2 ^ 64) (terminal_rows (switch_rows records) (adapter_rows records) records)
terminal_guids records are =
    All_from_in (λ (row : TerminalRow). row.port_guid < 2 ^ 64) (terminal_rows (switch_rows records) (adapter_rows records) records) (λ row within.
    let there = from_terminal_rows records row within in
    subst (λ (row : TerminalRow). row.port_guid < 2 ^ 64) there.2
    (in_all (λ (link : RawLink). link.port_guid < 2 ^ 64) records.links are.port_guids there.0.link (from_stated records there.0 there.1.within).0))

adapters_within : (records : Records) → AreRecords records → length (adapter_rows records) < 2 ^ 32
adapters_within records are =
    omega (arith, are.node_count, length-adapter_rows records, count_by-le-length tests_adapter records.nodes)

pub fits_types : (records : Records) → AreRecords records → FitsTypes (topology_of records)
unfolding topology_of
fits_types records are = record {
  switch_guids = all_switches records (λ (row : SwitchRow). row.guid < 2 ^ 64) (in_all (λ (node : RawNode). node.guid < 2 ^ 64) records.nodes are.node_guids);
  adapter_guids = all_adapters records (λ (row : AdapterRow). row.guid < 2 ^ 64) (in_all (λ (node : RawNode). node.guid < 2 ^ 64) records.nodes are.node_guids);
  port_guids = terminal_guids records are;
  switch_descriptions = all_switches records (λ (row : SwitchRow). IsDescription row.desc) (in_all (λ (node : RawNode). IsDescription node.desc) records.nodes are.descriptions);
  adapter_descriptions = all_adapters records (λ (row : AdapterRow). IsDescription row.desc) (in_all (λ (node : RawNode). IsDescription node.desc) records.nodes are.descriptions);
  adapter_count = adapters_within records are;
}
