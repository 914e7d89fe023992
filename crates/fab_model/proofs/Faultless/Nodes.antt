-- The rows of switches and adapters, and their numbers.
use Rattle.std.proofs.Common.{◌≡◌, ◌≢◌, ℕ, ◌<◌, ◌⊎◌, inl, inr, Bool, true, List, length, Option, Some, ◌∙◌, ap, arith}
use Rattle.std.specs.Prelude.{filter, count_by, slice_get, option_map, unwrap_or, nat_lt}
use Rattle.std.proofs.lemmas.Bool.{ltb-true, lt-ltb, cases_order}
use Rattle.std.proofs.lemmas.List.{length-map}
use Rattle.std.proofs.lemmas.List.Sums.{length-filter}
use Rattle.fab_model.specs.declared.raw.RawNode.{RawNode}
use Rattle.fab_model.specs.declared.rows.SwitchRow.{SwitchRow}
use Rattle.fab_model.specs.declared.rows.AdapterRow.{AdapterRow}
use Rattle.fab_model.specs.InOrder.{in_order}
use Rattle.fab_model.specs.Records.{Records, is_switch, is_adapter}
use Rattle.fab_model.specs.Topology.{lid_id}
use Rattle.fab_model.specs.Built.{by_guid, switch_rows, adapter_rows, switch_number, adapter_number}
use Rattle.fab_model.proofs.Lists.Members.{In, Pairs, pairs_weaker, pairs_map, pairs_filter, in_map, from_map, in_filter, from_filter}
use Rattle.fab_model.proofs.Lists.InOrder.{from_in_order, in_in_order, rise_in_order, Goes, AreApart}
use Rattle.fab_model.proofs.Faultless.Places.{slice_get_number, number_within, same_number}
use Rattle.fab_model.proofs.Faultless.Sound.{AreSound}
use Rattle.fab_model.proofs.Order.{length-in_order}

pub less_along : (a b c : ℕ) → nat_lt a b ≡ true → nat_lt b c ≡ true → nat_lt a c ≡ true
less_along a b c one other =
    let below = ltb-true a b one in let above = ltb-true b c other in lt-ltb a c (omega arith)

pub apart_of_numbers : (a b : ℕ) → a ≢ b → (nat_lt a b ≡ true) ⊎ (nat_lt b a ≡ true)
apart_of_numbers a b apart =
    elim (cases_order a b) [
      | inl e ↦ absurd (apart e)
      | inr (inl less) ↦ inl (lt-ltb a b less)
      | inr (inr more) ↦ inr (lt-ltb b a more)
    ]

-- ---- the nodes that pass a test, in order

abbrev pub ordered : (RawNode → Bool) → Records → List RawNode
ordered test records = in_order by_guid (filter test records.nodes)

pub from_ordered : (test : RawNode → Bool) (records : Records) (node : RawNode) → In node (ordered test records) → In node records.nodes × (test node ≡ true)
from_ordered test records node within =
    from_filter test records.nodes node (from_in_order by_guid (filter test records.nodes) node within)

pub in_ordered : (test : RawNode → Bool) (records : Records) (node : RawNode) → In node records.nodes → test node ≡ true → In node (ordered test records)
in_ordered test records node within passes =
    in_in_order by_guid (filter test records.nodes) node (in_filter test records.nodes node within passes)

pub length-ordered : (test : RawNode → Bool) (records : Records) → length (ordered test records) ≡ count_by test records.nodes
length-ordered test records = length-in_order by_guid (filter test records.nodes) ∙ length-filter test records.nodes

pub ordered_rise : (test : RawNode → Bool) (records : Records) → AreSound records → Pairs (λ one other. one.guid < other.guid) (ordered test records)
ordered_rise test records sound =
    pairs_weaker (Goes by_guid) (λ (one other : RawNode). one.guid < other.guid) (ordered test records)
    (λ one other in_one in_other goes. ltb-true one.guid other.guid goes)
    (rise_in_order by_guid (λ one between other. less_along one.guid between.guid other.guid) (filter test records.nodes)
    (pairs_filter (AreApart by_guid) test records.nodes
    (pairs_weaker (λ (one other : RawNode). one.guid ≢ other.guid) (AreApart by_guid) records.nodes
    (λ one other in_one in_other apart. apart_of_numbers one.guid other.guid apart)
    sound.guids_differ)))

-- ---- switches

abbrev pub tests_switch : RawNode → Bool
tests_switch node = is_switch node.kind

abbrev pub switch_row : RawNode → SwitchRow
switch_row node = record { guid = node.guid; lid = lid_id node.lid; ports = node.ports; desc = node.desc }

pub from_switch_rows : (records : Records) (row : SwitchRow) → In row (switch_rows records) → (node : RawNode) × In node records.nodes × (is_switch node.kind ≡ true) × (switch_row node ≡ row)
from_switch_rows records row within =
    let there = from_map switch_row (ordered tests_switch records) row within in
    let node = from_ordered tests_switch records there.0 there.1 in
    (there.0, node.0, node.1, there.2)

pub in_switch_rows : (records : Records) (node : RawNode) → In node records.nodes → is_switch node.kind ≡ true → In (switch_row node) (switch_rows records)
in_switch_rows records node within is = in_map switch_row (ordered tests_switch records) node (in_ordered tests_switch records node within is)

pub length-switch_rows : (records : Records) → length (switch_rows records) ≡ count_by tests_switch records.nodes
length-switch_rows records = length-map (ordered tests_switch records) switch_row ∙ length-ordered tests_switch records

pub switch_rows_rise : (records : Records) → AreSound records → Pairs (λ one other. one.guid < other.guid) (switch_rows records)
switch_rows_rise records sound =
    pairs_map (λ (one other : SwitchRow). one.guid < other.guid) switch_row (ordered tests_switch records) (ordered_rise tests_switch records sound)

switch_rows_differ : (records : Records) → AreSound records → Pairs (λ one other. one.guid ≢ other.guid) (switch_rows records)
switch_rows_differ records sound =
    pairs_weaker (λ (one other : SwitchRow). one.guid < other.guid) (λ (one other : SwitchRow). one.guid ≢ other.guid) (switch_rows records)
    (λ one other in_one in_other less same. omega arith)
    (switch_rows_rise records sound)

pub switch_at : (records : Records) → AreSound records → (node : RawNode) → In node records.nodes → is_switch node.kind ≡ true → slice_get (switch_rows records) (switch_number (switch_rows records) node.guid) ≡ Some (switch_row node)
switch_at records sound node within is =
    slice_get_number (λ (row : SwitchRow). row.guid) (switch_rows records) (switch_row node) (switch_rows_differ records sound) (in_switch_rows records node within is)

pub switch_number_within : (records : Records) → AreSound records → (node : RawNode) → In node records.nodes → is_switch node.kind ≡ true → switch_number (switch_rows records) node.guid < length (switch_rows records)
switch_number_within records sound node within is =
    number_within (λ (row : SwitchRow). row.guid) (switch_rows records) (switch_row node) (switch_rows_differ records sound) (in_switch_rows records node within is)

pub same_switch : (records : Records) → AreSound records → (one other : RawNode) → In one records.nodes → is_switch one.kind ≡ true → In other records.nodes → is_switch other.kind ≡ true → switch_number (switch_rows records) one.guid ≡ switch_number (switch_rows records) other.guid → one.guid ≡ other.guid
same_switch records sound one other in_one is_one in_other is_other same =
    ap (λ (row : SwitchRow). row.guid)
    (same_number (λ (row : SwitchRow). row.guid) (switch_rows records) (switch_row one) (switch_row other) (switch_rows_differ records sound)
    (in_switch_rows records one in_one is_one) (in_switch_rows records other in_other is_other) same)

pub ports_at : (records : Records) → AreSound records → (node : RawNode) → In node records.nodes → is_switch node.kind ≡ true → unwrap_or (option_map (λ row. row.ports) (slice_get (switch_rows records) (switch_number (switch_rows records) node.guid))) 0 ≡ node.ports
ports_at records sound node within is =
    ap (λ (o : Option SwitchRow). unwrap_or (option_map (λ row. row.ports) o) 0) (switch_at records sound node within is)

-- ---- adapters

abbrev pub tests_adapter : RawNode → Bool
tests_adapter node = is_adapter node.kind

abbrev pub adapter_row : RawNode → AdapterRow
adapter_row node = record { guid = node.guid; ports = node.ports; desc = node.desc }

pub from_adapter_rows : (records : Records) (row : AdapterRow) → In row (adapter_rows records) → (node : RawNode) × In node records.nodes × (is_adapter node.kind ≡ true) × (adapter_row node ≡ row)
from_adapter_rows records row within =
    let there = from_map adapter_row (ordered tests_adapter records) row within in
    let node = from_ordered tests_adapter records there.0 there.1 in
    (there.0, node.0, node.1, there.2)

pub in_adapter_rows : (records : Records) (node : RawNode) → In node records.nodes → is_adapter node.kind ≡ true → In (adapter_row node) (adapter_rows records)
in_adapter_rows records node within is = in_map adapter_row (ordered tests_adapter records) node (in_ordered tests_adapter records node within is)

pub length-adapter_rows : (records : Records) → length (adapter_rows records) ≡ count_by tests_adapter records.nodes
length-adapter_rows records = length-map (ordered tests_adapter records) adapter_row ∙ length-ordered tests_adapter records

pub adapter_rows_rise : (records : Records) → AreSound records → Pairs (λ one other. one.guid < other.guid) (adapter_rows records)
adapter_rows_rise records sound =
    pairs_map (λ (one other : AdapterRow). one.guid < other.guid) adapter_row (ordered tests_adapter records) (ordered_rise tests_adapter records sound)

adapter_rows_differ : (records : Records) → AreSound records → Pairs (λ one other. one.guid ≢ other.guid) (adapter_rows records)
adapter_rows_differ records sound =
    pairs_weaker (λ (one other : AdapterRow). one.guid < other.guid) (λ (one other : AdapterRow). one.guid ≢ other.guid) (adapter_rows records)
    (λ one other in_one in_other less same. omega arith)
    (adapter_rows_rise records sound)

pub adapter_at : (records : Records) → AreSound records → (node : RawNode) → In node records.nodes → is_adapter node.kind ≡ true → slice_get (adapter_rows records) (adapter_number (adapter_rows records) node.guid) ≡ Some (adapter_row node)
adapter_at records sound node within is =
    slice_get_number (λ (row : AdapterRow). row.guid) (adapter_rows records) (adapter_row node) (adapter_rows_differ records sound) (in_adapter_rows records node within is)

pub adapter_number_within : (records : Records) → AreSound records → (node : RawNode) → In node records.nodes → is_adapter node.kind ≡ true → adapter_number (adapter_rows records) node.guid < length (adapter_rows records)
adapter_number_within records sound node within is =
    number_within (λ (row : AdapterRow). row.guid) (adapter_rows records) (adapter_row node) (adapter_rows_differ records sound) (in_adapter_rows records node within is)

pub same_adapter : (records : Records) → AreSound records → (one other : RawNode) → In one records.nodes → is_adapter one.kind ≡ true → In other records.nodes → is_adapter other.kind ≡ true → adapter_number (adapter_rows records) one.guid ≡ adapter_number (adapter_rows records) other.guid → one.guid ≡ other.guid
same_adapter records sound one other in_one is_one in_other is_other same =
    ap (λ (row : AdapterRow). row.guid)
    (same_number (λ (row : AdapterRow). row.guid) (adapter_rows records) (adapter_row one) (adapter_row other) (adapter_rows_differ records sound)
    (in_adapter_rows records one in_one is_one) (in_adapter_rows records other in_other is_other) same)

pub adapter_ports_at : (records : Records) → AreSound records → (node : RawNode) → In node records.nodes → is_adapter node.kind ≡ true → unwrap_or (option_map (λ row. row.ports) (slice_get (adapter_rows records) (adapter_number (adapter_rows records) node.guid))) 0 ≡ node.ports
adapter_ports_at records sound node within is =
    ap (λ (o : Option AdapterRow). unwrap_or (option_map (λ row. row.ports) o) 0) (adapter_at records sound node within is)
