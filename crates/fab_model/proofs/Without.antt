-- Cables taken out of a fabric.
use Rattle.std.proofs.Common.{◌≡◌, ◌≢◌, ℕ, zero, suc, ◌<◌, ◌≤◌, Bool, true, false, not, ◌||◌, List, [], ◌∷◌, length, get_or, Option, None, Some, Ok, inl, inr, refl, ap, subst, ◌∙◌, arith}
use Rattle.std.specs.Prelude.{Contains, filter, position}
use Rattle.std.proofs.lemmas.Bool.{cases_Bool}
use Rattle.std.proofs.lemmas.List.Elements.{All-filter, filter_passes}
use Rattle.std.proofs.lemmas.List.Kept.{AllPairs-filter}
use Rattle.std.proofs.lemmas.List.Sums.{length-filter, count_by-le-length}
use Rattle.fab_model.specs.declared.rows.ChannelRow.{ChannelRow}
use Rattle.fab_model.specs.declared.rows.TerminalRow.{TerminalRow}
use Rattle.fab_model.specs.declared.rows.Cable.{Cable}
use Rattle.fab_model.specs.Topology.{Topology, HasNoOwnCable, ports_of, reversed}
use Rattle.fab_model.specs.WellFormed.{GoesBefore, IsPort}
use Rattle.fab_model.specs.Without.{leaves_named, is_listed, is_unknown, unless_unknown, without_cables}
use Rattle.fab_model.specs.Laws.{WithoutIsFabric, WithoutKeepsNoOwnCable}

-- ---- what is left is a fabric

contains_filter : {X : Type 0} (p : X → Bool) (xs : List X) (x : X) (k : ℕ) → k < length xs → get_or xs k x ≡ x → p x ≡ true → Contains (filter p xs) x
contains_filter p [] x k h at passes = absurd (omega arith)
contains_filter p (y ∷ ys) x zero h at passes =
    let here : p y ≡ true = rw at passes in
    rw here (0, omega arith, at)
contains_filter p (y ∷ ys) x (suc k) h at passes =
    let rest = contains_filter p ys x k (omega arith) at passes in
    elim (cases_Bool (p y)) [
      | inl kept ↦ rw kept (suc rest.0, omega (arith, rest.1), rest.2)
      | inr left_out ↦ rw left_out rest
    ]

-- A channel is listed where its reverse is.
or_comm : (a b : Bool) → (a || b) ≡ (b || a)
or_comm true true = refl
or_comm true false = refl
or_comm false true = refl
or_comm false false = refl

listed_reversed : (fabric : Topology) (cables : List Cable) (row : ChannelRow) → is_listed fabric cables (reversed row) ≡ is_listed fabric cables row
listed_reversed fabric [] row = refl
listed_reversed fabric (cable ∷ cables) row =
    let here = or_comm (leaves_named fabric (reversed row) cable) (leaves_named fabric row cable) in
    let rest = listed_reversed fabric cables row in
    rw (here, rest)

pub without_is_fabric : WithoutIsFabric
without_is_fabric fabric cables are =
    let rows = are.rows in
    let keeps = λ (row : ChannelRow). not (is_listed fabric cables row) in
    let kept = filter keeps fabric.channels in
    let HasReversed = λ (row : ChannelRow). Contains fabric.channels (reversed row) in
    let fewer : length kept ≤ length fabric.channels = omega (arith, length-filter keeps fabric.channels, count_by-le-length keeps fabric.channels) in
    let apart = λ (terminal : TerminalRow) (channel : ChannelRow). channel.tail.0 ≡ terminal.switch.0 → channel.port ≢ terminal.port in
    record {
      types = record {
        switch_guids = are.types.switch_guids;
        adapter_guids = are.types.adapter_guids;
        port_guids = are.types.port_guids;
        switch_descriptions = are.types.switch_descriptions;
        adapter_descriptions = are.types.adapter_descriptions;
        adapter_count = are.types.adapter_count;
      };
      rows = record {
        some_switch = rows.some_switch;
        switch_count = rows.switch_count;
        lid_count = rows.lid_count;
        channel_count = omega (arith, rows.channel_count);
        switch_guids = rows.switch_guids;
        adapter_guids = rows.adapter_guids;
        other_guids = rows.other_guids;
        switch_ports = rows.switch_ports;
        adapter_ports = rows.adapter_ports;
        switch_lids = rows.switch_lids;
        terminal_lids = rows.terminal_lids;
        switch_lids_differ = rows.switch_lids_differ;
        terminal_lids_rise = rows.terminal_lids_rise;
        other_lids = rows.other_lids;
        channels_rise = AllPairs-filter GoesBefore keeps fabric.channels rows.channels_rise;
        channel_tails = All-filter keeps (λ row. row.tail.0 < length fabric.switches) fabric.channels rows.channel_tails;
        channel_ports = All-filter keeps (λ row. IsPort (ports_of fabric row.tail.0) row.port) fabric.channels rows.channel_ports;
        reverses = λ k d h.
            let row = get_or kept k d in
            let found = All-filter keeps HasReversed fabric.channels rows.reverses k d h in
            let stays : keeps (reversed row) ≡ true = ap not (listed_reversed fabric cables row) ∙ filter_passes keeps fabric.channels k d h in
            contains_filter keeps fabric.channels (reversed row) found.0 found.1 found.2 stays;
        terminal_switches = rows.terminal_switches;
        terminal_ports = rows.terminal_ports;
        terminal_adapters = rows.terminal_adapters;
        terminal_adapter_ports = rows.terminal_adapter_ports;
        switch_ports_differ = rows.switch_ports_differ;
        adapter_ports_differ = rows.adapter_ports_differ;
        no_channel_there = λ k d h. All-filter keeps (apart (get_or fabric.terminals k d)) fabric.channels (rows.no_channel_there k d h);
      };
    }

-- ---- and no cable comes from taking others out

made_is : {X : Type 0} (unknown : Option ℕ) (wanted made : X) → unless_unknown unknown wanted ≡ Ok made → wanted ≡ made
made_is None wanted made e = cc
made_is (Some index) wanted made e = cc

pub without_keeps_no_own_cable : WithoutKeepsNoOwnCable
without_keeps_no_own_cable fabric made cables e none =
    let left : HasNoOwnCable (without_cables fabric cables) = All-filter (λ (row : ChannelRow). not (is_listed fabric cables row)) (λ row. row.tail.0 ≢ row.tip.0) fabric.channels none in
    subst HasNoOwnCable (made_is (position (is_unknown fabric) cables) (without_cables fabric cables) made e) left
