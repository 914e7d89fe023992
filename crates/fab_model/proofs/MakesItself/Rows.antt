-- The rows of a fabric's own records are its rows.
use Rattle.std.proofs.Common.{◌≡◌, ◌≢◌, ℕ, ◌<◌, inl, inr, List, length, refl, sym, ◌∙◌, ap, subst, arith}
use Rattle.std.specs.Prelude.{Contains, not}
use Rattle.std.proofs.lemmas.Bool.{both_ways}
use Rattle.fab_model.specs.declared.rows.SwitchRow.{SwitchRow}
use Rattle.fab_model.specs.declared.rows.AdapterRow.{AdapterRow}
use Rattle.fab_model.specs.declared.rows.ChannelRow.{ChannelRow}
use Rattle.fab_model.specs.declared.rows.TerminalRow.{TerminalRow}
use Rattle.fab_model.specs.Records.{Stated, is_switch}
use Rattle.fab_model.specs.Topology.{Topology, guid_of, reversed, switch_id, lid_id}
use Rattle.fab_model.specs.WellFormed.{IsWellFormed, GoesBefore}
use Rattle.fab_model.specs.Built.{switch_rows, adapter_rows, channel_rows, terminal_rows, channel_row, terminal_row, switch_number, adapter_number}
use Rattle.fab_model.specs.Written.{records_of, adapter_guid_of}
use Rattle.fab_model.proofs.Lists.Members.{In, Pairs, in_all, in_from_Contains, pairs_weaker, pairs_from_AllPairs}
use Rattle.fab_model.proofs.Faultless.Places.{slice_get_number}
use Rattle.fab_model.proofs.Faultless.Facts.{slice_get_in, same_place}
use Rattle.fab_model.proofs.Faultless.Nodes.{from_switch_rows, in_switch_rows, switch_rows_rise, from_adapter_rows, in_adapter_rows, adapter_rows_rise}
use Rattle.fab_model.proofs.Faultless.Channels.{IsJoining, from_channel_rows, in_channel_rows, channels_rise, same_row}
use Rattle.fab_model.proofs.Faultless.Terminals.{from_terminal_rows, in_terminal_rows, terminals_rise}
use Rattle.fab_model.proofs.Lists.Found.{rising_same, slice_get_some}
use Rattle.fab_model.proofs.MakesItself.Kinds.{IsChannelLink, IsAdapterEnd, IsAChannel, states_a_row, guid_at, adapter_guid_at}
use Rattle.fab_model.proofs.MakesItself.States.{channel_is_stated, adapter_end_is_stated}
use Rattle.fab_model.proofs.MakesItself.Nodes.{switch_has_head, adapter_has_head}
use Rattle.fab_model.proofs.MakesItself.Sound.{own_are_sound, switch_of_head, adapter_of_head, end_of_link}

-- ---- nodes

less_one_way : (a b : ℕ) → a < b → b < a → ⊥
less_one_way a b less more = omega arith

pub own_switch_rows : (fabric : Topology) → IsWellFormed fabric → switch_rows (records_of fabric) ≡ fabric.switches
own_switch_rows fabric rows =
    rising_same (λ (x y : SwitchRow). x.guid < y.guid) (λ x y. less_one_way x.guid y.guid) (switch_rows (records_of fabric)) fabric.switches
    (switch_rows_rise (records_of fabric) (own_are_sound fabric rows))
    (pairs_from_AllPairs (λ (x y : SwitchRow). x.guid < y.guid) fabric.switches rows.switch_guids)
    (λ row within.
    let there = from_switch_rows (records_of fabric) row within in
    let head = switch_of_head fabric there.0 there.1 there.2 in
    subst (λ (row : SwitchRow). In row fabric.switches) (sym head.2.states ∙ there.3) head.1)
    (λ row within.
    let there = switch_has_head fabric row within in
    subst (λ (row : SwitchRow). In row (switch_rows (records_of fabric))) there.2.states (in_switch_rows (records_of fabric) there.0 there.1 there.2.kind))

pub own_adapter_rows : (fabric : Topology) → IsWellFormed fabric → adapter_rows (records_of fabric) ≡ fabric.adapters
own_adapter_rows fabric rows =
    rising_same (λ (x y : AdapterRow). x.guid < y.guid) (λ x y. less_one_way x.guid y.guid) (adapter_rows (records_of fabric)) fabric.adapters
    (adapter_rows_rise (records_of fabric) (own_are_sound fabric rows))
    (pairs_from_AllPairs (λ (x y : AdapterRow). x.guid < y.guid) fabric.adapters rows.adapter_guids)
    (λ row within.
    let there = from_adapter_rows (records_of fabric) row within in
    let head = adapter_of_head fabric there.0 there.1 there.2 in
    subst (λ (row : AdapterRow). In row fabric.adapters) (sym head.2.states ∙ there.3) head.1)
    (λ row within.
    let there = adapter_has_head fabric row within in
    subst (λ (row : AdapterRow). In row (adapter_rows (records_of fabric))) there.2.states
    (in_adapter_rows (records_of fabric) there.0 there.1 (ap not there.2.kind)))

-- ---- numbers

number_at : (fabric : Topology) → IsWellFormed fabric → (s : ℕ) → s < length fabric.switches → switch_number fabric.switches (guid_of fabric s) ≡ s
number_at fabric rows s within =
    let row = slice_get_some fabric.switches s within in
    let differ : Pairs (λ (x y : SwitchRow). x.guid ≢ y.guid) fabric.switches =
    pairs_weaker (λ (x y : SwitchRow). x.guid < y.guid) (λ (x y : SwitchRow). x.guid ≢ y.guid) fabric.switches
    (λ x y in_x in_y less same. omega (arith, less, same))
    (pairs_from_AllPairs (λ (x y : SwitchRow). x.guid < y.guid) fabric.switches rows.switch_guids) in
    ap (switch_number fabric.switches) (guid_at fabric s row.0 row.1)
    ∙ same_place (λ (row : SwitchRow). row.guid) fabric.switches (switch_number fabric.switches row.0.guid) s row.0 row.0 differ
    (slice_get_number (λ (row : SwitchRow). row.guid) fabric.switches row.0 differ (slice_get_in fabric.switches s row.0 row.1)) row.1 refl

adapter_number_at : (fabric : Topology) → IsWellFormed fabric → (a : ℕ) → a < length fabric.adapters → adapter_number fabric.adapters (adapter_guid_of fabric a) ≡ a
adapter_number_at fabric rows a within =
    let row = slice_get_some fabric.adapters a within in
    let differ : Pairs (λ (x y : AdapterRow). x.guid ≢ y.guid) fabric.adapters =
    pairs_weaker (λ (x y : AdapterRow). x.guid < y.guid) (λ (x y : AdapterRow). x.guid ≢ y.guid) fabric.adapters
    (λ x y in_x in_y less same. omega (arith, less, same))
    (pairs_from_AllPairs (λ (x y : AdapterRow). x.guid < y.guid) fabric.adapters rows.adapter_guids) in
    ap (adapter_number fabric.adapters) (adapter_guid_at fabric a row.0 row.1)
    ∙ same_place (λ (row : AdapterRow). row.guid) fabric.adapters (adapter_number fabric.adapters row.0.guid) a row.0 row.0 differ
    (slice_get_number (λ (row : AdapterRow). row.guid) fabric.adapters row.0 differ (slice_get_in fabric.adapters a row.0 row.1)) row.1 refl

-- the number of a switch whose GUID a record states
own_number : (fabric : Topology) → IsWellFormed fabric → (guid s : ℕ) → guid ≡ guid_of fabric s → s < length fabric.switches → switch_number (switch_rows (records_of fabric)) guid ≡ s
own_number fabric rows guid s is within =
    ap (λ (l : List SwitchRow). switch_number l guid) (own_switch_rows fabric rows)
    ∙ ap (switch_number fabric.switches) is
    ∙ number_at fabric rows s within

own_adapter_number : (fabric : Topology) → IsWellFormed fabric → (guid a : ℕ) → guid ≡ adapter_guid_of fabric a → a < length fabric.adapters → adapter_number (adapter_rows (records_of fabric)) guid ≡ a
own_adapter_number fabric rows guid a is within =
    ap (λ (l : List AdapterRow). adapter_number l guid) (own_adapter_rows fabric rows)
    ∙ ap (adapter_number fabric.adapters) is
    ∙ adapter_number_at fabric rows a within

-- ---- channels

tip_within : (fabric : Topology) → IsWellFormed fabric → (row : ChannelRow) → In row fabric.channels → row.tip.0 < length fabric.switches
tip_within fabric rows row within =
    in_all (λ (row : ChannelRow). row.tail.0 < length fabric.switches) fabric.channels rows.channel_tails (reversed row)
    (in_from_Contains fabric.channels (reversed row) (in_all (λ (row : ChannelRow). Contains fabric.channels (reversed row)) fabric.channels rows.reverses row within))

channel_of_link : (fabric : Topology) (one : Stated) → IsJoining (records_of fabric) one → IsAChannel fabric one
channel_of_link fabric one is =
    elim (states_a_row fabric one is.within) [
      | inl channel ↦ channel
      | inr (inl terminal) ↦ absurd (both_ways (is_switch one.link.far_kind) terminal.2.far_kind is.far)
      | inr (inr terminal) ↦ absurd (both_ways (is_switch one.node.kind) terminal.2.kind is.near)
    ]

own_channel_row : (fabric : Topology) → IsWellFormed fabric → (row : ChannelRow) (one : Stated) → In row fabric.channels → IsChannelLink fabric row one → channel_row (switch_rows (records_of fabric)) one ≡ row
own_channel_row fabric rows row one within is =
    same_row (switch_number (switch_rows (records_of fabric)) one.node.guid) row.tail.0 one.link.port row.port
    (switch_number (switch_rows (records_of fabric)) one.link.far_guid) row.tip.0 one.link.far_port row.tip_port
    (own_number fabric rows one.node.guid row.tail.0 is.guid (in_all (λ (row : ChannelRow). row.tail.0 < length fabric.switches) fabric.channels rows.channel_tails row within))
    is.port
    (own_number fabric rows one.link.far_guid row.tip.0 is.far_guid (tip_within fabric rows row within))
    is.far_port

goes_one_way : (x y : ChannelRow) → GoesBefore x y → GoesBefore y x → ⊥
goes_one_way x y (inl less) (inl more) = omega (arith, less, more)
goes_one_way x y (inl less) (inr both) = omega (arith, less, both.0)
goes_one_way x y (inr both) (inl more) = omega (arith, both.0, more)
goes_one_way x y (inr both) (inr back) = omega (arith, both.1, back.1)

pub own_channel_rows : (fabric : Topology) → IsWellFormed fabric → channel_rows (switch_rows (records_of fabric)) (records_of fabric) ≡ fabric.channels
own_channel_rows fabric rows =
    rising_same GoesBefore goes_one_way (channel_rows (switch_rows (records_of fabric)) (records_of fabric)) fabric.channels
    (channels_rise (records_of fabric) (own_are_sound fabric rows))
    (pairs_from_AllPairs GoesBefore fabric.channels rows.channels_rise)
    (λ row within.
    let there = from_channel_rows (records_of fabric) row within in
    let channel = channel_of_link fabric there.0 there.1 in
    subst (λ (row : ChannelRow). In row fabric.channels) (sym (own_channel_row fabric rows channel.0 there.0 channel.1 channel.2) ∙ there.2) channel.1)
    (λ row within.
    let there = channel_is_stated fabric rows row within in
    subst (λ (row : ChannelRow). In row (channel_rows (switch_rows (records_of fabric)) (records_of fabric)))
    (own_channel_row fabric rows row there.0 within there.2)
    (in_channel_rows (records_of fabric) there.0 (record { within = there.1; near = there.2.kind; far = there.2.far_kind })))

-- ---- terminals

abbrev terminal_of : ℕ → ℕ → ℕ → ℕ → ℕ → ℕ → TerminalRow
terminal_of lid switch port adapter adapter_port port_guid =
    record { lid = lid_id lid; switch = switch_id switch; port = port; adapter = adapter; adapter_port = adapter_port; port_guid = port_guid }

same_terminal : (a b c d e f a' b' c' d' e' f' : ℕ) → a ≡ a' → b ≡ b' → c ≡ c' → d ≡ d' → e ≡ e' → f ≡ f' → terminal_of a b c d e f ≡ terminal_of a' b' c' d' e' f'
same_terminal a b c d e f a' b' c' d' e' f' p q r s t u = cc

own_terminal_row : (fabric : Topology) → IsWellFormed fabric → (row : TerminalRow) (one : Stated) → In row fabric.terminals → IsAdapterEnd fabric row one → terminal_row (switch_rows (records_of fabric)) (adapter_rows (records_of fabric)) one ≡ row
own_terminal_row fabric rows row one within is =
    same_terminal one.link.lid (switch_number (switch_rows (records_of fabric)) one.link.far_guid) one.link.far_port
    (adapter_number (adapter_rows (records_of fabric)) one.node.guid) one.link.port one.link.port_guid
    row.lid.0 row.switch.0 row.port row.adapter row.adapter_port row.port_guid
    is.lid
    (own_number fabric rows one.link.far_guid row.switch.0 is.far_guid (in_all (λ (row : TerminalRow). row.switch.0 < length fabric.switches) fabric.terminals rows.terminal_switches row within))
    is.far_port
    (own_adapter_number fabric rows one.node.guid row.adapter is.guid (in_all (λ (row : TerminalRow). row.adapter < length fabric.adapters) fabric.terminals rows.terminal_adapters row within))
    is.port
    is.port_guid

pub own_terminal_rows : (fabric : Topology) → IsWellFormed fabric → terminal_rows (switch_rows (records_of fabric)) (adapter_rows (records_of fabric)) (records_of fabric) ≡ fabric.terminals
own_terminal_rows fabric rows =
    rising_same (λ (x y : TerminalRow). x.lid.0 < y.lid.0) (λ x y. less_one_way x.lid.0 y.lid.0)
    (terminal_rows (switch_rows (records_of fabric)) (adapter_rows (records_of fabric)) (records_of fabric)) fabric.terminals
    (terminals_rise (records_of fabric) (own_are_sound fabric rows))
    (pairs_from_AllPairs (λ (x y : TerminalRow). x.lid.0 < y.lid.0) fabric.terminals rows.terminal_lids_rise)
    (λ row within.
    let there = from_terminal_rows (records_of fabric) row within in
    let terminal = end_of_link fabric there.0 there.1.within there.1.near in
    subst (λ (row : TerminalRow). In row fabric.terminals) (sym (own_terminal_row fabric rows terminal.0 there.0 terminal.1 terminal.2) ∙ there.2) terminal.1)
    (λ row within.
    let there = adapter_end_is_stated fabric rows row within in
    subst (λ (row : TerminalRow). In row (terminal_rows (switch_rows (records_of fabric)) (adapter_rows (records_of fabric)) (records_of fabric)))
    (own_terminal_row fabric rows row there.0 within there.2)
    (in_terminal_rows (records_of fabric) there.0 (record { within = there.1; near = ap not there.2.kind })))
