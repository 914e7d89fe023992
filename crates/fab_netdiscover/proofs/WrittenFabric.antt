-- The text of a fabric is read as its rows written out.
use Rattle.std.proofs.Common.{◌≡◌, ◌≢◌, ◌<◌, ◌≤◌, ◌+◌, ◌^◌, ℕ, suc, Bool, true, false, cond, List, [], ◌∷◌, ◌++◌, Option, Some, None, length, get_or, map, refl, sym, subst, ap, ◌∙◌, arith}
use Rattle.std.specs.Prelude.{Ok, slice_get, find, option_map, unwrap_or, ◌==◌, nat_lt, All, Contains}
use Rattle.std.specs.List.{flat_map, enumerate_from, position_or_len}
use Rattle.std.specs.Option.{option_or}
use Rattle.std.specs.Str.Lines.{lines}
use Rattle.std.proofs.lemmas.Bool.{and_parts}
use Rattle.std.proofs.lemmas.List.{append_assoc, append-nil}
use Rattle.std.proofs.lemmas.List.Elements.{All-contains}
use Rattle.std.proofs.lemmas.List.Folds.{find_at}
use Rattle.std.proofs.lemmas.Option.{slice_get_within, get_or_from_slice_get}
use Rattle.fab_model.specs.declared.raw.NodeKind.TheVariants.{Switch, Adapter}
use Rattle.fab_model.specs.declared.rows.SwitchRow.{SwitchRow}
use Rattle.fab_model.specs.declared.rows.AdapterRow.{AdapterRow}
use Rattle.fab_model.specs.declared.rows.ChannelRow.{ChannelRow}
use Rattle.fab_model.specs.declared.rows.TerminalRow.{TerminalRow}
use Rattle.fab_model.specs.Description.{HasNoLineFeed, IsDescription}
use Rattle.fab_model.specs.Topology.{Topology, guid_of, ports_of, leaves_by, is_cabled_at, reversed, HasNoOwnCable}
use Rattle.fab_model.specs.WellFormed.{IsFabric, IsPort, IsUnicast, adapter_ports_of}
use Rattle.fab_model.specs.Written.{Block, adapter_guid_of, is_on_adapter, port_numbers, switch_link, adapter_link, switch_block, adapter_block, blocks, laid_out, records_of}
use Rattle.fab_model.proofs.MakesItself.{makes_itself}
use Rattle.fab_netdiscover.specs.Reading.{no_records, lines_read, records_in}
use Rattle.fab_netdiscover.specs.Writing.{desc_of_switch, lid_of_switch, desc_of_adapter, switch_head_text, adapter_head_text, channel_text, terminal_text, adapter_port_text, switch_port_text, adapter_port_line, switch_text, adapter_text, text_of}
use Rattle.fab_netdiscover.specs.Laws.{IsTextOf, WrittenIsRead, WrittenIsBuilt}
use Rattle.fab_netdiscover.proofs.Rows.{holds, tip_is_switch}
use Rattle.fab_netdiscover.proofs.NumberedRows.{Row, some_row}
use Rattle.fab_netdiscover.proofs.WrittenPorts.{LinkText, far_link, near_link, channel_line, terminal_line, adapter_line}
use Rattle.fab_netdiscover.proofs.WrittenBlocks.{switch_line, adapter_head_line, ReadsAs, BlockText, AllRead, blocks_read}

-- ---- what is read off rows

-- a number of a row, or 0 where there is none
of_row : {X : Type 0} (value : X → ℕ) (most : ℕ) (xs : List X) (found : Option X) → All (λ x. value x ≤ most) xs → (n : ℕ) → slice_get xs n ≡ found → unwrap_or (option_map value found) 0 ≤ most
of_row value most xs None h n e = omega arith
of_row value most xs (Some x) h n e = holds (λ x. value x ≤ most) xs n x h e

below_row : {X : Type 0} (value : X → ℕ) (limit : ℕ) (xs : List X) (found : Option X) → 0 < limit → All (λ x. value x < limit) xs → (n : ℕ) → slice_get xs n ≡ found → unwrap_or (option_map value found) 0 < limit
below_row value limit xs None z h n e = z
below_row value limit xs (Some x) z h n e = holds (λ x. value x < limit) xs n x h e

one_line_of : {X : Type 0} (desc : X → List ℕ) (xs : List X) (found : Option X) → All (λ x. IsDescription (desc x)) xs → (n : ℕ) → slice_get xs n ≡ found → HasNoLineFeed (unwrap_or (option_map desc found) [])
one_line_of desc xs None h n e = λ k d within. absurd (omega (arith, within))
one_line_of desc xs (Some x) h n e = (holds (λ x. IsDescription (desc x)) xs n x h e).one_line

some_guid : (fabric : Topology) → IsFabric fabric → (n : ℕ) → guid_of fabric n < 2 ^ 64
some_guid fabric h n = below_row (λ (row : SwitchRow). row.guid) (2 ^ 64) fabric.switches (slice_get fabric.switches n) (omega arith) h.types.switch_guids n refl

some_adapter_guid : (fabric : Topology) → IsFabric fabric → (n : ℕ) → adapter_guid_of fabric n < 2 ^ 64
some_adapter_guid fabric h n = below_row (λ (row : AdapterRow). row.guid) (2 ^ 64) fabric.adapters (slice_get fabric.adapters n) (omega arith) h.types.adapter_guids n refl

some_ports : (fabric : Topology) → IsFabric fabric → (n : ℕ) → ports_of fabric n ≤ 254
some_ports fabric h n = of_row (λ (row : SwitchRow). row.ports) 254 fabric.switches (slice_get fabric.switches n) h.rows.switch_ports n refl

some_adapter_ports : (fabric : Topology) → IsFabric fabric → (n : ℕ) → adapter_ports_of fabric n ≤ 254
some_adapter_ports fabric h n = of_row (λ (row : AdapterRow). row.ports) 254 fabric.adapters (slice_get fabric.adapters n) h.rows.adapter_ports n refl

some_lid : (fabric : Topology) → IsFabric fabric → (n : ℕ) → lid_of_switch fabric n ≤ 0xBFFF
some_lid fabric h n = of_row (λ (row : SwitchRow). row.lid.0) 0xBFFF fabric.switches (slice_get fabric.switches n) (λ k d within. (h.rows.switch_lids k d within).1) n refl

some_desc : (fabric : Topology) → IsFabric fabric → (n : ℕ) → HasNoLineFeed (desc_of_switch fabric n)
some_desc fabric h n = one_line_of (λ (row : SwitchRow). row.desc) fabric.switches (slice_get fabric.switches n) h.types.switch_descriptions n refl

some_adapter_desc : (fabric : Topology) → IsFabric fabric → (n : ℕ) → HasNoLineFeed (desc_of_adapter fabric n)
some_adapter_desc fabric h n = one_line_of (λ (row : AdapterRow). row.desc) fabric.adapters (slice_get fabric.adapters n) h.types.adapter_descriptions n refl

-- ---- a row that is found

passes_by : {X : Type 0} (test : Bool) (p : X → Bool) (xs : List X) (x y : X) → p y ≡ test → cond test (Some y) (find p xs) ≡ Some x → (find p xs ≡ Some x → p x ≡ true) → p x ≡ true
passes_by true p xs x y e h later = let one : y ≡ x = cc in sym (ap p one) ∙ e
passes_by false p xs x y e h later = later h

passes : {X : Type 0} (p : X → Bool) (xs : List X) (x : X) → find p xs ≡ Some x → p x ≡ true
passes p [] x e = cc
passes p (y ∷ xs) x e = passes_by (p y) p xs x y refl e (passes p xs x)

same : (m n : ℕ) → (m == n) ≡ true → m ≡ n
same m n e = grind (arith, e)

of_found : {X : Type 0} (P : X → Type 0) (p : X → Bool) (xs : List X) (x : X) → All P xs → find p xs ≡ Some x → P x
of_found P p xs x h e = holds P xs (position_or_len p xs) x h (sym (find_at p xs) ∙ e)

never_by : (test : Bool) (i j a b : ℕ) → nat_lt i j ≡ test → i ≢ j → (i < j → a < b) → (j < i → b < a) → a ≡ b → ⊥
never_by true i j a b e apart up down equal = let more : a < b = up (grind (arith, e)) in omega (arith, more, equal)
never_by false i j a b e apart up down equal =
    let not_less : j ≤ i = grind (arith, e) in
    let more : b < a = down (omega (arith, not_less, apart)) in
    omega (arith, more, equal)

never : (i j a b : ℕ) → i ≢ j → (i < j → a < b) → (j < i → b < a) → a ≡ b → ⊥
never i j a b apart up down equal = never_by (nat_lt i j) i j a b refl apart up down equal

-- switches of other numbers have other GUIDs
guids_apart : (fabric : Topology) (i j : ℕ) (a b : SwitchRow) → IsFabric fabric → slice_get fabric.switches i ≡ Some a → slice_get fabric.switches j ≡ Some b → i ≢ j → b.guid ≢ a.guid
guids_apart fabric i j a b h e k apart equal =
    let here : get_or fabric.switches i a ≡ a = get_or_from_slice_get fabric.switches i a a e in
    let there : get_or fabric.switches j a ≡ b = get_or_from_slice_get fabric.switches j b a k in
    let within : i < length fabric.switches = slice_get_within fabric.switches i a e in
    let beyond : j < length fabric.switches = slice_get_within fabric.switches j b k in
    let up : i < j → (get_or fabric.switches i a).guid < (get_or fabric.switches j a).guid = λ less. h.rows.switch_guids i j a less beyond in
    let down : j < i → (get_or fabric.switches j a).guid < (get_or fabric.switches i a).guid = λ less. h.rows.switch_guids j i a less within in
    let one : (get_or fabric.switches i a).guid ≡ a.guid = ap (λ (row : SwitchRow). row.guid) here in
    let other : (get_or fabric.switches j a).guid ≡ b.guid = ap (λ (row : SwitchRow). row.guid) there in
    never i j (get_or fabric.switches i a).guid (get_or fabric.switches j a).guid apart up down (one ∙ sym equal ∙ sym other)

-- ---- under a switch

channel_reads : (fabric : Topology) (switch port : ℕ) (row : SwitchRow) (channel : ChannelRow) → IsFabric fabric → HasNoOwnCable fabric → slice_get fabric.switches switch ≡ Some row
    → find (leaves_by switch port) fabric.channels ≡ Some channel → LinkText Switch row.guid (channel_text fabric channel) (far_link Switch port (guid_of fabric channel.tip.0) channel.tip_port)
unfolding channel_text
channel_reads fabric switch port row channel h own e f =
    let fits : (channel.tail.0 == switch ≡ true) × (channel.port == port ≡ true) = and_parts (channel.tail.0 == switch) (channel.port == port) (passes (leaves_by switch port) fabric.channels channel f) in
    let tail : channel.tail.0 ≡ switch = same channel.tail.0 switch fits.0 in
    let place : ℕ = position_or_len (leaves_by switch port) fabric.channels in
    let at : slice_get fabric.channels place ≡ Some channel = sym (find_at (leaves_by switch port) fabric.channels) ∙ f in
    let near : IsPort (ports_of fabric channel.tail.0) channel.port = holds (λ (row : ChannelRow). IsPort (ports_of fabric row.tail.0) row.port) fabric.channels place channel h.rows.channel_ports at in
    let back : Contains fabric.channels (reversed channel) = holds (λ (row : ChannelRow). Contains fabric.channels (reversed row)) fabric.channels place channel h.rows.reverses at in
    let far : IsPort (ports_of fabric channel.tip.0) channel.tip_port = All-contains (λ (row : ChannelRow). IsPort (ports_of fabric row.tail.0) row.port) fabric.channels (reversed channel) h.rows.channel_ports back in
    let apart : channel.tail.0 ≢ channel.tip.0 = holds (λ (row : ChannelRow). row.tail.0 ≢ row.tip.0) fabric.channels place channel own at in
    let tip : Row fabric.switches channel.tip.0 = some_row fabric.switches channel.tip.0 (tip_is_switch fabric place channel h at) in
    let guid : guid_of fabric channel.tip.0 ≡ tip.row.guid = ap (λ (found : Option SwitchRow). unwrap_or (option_map (λ row. row.guid) found) 0) tip.found in
    let other : guid_of fabric channel.tip.0 ≢ row.guid = λ equal. guids_apart fabric switch channel.tip.0 row tip.row h e tip.found (λ one. apart (tail ∙ one)) (sym guid ∙ equal) in
    subst (λ (port : ℕ). LinkText Switch row.guid (channel_text fabric channel) (far_link Switch port (guid_of fabric channel.tip.0) channel.tip_port)) (same channel.port port fits.1)
    (channel_line row.guid channel.port (guid_of fabric channel.tip.0) channel.tip_port (desc_of_switch fabric channel.tip.0) (lid_of_switch fabric channel.tip.0)
    (record { port_fits = omega (arith, near.1, some_ports fabric h channel.tail.0); guid_fits = some_guid fabric h channel.tip.0; far_port_fits = omega (arith, far.1, some_ports fabric h channel.tip.0) })
    other (some_desc fabric h channel.tip.0) (omega (arith, some_lid fabric h channel.tip.0)))

terminal_reads : (fabric : Topology) (switch port guid : ℕ) (terminal : TerminalRow) → IsFabric fabric → find (is_cabled_at switch port) fabric.terminals ≡ Some terminal
    → LinkText Switch guid (terminal_text fabric terminal) (far_link Adapter port (adapter_guid_of fabric terminal.adapter) terminal.adapter_port)
unfolding terminal_text
terminal_reads fabric switch port guid terminal h f =
    let fits : (terminal.switch.0 == switch ≡ true) × (terminal.port == port ≡ true) = and_parts (terminal.switch.0 == switch) (terminal.port == port) (passes (is_cabled_at switch port) fabric.terminals terminal f) in
    let near : IsPort (ports_of fabric terminal.switch.0) terminal.port = of_found (λ (row : TerminalRow). IsPort (ports_of fabric row.switch.0) row.port) (is_cabled_at switch port) fabric.terminals terminal h.rows.terminal_ports f in
    let far : IsPort (adapter_ports_of fabric terminal.adapter) terminal.adapter_port = of_found (λ (row : TerminalRow). IsPort (adapter_ports_of fabric row.adapter) row.adapter_port) (is_cabled_at switch port) fabric.terminals terminal h.rows.terminal_adapter_ports f in
    let port_guid : terminal.port_guid < 2 ^ 64 = of_found (λ (row : TerminalRow). row.port_guid < 2 ^ 64) (is_cabled_at switch port) fabric.terminals terminal h.types.port_guids f in
    let lid : IsUnicast terminal.lid.0 = of_found (λ (row : TerminalRow). IsUnicast row.lid.0) (is_cabled_at switch port) fabric.terminals terminal h.rows.terminal_lids f in
    subst (λ (port : ℕ). LinkText Switch guid (terminal_text fabric terminal) (far_link Adapter port (adapter_guid_of fabric terminal.adapter) terminal.adapter_port)) (same terminal.port port fits.1)
    (terminal_line guid terminal.port (adapter_guid_of fabric terminal.adapter) terminal.adapter_port terminal.port_guid (desc_of_adapter fabric terminal.adapter) terminal.lid.0
    (record { port_fits = omega (arith, near.1, some_ports fabric h terminal.switch.0); guid_fits = some_adapter_guid fabric h terminal.adapter; far_port_fits = omega (arith, far.1, some_adapter_ports fabric h terminal.adapter) })
    port_guid (some_adapter_desc fabric h terminal.adapter) (omega (arith, lid.1)))

switch_port_by : (fabric : Topology) (switch port : ℕ) (row : SwitchRow) (channel : Option ChannelRow) (terminal : Option TerminalRow) → IsFabric fabric → HasNoOwnCable fabric → slice_get fabric.switches switch ≡ Some row
    → find (leaves_by switch port) fabric.channels ≡ channel → find (is_cabled_at switch port) fabric.terminals ≡ terminal
    → ReadsAs Switch row.guid (unwrap_or (option_or (option_map (channel_text fabric) channel) (option_map (terminal_text fabric) terminal)) [])
    (option_or (option_map (λ (row : ChannelRow). far_link Switch port (guid_of fabric row.tip.0) row.tip_port) channel) (option_map (λ (row : TerminalRow). far_link Adapter port (adapter_guid_of fabric row.adapter) row.adapter_port) terminal))
switch_port_by fabric switch port row (Some channel) terminal h own e f g = channel_reads fabric switch port row channel h own e f
switch_port_by fabric switch port row None (Some terminal) h own e f g = terminal_reads fabric switch port row.guid terminal h g
switch_port_by fabric switch port row None None h own e f g = refl

switch_port_reads : (fabric : Topology) (switch : ℕ) (row : SwitchRow) → IsFabric fabric → HasNoOwnCable fabric → slice_get fabric.switches switch ≡ Some row → (port : ℕ) → ReadsAs Switch row.guid (switch_port_text fabric switch port) (switch_link fabric switch port)
switch_port_reads fabric switch row h own e port = switch_port_by fabric switch port row (find (leaves_by switch port) fabric.channels) (find (is_cabled_at switch port) fabric.terminals) h own e refl refl

-- ---- under an adapter

near_reads : (fabric : Topology) (adapter port guid : ℕ) (terminal : TerminalRow) → IsFabric fabric → find (is_on_adapter adapter port) fabric.terminals ≡ Some terminal
    → LinkText Adapter guid (adapter_port_text fabric terminal) (near_link port terminal.port_guid (guid_of fabric terminal.switch.0) terminal.port terminal.lid.0)
unfolding adapter_port_text
near_reads fabric adapter port guid terminal h f =
    let fits : (terminal.adapter == adapter ≡ true) × (terminal.adapter_port == port ≡ true) = and_parts (terminal.adapter == adapter) (terminal.adapter_port == port) (passes (is_on_adapter adapter port) fabric.terminals terminal f) in
    let far : IsPort (ports_of fabric terminal.switch.0) terminal.port = of_found (λ (row : TerminalRow). IsPort (ports_of fabric row.switch.0) row.port) (is_on_adapter adapter port) fabric.terminals terminal h.rows.terminal_ports f in
    let near : IsPort (adapter_ports_of fabric terminal.adapter) terminal.adapter_port = of_found (λ (row : TerminalRow). IsPort (adapter_ports_of fabric row.adapter) row.adapter_port) (is_on_adapter adapter port) fabric.terminals terminal h.rows.terminal_adapter_ports f in
    let port_guid : terminal.port_guid < 2 ^ 64 = of_found (λ (row : TerminalRow). row.port_guid < 2 ^ 64) (is_on_adapter adapter port) fabric.terminals terminal h.types.port_guids f in
    let lid : IsUnicast terminal.lid.0 = of_found (λ (row : TerminalRow). IsUnicast row.lid.0) (is_on_adapter adapter port) fabric.terminals terminal h.rows.terminal_lids f in
    subst (λ (port : ℕ). LinkText Adapter guid (adapter_port_text fabric terminal) (near_link port terminal.port_guid (guid_of fabric terminal.switch.0) terminal.port terminal.lid.0)) (same terminal.adapter_port port fits.1)
    (adapter_line guid terminal.adapter_port terminal.port_guid (guid_of fabric terminal.switch.0) terminal.port terminal.lid.0 (desc_of_switch fabric terminal.switch.0) (lid_of_switch fabric terminal.switch.0)
    (record { port_fits = omega (arith, near.1, some_adapter_ports fabric h terminal.adapter); guid_fits = some_guid fabric h terminal.switch.0; far_port_fits = omega (arith, far.1, some_ports fabric h terminal.switch.0) })
    port_guid (omega (arith, lid.1)) (some_desc fabric h terminal.switch.0) (omega (arith, some_lid fabric h terminal.switch.0)))

adapter_port_by : (fabric : Topology) (adapter port guid : ℕ) (terminal : Option TerminalRow) → IsFabric fabric → find (is_on_adapter adapter port) fabric.terminals ≡ terminal
    → ReadsAs Adapter guid (unwrap_or (option_map (adapter_port_text fabric) terminal) []) (option_map (λ (row : TerminalRow). near_link port row.port_guid (guid_of fabric row.switch.0) row.port row.lid.0) terminal)
adapter_port_by fabric adapter port guid (Some terminal) h f = near_reads fabric adapter port guid terminal h f
adapter_port_by fabric adapter port guid None h f = refl

-- ---- blocks

switch_reads : (fabric : Topology) (switch : ℕ) (row : SwitchRow) → IsFabric fabric → HasNoOwnCable fabric → slice_get fabric.switches switch ≡ Some row → BlockText (switch_text fabric (switch, row)) (switch_block fabric (switch, row))
unfolding switch_text
switch_reads fabric switch row h own e =
    let ports : row.ports ≤ 254 = holds (λ (row : SwitchRow). row.ports ≤ 254) fabric.switches switch row h.rows.switch_ports e in
    let guid : row.guid < 2 ^ 64 = holds (λ (row : SwitchRow). row.guid < 2 ^ 64) fabric.switches switch row h.types.switch_guids e in
    let lid : IsUnicast row.lid.0 = holds (λ (row : SwitchRow). IsUnicast row.lid.0) fabric.switches switch row h.rows.switch_lids e in
    let desc : IsDescription row.desc = holds (λ (row : SwitchRow). IsDescription row.desc) fabric.switches switch row h.types.switch_descriptions e in
    record {
      head_text = switch_head_text row;
      head = switch_line row (record { ports_fit = omega (arith, ports); guid_fits = guid; short = desc.within; one_line = desc.one_line }) (omega (arith, lid.1));
      port_texts = switch_port_text fabric switch;
      port_links = switch_link fabric switch;
      ports = port_numbers row.ports;
      pieces = refl;
      links = refl;
      reads = switch_port_reads fabric switch row h own e;
    }

adapter_reads : (fabric : Topology) (adapter : ℕ) (row : AdapterRow) → IsFabric fabric → slice_get fabric.adapters adapter ≡ Some row → BlockText (adapter_text fabric (adapter, row)) (adapter_block fabric (adapter, row))
unfolding adapter_text
adapter_reads fabric adapter row h e =
    let ports : row.ports ≤ 254 = holds (λ (row : AdapterRow). row.ports ≤ 254) fabric.adapters adapter row h.rows.adapter_ports e in
    let guid : row.guid < 2 ^ 64 = holds (λ (row : AdapterRow). row.guid < 2 ^ 64) fabric.adapters adapter row h.types.adapter_guids e in
    let desc : IsDescription row.desc = holds (λ (row : AdapterRow). IsDescription row.desc) fabric.adapters adapter row h.types.adapter_descriptions e in
    record {
      head_text = adapter_head_text row;
      head = adapter_head_line row (record { ports_fit = omega (arith, ports); guid_fits = guid; short = desc.within; one_line = desc.one_line });
      port_texts = adapter_port_line fabric adapter;
      port_links = adapter_link fabric adapter;
      ports = port_numbers row.ports;
      pieces = refl;
      links = refl;
      reads = λ port. adapter_port_by fabric adapter port row.guid (find (is_on_adapter adapter port) fabric.terminals) h refl;
    }

-- ---- the whole text

abbrev pieces_of : {X : Type 0} → (ℕ × X → List ℕ) → (ℕ × X → Block) → ℕ → List X → List (List ℕ × Block) → List (List ℕ × Block)
pieces_of text block from [] others = others
pieces_of text block from (row ∷ rows) others = (text (from, row), block (from, row)) ∷ pieces_of text block (from + 1) rows others

all_read : {X : Type 0} (text : ℕ × X → List ℕ) (block : ℕ × X → Block) (rows : List X) (from : ℕ) (others : List (List ℕ × Block)) → ((k : ℕ) (row : X) → slice_get rows k ≡ Some row → BlockText (text (from + k, row)) (block (from + k, row)))
    → AllRead others → AllRead (pieces_of text block from rows others)
all_read text block [] from others h k = k
all_read text block (row ∷ rows) from others h k =
    let first : from + 0 ≡ from = omega arith in (
      subst (λ (n : ℕ). BlockText (text (n, row)) (block (n, row))) first (h 0 row refl),
      all_read text block rows (from + 1) others (λ k row e. let place : from + suc k ≡ from + 1 + k = omega arith in subst (λ (n : ℕ). BlockText (text (n, row)) (block (n, row))) place (h (suc k) row e)) k,
    )

texts_of : {X : Type 0} (text : ℕ × X → List ℕ) (block : ℕ × X → Block) (rows : List X) (from : ℕ) (others : List (List ℕ × Block))
    → flat_map (λ piece. piece.0) (pieces_of text block from rows others) ≡ flat_map text (enumerate_from from rows) ++ flat_map (λ piece. piece.0) others
texts_of text block [] from others = refl
texts_of text block (row ∷ rows) from others =
    ap (λ (later : List ℕ). text (from, row) ++ later) (texts_of text block rows (from + 1) others)
    ∙ sym (append_assoc (text (from, row)) (flat_map text (enumerate_from (from + 1) rows)) (flat_map (λ piece. piece.0) others))

blocks_of : {X : Type 0} (text : ℕ × X → List ℕ) (block : ℕ × X → Block) (rows : List X) (from : ℕ) (others : List (List ℕ × Block))
    → map (λ piece. piece.1) (pieces_of text block from rows others) ≡ map block (enumerate_from from rows) ++ map (λ piece. piece.1) others
blocks_of text block [] from others = refl
blocks_of text block (row ∷ rows) from others = ap (λ (later : List Block). block (from, row) ∷ later) (blocks_of text block rows (from + 1) others)

abbrev all_pieces : Topology → List (List ℕ × Block)
all_pieces fabric = pieces_of (switch_text fabric) (switch_block fabric) 0 fabric.switches (pieces_of (adapter_text fabric) (adapter_block fabric) 0 fabric.adapters [])

fabric_read : (fabric : Topology) → IsFabric fabric → HasNoOwnCable fabric → AllRead (all_pieces fabric)
fabric_read fabric h own =
    all_read (switch_text fabric) (switch_block fabric) fabric.switches 0 _ (λ k row e. let place : k ≡ 0 + k = omega arith in subst (λ (n : ℕ). BlockText (switch_text fabric (n, row)) (switch_block fabric (n, row))) place (switch_reads fabric k row h own e))
    (all_read (adapter_text fabric) (adapter_block fabric) fabric.adapters 0 [] (λ k row e. let place : k ≡ 0 + k = omega arith in subst (λ (n : ℕ). BlockText (adapter_text fabric (n, row)) (adapter_block fabric (n, row))) place (adapter_reads fabric k row h e)) tt)

whole_text : (fabric : Topology) → flat_map (λ piece. piece.0) (all_pieces fabric) ≡ text_of fabric
unfolding text_of
whole_text fabric =
    texts_of (switch_text fabric) (switch_block fabric) fabric.switches 0 _
    ∙ ap (λ (later : List ℕ). flat_map (switch_text fabric) (enumerate_from 0 fabric.switches) ++ later) (texts_of (adapter_text fabric) (adapter_block fabric) fabric.adapters 0 [] ∙ append-nil (flat_map (adapter_text fabric) (enumerate_from 0 fabric.adapters)))

whole_blocks : (fabric : Topology) → map (λ piece. piece.1) (all_pieces fabric) ≡ blocks fabric
whole_blocks fabric =
    blocks_of (switch_text fabric) (switch_block fabric) fabric.switches 0 _
    ∙ ap (λ (later : List Block). map (switch_block fabric) (enumerate_from 0 fabric.switches) ++ later) (blocks_of (adapter_text fabric) (adapter_block fabric) fabric.adapters 0 [] ∙ append-nil (map (adapter_block fabric) (enumerate_from 0 fabric.adapters)))

pub written_is_read : WrittenIsRead
unfolding records_in records_of
written_is_read fabric h own =
    ap (λ (text : List ℕ). lines_read 1 no_records (lines text)) (sym (whole_text fabric))
    ∙ blocks_read (all_pieces fabric) 1 no_records (fabric_read fabric h own)
    ∙ ap (λ (all : List Block). Ok (laid_out 1 0 all)) (whole_blocks fabric)

-- ---- as `write` meets it

pub written_whole : (fabric : Topology) (start switches bytes : List ℕ) → start ≡ [] → switches ≡ start ++ flat_map (switch_text fabric) (enumerate_from 0 fabric.switches)
    → bytes ≡ switches ++ flat_map (adapter_text fabric) (enumerate_from 0 fabric.adapters) → bytes ≡ text_of fabric
unfolding text_of
written_whole fabric start switches bytes e h k =
    k ∙ ap (λ (front : List ℕ). front ++ flat_map (adapter_text fabric) (enumerate_from 0 fabric.adapters)) (h ∙ ap (λ (none : List ℕ). none ++ flat_map (switch_text fabric) (enumerate_from 0 fabric.switches)) e)

pub text_again : (fabric : Topology) (bytes : List ℕ) → IsFabric fabric → bytes ≡ text_of fabric → HasNoOwnCable fabric → IsTextOf bytes fabric
text_again fabric bytes h e own = (records_of fabric, ap records_in e ∙ written_is_read fabric h own, makes_itself fabric h.rows)

pub written_is_built : WrittenIsBuilt
written_is_built fabric h own = text_again fabric (text_of fabric) h refl own
