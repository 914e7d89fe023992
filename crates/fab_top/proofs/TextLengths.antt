-- How long the text of a fabric can be: the text of a recipe's fabric is no longer than a fabric file may be.
use Rattle.std.proofs.Common.{◌≡◌, ℕ, zero, suc, ◌+◌, ◌*◌, ◌/◌, ◌%◌, ◌^◌, ◌<◌, ◌≤◌, Bool, true, false, List, [], ◌∷◌, length, map, codes, refl, ◌∙◌, ap, arith, inl, inr, Some, None, Option, length-append}
use Rattle.std.specs.Prelude.{◌==◌, All, Contains, decimal, flat_map, find, option_map, unwrap_or, slice_get, if◌then◌else◌, IsTrue}
use Rattle.std.specs.Fmt.{digits, digits_onto, digit_glyph, radix_digits}
use Rattle.std.specs.List.{concat, range_with_len, enumerate_from}
use Rattle.std.specs.Option.{option_or}
use Rattle.std.proofs.lemmas.Fmt.{length-decimal-le}
use Rattle.std.proofs.lemmas.List.{length-map}
use Rattle.std.proofs.lemmas.List.Elements.{All-contains}
use Rattle.std.proofs.lemmas.List.FromFn.{length-range_with_len, length-enumerate_from}
use Rattle.std.proofs.lemmas.Option.{slice_get_within, get_or_from_slice_get}
use Rattle.fab_text.proofs.Spelled.{length-last}
use Rattle.fab_model.specs.declared.raw.NodeKind.{NodeKind}
use Rattle.fab_model.specs.declared.raw.NodeKind.TheVariants.{Switch, Adapter}
use Rattle.fab_model.specs.declared.rows.SwitchRow.{SwitchRow}
use Rattle.fab_model.specs.declared.rows.AdapterRow.{AdapterRow}
use Rattle.fab_model.specs.declared.rows.ChannelRow.{ChannelRow}
use Rattle.fab_model.specs.declared.rows.TerminalRow.{TerminalRow}
use Rattle.fab_model.specs.Description.{IsDescription}
use Rattle.fab_model.specs.Topology.{Topology, ports_of, guid_of, reversed, leaves_by, is_cabled_at}
use Rattle.fab_model.specs.WellFormed.{IsFabric, IsPort, IsUnicast, adapter_ports_of}
use Rattle.fab_model.specs.Written.{port_numbers, is_on_adapter, adapter_guid_of}
use Rattle.fab_model.proofs.Lists.Found.{from_find, from_enumerate}
use Rattle.fab_model.proofs.Lists.Members.{In, in_all, from_map, All_from_in, Contains_from_in}
use Rattle.fab_netdiscover.specs.Writing.{guid16, name_text, port_text, far_end, port_guid_text, port_with_guid, in_quotes, address_text, described, head_text, switch_head_text, adapter_head_text, desc_of_switch, lid_of_switch, desc_of_adapter, channel_text, terminal_text, adapter_port_text, switch_port_text, adapter_port_line, switch_text, adapter_text, text_of}
use Rattle.fab_report.specs.declared.recipe.Recipe.{Recipe}
use Rattle.fab_report.specs.Recipes.{fits, generated, adapter_row, terminal_places, switch_count, switch_row, all_switches}
use Rattle.fab_report.proofs.Generated.Places.{ArePlaces, are_places}
use Rattle.fab_top.specs.Files.{fabric_limit}

-- ---- numbers and words

digits_few : (count base : ℕ) (upper : Bool) (n : ℕ) (behind : List ℕ) → length (digits_onto count base upper n behind) ≤ count + length behind
digits_few zero base upper n behind = omega arith
digits_few (suc count) base upper n behind = go (n / base == 0) (digits_few count base upper (n / base) (digit_glyph upper (n % base) ∷ behind))
  where
    go : (last : Bool) → length (digits_onto count base upper (n / base) (digit_glyph upper (n % base) ∷ behind)) ≤ count + length (digit_glyph upper (n % base) ∷ behind) →
        length (if last then digit_glyph upper (n % base) ∷ behind else digits_onto count base upper (n / base) (digit_glyph upper (n % base) ∷ behind)) ≤ suc count + length behind
    go true few = omega arith
    go false few = omega (arith, few)

hex_length : (n : ℕ) → length (radix_digits 16 false n) ≤ 64
unfolding digits
hex_length n = omega (arith, digits_few 64 16 false n [])

concat_length : (word : List ℕ) (words : List (List ℕ)) → length (concat (word ∷ words)) ≡ length word + length (concat words)
concat_length word words = length-append word (concat words)

port_digits : (port : ℕ) → port ≤ 254 → length (decimal port) ≤ 3
port_digits port low = length-decimal-le 3 port (omega arith) (omega (arith, low)) (omega (arith, low))

lid_digits : (lid : ℕ) → lid < 10 ^ 5 → length (decimal lid) ≤ 5
lid_digits lid low = length-decimal-le 5 lid (omega arith) low (omega (arith, low))

name_length : (kind : NodeKind) (guid : ℕ) → length (name_text kind guid) ≡ 20
unfolding name_text guid16
name_length Switch guid = omega (arith, concat_length (guid16 guid) (codes "\"" ∷ []), length-last 16 16 guid)
name_length Adapter guid = omega (arith, concat_length (guid16 guid) (codes "\"" ∷ []), length-last 16 16 guid)

port_length : (port : ℕ) → port ≤ 254 → length (port_text port) ≤ 5
unfolding port_text
port_length port low = omega (arith, concat_length (decimal port) (codes "]" ∷ []), port_digits port low)

far_length : (kind : NodeKind) (guid port : ℕ) → port ≤ 254 → length (far_end kind guid port) ≤ 25
unfolding far_end
far_length kind guid port low = omega (arith, length-append (name_text kind guid) (port_text port), name_length kind guid, port_length port low)

port_guid_length : (guid : ℕ) → length (port_guid_text guid) ≤ 66
unfolding port_guid_text
port_guid_length guid = go (guid == 0)
  where
    go : (none : Bool) → length (if none then [] else concat (codes "(" ∷ radix_digits 16 false guid ∷ codes ")" ∷ [])) ≤ 66
    go true = omega arith
    go false = omega (arith, concat_length (radix_digits 16 false guid) (codes ")" ∷ []), hex_length guid)

numbered_port_length : (port guid : ℕ) → port ≤ 254 → length (port_with_guid port guid) ≤ 71
unfolding port_with_guid
numbered_port_length port guid low = omega (arith, length-append (port_text port) (port_guid_text guid), port_length port low, port_guid_length guid)

quotes_length : (desc : List ℕ) → length (in_quotes desc) ≡ length desc + 2
unfolding in_quotes
quotes_length desc = omega (arith, concat_length desc (codes "\"" ∷ []))

address_length : (lid : ℕ) → lid < 10 ^ 5 → length (address_text lid) ≤ 15
unfolding address_text
address_length lid low = omega (arith, concat_length (decimal lid) (codes " lmc 0" ∷ []), lid_digits lid low)

described_length : (desc : List ℕ) (lid : ℕ) → length desc ≤ 64 → lid < 10 ^ 5 → length (described desc lid) ≤ 77
unfolding described
described_length desc lid short low = omega (
  arith,
  concat_length (in_quotes desc) (codes " lid " ∷ decimal lid ∷ codes "\n" ∷ []),
  concat_length (decimal lid) (codes "\n" ∷ []),
  quotes_length desc,
  lid_digits lid low,
  short,
)

-- ---- heads

head_length : (kind : NodeKind) (ports guid : ℕ) (desc : List ℕ) → ports ≤ 254 → length desc ≤ 64 → length (head_text kind ports guid desc) ≤ 101
unfolding head_text
head_length Switch ports guid desc low short = omega (
  arith,
  concat_length (decimal ports) (codes " " ∷ name_text Switch guid ∷ codes "\t\t# " ∷ in_quotes desc ∷ []),
  concat_length (name_text Switch guid) (codes "\t\t# " ∷ in_quotes desc ∷ []),
  concat_length (in_quotes desc) [],
  port_digits ports low,
  name_length Switch guid,
  quotes_length desc,
  short,
)
head_length Adapter ports guid desc low short = omega (
  arith,
  concat_length (decimal ports) (codes " " ∷ name_text Adapter guid ∷ codes "\t\t# " ∷ in_quotes desc ∷ []),
  concat_length (name_text Adapter guid) (codes "\t\t# " ∷ in_quotes desc ∷ []),
  concat_length (in_quotes desc) [],
  port_digits ports low,
  name_length Adapter guid,
  quotes_length desc,
  short,
)

switch_head_length : (row : SwitchRow) → row.ports ≤ 254 → length row.desc ≤ 64 → row.lid.0 < 10 ^ 5 → length (switch_head_text row) ≤ 160
unfolding switch_head_text
switch_head_length row ports short low = omega (
  arith,
  concat_length (head_text Switch row.ports row.guid row.desc) (codes " base port 0 " ∷ address_text row.lid.0 ∷ codes "\n" ∷ []),
  concat_length (address_text row.lid.0) (codes "\n" ∷ []),
  head_length Switch row.ports row.guid row.desc ports short,
  address_length row.lid.0 low,
)

adapter_head_length : (row : AdapterRow) → row.ports ≤ 254 → length row.desc ≤ 64 → length (adapter_head_text row) ≤ 160
unfolding adapter_head_text
adapter_head_length row ports short = omega (arith, concat_length (head_text Adapter row.ports row.guid row.desc) (codes "\n" ∷ []), head_length Adapter row.ports row.guid row.desc ports short)

-- ---- lists of texts

one_more : (a b bound count : ℕ) → a ≤ bound → b ≤ count * bound → a + b ≤ suc count * bound
one_more a b bound count h k = omega (arith, h, k)

texts_length : {X : Type 0} (write : X → List ℕ) (bound : ℕ) (xs : List X) → ((x : X) → In x xs → length (write x) ≤ bound) → length (flat_map write xs) ≤ length xs * bound
texts_length write bound [] each = omega arith
texts_length write bound (x ∷ xs) each =
    let rest : length (flat_map write xs) ≤ length xs * bound = texts_length write bound xs (λ y there. each y (inr there)) in
    let more : length (write x) + length (flat_map write xs) ≤ suc (length xs) * bound = one_more _ _ bound (length xs) (each x (inl refl)) rest in
    omega (arith, length-append (write x) (flat_map write xs), more)

-- ---- lines of a fabric

there : {X : Type 0} (P : X → Type 0) (xs : List X) (i : ℕ) (x : X) → All P xs → slice_get xs i ≡ Some x → P x
there P xs i x all at = All-contains P xs x all (i, slice_get_within xs i x at, get_or_from_slice_get xs i x x at)

module _ (t : Topology) (fabric : IsFabric t) where
  switch_desc : (s : ℕ) → length (desc_of_switch t s) ≤ 64
  switch_desc s = go (slice_get t.switches s) refl
    where
      go : (o : Option SwitchRow) → slice_get t.switches s ≡ o → length (unwrap_or (option_map (λ row. row.desc) o) []) ≤ 64
      go None at = omega arith
      go (Some row) at = (there (λ (r : SwitchRow). IsDescription r.desc) t.switches s row fabric.types.switch_descriptions at).within

  adapter_desc : (a : ℕ) → length (desc_of_adapter t a) ≤ 64
  adapter_desc a = go (slice_get t.adapters a) refl
    where
      go : (o : Option AdapterRow) → slice_get t.adapters a ≡ o → length (unwrap_or (option_map (λ row. row.desc) o) []) ≤ 64
      go None at = omega arith
      go (Some row) at = (there (λ (r : AdapterRow). IsDescription r.desc) t.adapters a row fabric.types.adapter_descriptions at).within

  switch_lid : (s : ℕ) → lid_of_switch t s < 10 ^ 5
  switch_lid s = go (slice_get t.switches s) refl
    where
      go : (o : Option SwitchRow) → slice_get t.switches s ≡ o → unwrap_or (option_map (λ row. row.lid.0) o) 0 < 10 ^ 5
      go None at = omega arith
      go (Some row) at = omega (arith, (there (λ (r : SwitchRow). IsUnicast r.lid.0) t.switches s row fabric.rows.switch_lids at).1)

  few_ports : (s : ℕ) → ports_of t s ≤ 254
  few_ports s = go (slice_get t.switches s) refl
    where
      go : (o : Option SwitchRow) → slice_get t.switches s ≡ o → unwrap_or (option_map (λ row. row.ports) o) 0 ≤ 254
      go None at = omega arith
      go (Some row) at = there (λ (r : SwitchRow). r.ports ≤ 254) t.switches s row fabric.rows.switch_ports at

  few_adapter_ports : (a : ℕ) → adapter_ports_of t a ≤ 254
  few_adapter_ports a = go (slice_get t.adapters a) refl
    where
      go : (o : Option AdapterRow) → slice_get t.adapters a ≡ o → unwrap_or (option_map (λ row. row.ports) o) 0 ≤ 254
      go None at = omega arith
      go (Some row) at = there (λ (r : AdapterRow). r.ports ≤ 254) t.adapters a row fabric.rows.adapter_ports at

  channel_port : (row : ChannelRow) → Contains t.channels row → row.port ≤ 254
  channel_port row at =
      let port : IsPort (ports_of t row.tail.0) row.port = All-contains (λ (r : ChannelRow). IsPort (ports_of t r.tail.0) r.port) t.channels row fabric.rows.channel_ports at in
      omega (arith, port.1, few_ports row.tail.0)

  tip_port : (row : ChannelRow) → Contains t.channels row → row.tip_port ≤ 254
  tip_port row at = channel_port (reversed row) (All-contains (λ (r : ChannelRow). Contains t.channels (reversed r)) t.channels row fabric.rows.reverses at)

  terminal_port : (row : TerminalRow) → In row t.terminals → row.port ≤ 254
  terminal_port row at =
      let port : IsPort (ports_of t row.switch.0) row.port = in_all (λ (r : TerminalRow). IsPort (ports_of t r.switch.0) r.port) t.terminals fabric.rows.terminal_ports row at in
      omega (arith, port.1, few_ports row.switch.0)

  adapter_port : (row : TerminalRow) → In row t.terminals → row.adapter_port ≤ 254
  adapter_port row at =
      let port : IsPort (adapter_ports_of t row.adapter) row.adapter_port = in_all (λ (r : TerminalRow). IsPort (adapter_ports_of t r.adapter) r.adapter_port) t.terminals fabric.rows.terminal_adapter_ports row at in
      omega (arith, port.1, few_adapter_ports row.adapter)

  terminal_lid : (row : TerminalRow) → In row t.terminals → row.lid.0 < 10 ^ 5
  terminal_lid row at =
      let unicast : IsUnicast row.lid.0 = in_all (λ (r : TerminalRow). IsUnicast r.lid.0) t.terminals fabric.rows.terminal_lids row at in
      omega (arith, unicast.1)

  channel_length : (row : ChannelRow) → Contains t.channels row → length (channel_text t row) ≤ 200
  unfolding channel_text
  channel_length row at = omega (
    arith,
    concat_length (port_text row.port) (codes "\t" ∷ far_end Switch (guid_of t row.tip.0) row.tip_port ∷ codes "\t\t# " ∷ described (desc_of_switch t row.tip.0) (lid_of_switch t row.tip.0) ∷ []),
    concat_length (far_end Switch (guid_of t row.tip.0) row.tip_port) (codes "\t\t# " ∷ described (desc_of_switch t row.tip.0) (lid_of_switch t row.tip.0) ∷ []),
    concat_length (described (desc_of_switch t row.tip.0) (lid_of_switch t row.tip.0)) [],
    port_length row.port (channel_port row at),
    far_length Switch (guid_of t row.tip.0) row.tip_port (tip_port row at),
    described_length (desc_of_switch t row.tip.0) (lid_of_switch t row.tip.0) (switch_desc row.tip.0) (switch_lid row.tip.0),
  )

  terminal_length : (row : TerminalRow) → In row t.terminals → length (terminal_text t row) ≤ 200
  unfolding terminal_text
  terminal_length row at = omega (
    arith,
    concat_length (port_text row.port) (codes "\t" ∷ far_end Adapter (adapter_guid_of t row.adapter) row.adapter_port ∷ port_guid_text row.port_guid ∷ codes "\t\t# " ∷ described (desc_of_adapter t row.adapter) row.lid.0 ∷ []),
    concat_length (far_end Adapter (adapter_guid_of t row.adapter) row.adapter_port) (port_guid_text row.port_guid ∷ codes "\t\t# " ∷ described (desc_of_adapter t row.adapter) row.lid.0 ∷ []),
    concat_length (port_guid_text row.port_guid) (codes "\t\t# " ∷ described (desc_of_adapter t row.adapter) row.lid.0 ∷ []),
    concat_length (described (desc_of_adapter t row.adapter) row.lid.0) [],
    port_length row.port (terminal_port row at),
    far_length Adapter (adapter_guid_of t row.adapter) row.adapter_port (adapter_port row at),
    port_guid_length row.port_guid,
    described_length (desc_of_adapter t row.adapter) row.lid.0 (adapter_desc row.adapter) (terminal_lid row at),
  )

  adapter_line_length : (row : TerminalRow) → In row t.terminals → length (adapter_port_text t row) ≤ 200
  unfolding adapter_port_text
  adapter_line_length row at = omega (
    arith,
    concat_length (port_with_guid row.adapter_port row.port_guid)
        (codes "\t" ∷ far_end Switch (guid_of t row.switch.0) row.port ∷ codes "\t\t# " ∷ address_text row.lid.0 ∷ codes " " ∷ described (desc_of_switch t row.switch.0) (lid_of_switch t row.switch.0) ∷ []),
    concat_length (far_end Switch (guid_of t row.switch.0) row.port) (codes "\t\t# " ∷ address_text row.lid.0 ∷ codes " " ∷ described (desc_of_switch t row.switch.0) (lid_of_switch t row.switch.0) ∷ []),
    concat_length (address_text row.lid.0) (codes " " ∷ described (desc_of_switch t row.switch.0) (lid_of_switch t row.switch.0) ∷ []),
    concat_length (described (desc_of_switch t row.switch.0) (lid_of_switch t row.switch.0)) [],
    numbered_port_length row.adapter_port row.port_guid (adapter_port row at),
    far_length Switch (guid_of t row.switch.0) row.port (terminal_port row at),
    address_length row.lid.0 (terminal_lid row at),
    described_length (desc_of_switch t row.switch.0) (lid_of_switch t row.switch.0) (switch_desc row.switch.0) (switch_lid row.switch.0),
  )

  switch_port_length : (s port : ℕ) → length (switch_port_text t s port) ≤ 200
  switch_port_length s port = go (find (leaves_by s port) t.channels) refl (find (is_cabled_at s port) t.terminals) refl
    where
      go : (o : Option ChannelRow) → find (leaves_by s port) t.channels ≡ o → (p : Option TerminalRow) → find (is_cabled_at s port) t.terminals ≡ p →
          length (unwrap_or (option_or (option_map (channel_text t) o) (option_map (terminal_text t) p)) []) ≤ 200
      go (Some row) at p cabled = channel_length row (Contains_from_in t.channels row (from_find (leaves_by s port) t.channels row at).0)
      go None at (Some row) cabled = terminal_length row (from_find (is_cabled_at s port) t.terminals row cabled).0
      go None at None cabled = omega arith

  adapter_port_line_length : (a port : ℕ) → length (adapter_port_line t a port) ≤ 200
  adapter_port_line_length a port = go (find (is_on_adapter a port) t.terminals) refl
    where
      go : (o : Option TerminalRow) → find (is_on_adapter a port) t.terminals ≡ o → length (unwrap_or (option_map (adapter_port_text t) o) []) ≤ 200
      go (Some row) at = adapter_line_length row (from_find (is_on_adapter a port) t.terminals row at).0
      go None at = omega arith

  -- ---- nodes, and the whole

  switch_length : (q : ℕ × SwitchRow) → In q (enumerate_from 0 t.switches) → length (switch_text t q) ≤ 50961
  unfolding switch_text
  switch_length q at =
      let stands : (i : ℕ) × (q.0 ≡ 0 + i) × (slice_get t.switches i ≡ Some q.1) = from_enumerate 0 t.switches q at in
      let ports : q.1.ports ≤ 254 = there (λ (r : SwitchRow). r.ports ≤ 254) t.switches stands.0 q.1 fabric.rows.switch_ports stands.2 in
      omega (
        arith,
        concat_length (switch_head_text q.1) (flat_map (switch_port_text t q.0) (port_numbers q.1.ports) ∷ codes "\n" ∷ []),
        concat_length (flat_map (switch_port_text t q.0) (port_numbers q.1.ports)) (codes "\n" ∷ []),
        switch_head_length q.1 ports (there (λ (r : SwitchRow). IsDescription r.desc) t.switches stands.0 q.1 fabric.types.switch_descriptions stands.2).within
            (omega (arith, (there (λ (r : SwitchRow). IsUnicast r.lid.0) t.switches stands.0 q.1 fabric.rows.switch_lids stands.2).1)),
        texts_length (switch_port_text t q.0) 200 (port_numbers q.1.ports) (λ port _. switch_port_length q.0 port),
        length-range_with_len 1 q.1.ports,
        ports,
      )

  -- where an adapter has one port
  adapter_length : All (λ (row : AdapterRow). row.ports ≤ 1) t.adapters → (q : ℕ × AdapterRow) → In q (enumerate_from 0 t.adapters) → length (adapter_text t q) ≤ 361
  unfolding adapter_text
  adapter_length small q at =
      let stands : (i : ℕ) × (q.0 ≡ 0 + i) × (slice_get t.adapters i ≡ Some q.1) = from_enumerate 0 t.adapters q at in
      let ports : q.1.ports ≤ 1 = there (λ (r : AdapterRow). r.ports ≤ 1) t.adapters stands.0 q.1 small stands.2 in
      omega (
        arith,
        concat_length (adapter_head_text q.1) (flat_map (adapter_port_line t q.0) (port_numbers q.1.ports) ∷ codes "\n" ∷ []),
        concat_length (flat_map (adapter_port_line t q.0) (port_numbers q.1.ports)) (codes "\n" ∷ []),
        adapter_head_length q.1 (omega (arith, ports)) (there (λ (r : AdapterRow). IsDescription r.desc) t.adapters stands.0 q.1 fabric.types.adapter_descriptions stands.2).within,
        texts_length (adapter_port_line t q.0) 200 (port_numbers q.1.ports) (λ port _. adapter_port_line_length q.0 port),
        length-range_with_len 1 q.1.ports,
        ports,
      )

  text_length : All (λ (row : AdapterRow). row.ports ≤ 1) t.adapters → length (text_of t) ≤ length t.switches * 50961 + length t.adapters * 361
  unfolding text_of
  text_length small = omega (
    arith,
    length-append (flat_map (switch_text t) (enumerate_from 0 t.switches)) (flat_map (adapter_text t) (enumerate_from 0 t.adapters)),
    texts_length (switch_text t) 50961 (enumerate_from 0 t.switches) switch_length,
    texts_length (adapter_text t) 361 (enumerate_from 0 t.adapters) (adapter_length small),
    length-enumerate_from 0 t.switches,
    length-enumerate_from 0 t.adapters,
  )

-- ---- the fabric of a recipe that fits

pub generated_is_short : (r : Recipe) → IsTrue (fits r) → IsFabric (generated r) → length (text_of (generated r)) ≤ fabric_limit
generated_is_short r fit fabric =
    let t : Topology = generated r in
    let are : ArePlaces r.kind r.a r.b = are_places r.kind r.a r.b fit in
    let small : All (λ (row : AdapterRow). row.ports ≤ 1) t.adapters = All_from_in (λ (row : AdapterRow). row.ports ≤ 1) t.adapters (λ row at. one_port row at) in
    omega (arith, text_length (generated r) fabric small, switches, adapters, are.few_switches, are.lids)
  where
    one_port : (row : AdapterRow) → In row (map adapter_row (range_with_len 0 (length (terminal_places r)))) → row.ports ≤ 1
    one_port row at =
        let made : (j : ℕ) × In j (range_with_len 0 (length (terminal_places r))) × (adapter_row j ≡ row) = from_map adapter_row (range_with_len 0 (length (terminal_places r))) row at in
        omega (arith, ap (λ (x : AdapterRow). x.ports) made.2)

    adapters : length (generated r).adapters ≡ length (terminal_places r)
    adapters = length-map (range_with_len 0 (length (terminal_places r))) adapter_row ∙ length-range_with_len 0 (length (terminal_places r))

    switches : length (generated r).switches ≡ switch_count r.kind r.a r.b
    switches = length-map (all_switches r) (switch_row r) ∙ length-range_with_len 0 (switch_count r.kind r.a r.b)
