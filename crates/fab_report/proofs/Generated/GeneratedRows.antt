-- The fabric of a recipe that fits is well-formed.
use Rattle.std.proofs.Common.{◌≡◌, ◌≢◌, ℕ, ◌+◌, ◌^◌, ◌<◌, ◌≤◌, inl, inr, false, List, [], ◌∷◌, ◌++◌, length, map, refl, sym, ◌∙◌, ap, subst, arith, All, Some, option_map, unwrap_or, length-append, Contains}
use Rattle.std.specs.Prelude.{◌==◌, ◌%◌, IsTrue, slice_get, codes, decimal}
use Rattle.std.specs.List.{range_with_len, enumerate_from, list_any}
use Rattle.std.proofs.lemmas.Bool.{eq-eqb, both_ways}
use Rattle.std.proofs.lemmas.Fmt.{length-decimal-le, decimal_by_steps}
use Rattle.std.proofs.lemmas.List.{length-map}
use Rattle.std.proofs.lemmas.List.FromFn.{length-range_with_len, length-enumerate_from, get_or-range_with_len}
use Rattle.std.proofs.lemmas.Option.{slice_get-map, slice_get-get_or, slice_get_within}
use Rattle.fab_model.specs.declared.rows.SwitchRow.{SwitchRow}
use Rattle.fab_model.specs.declared.rows.AdapterRow.{AdapterRow}
use Rattle.fab_model.specs.declared.rows.TerminalRow.{TerminalRow}
use Rattle.fab_model.specs.declared.rows.ChannelRow.{ChannelRow}
use Rattle.fab_model.specs.Description.{IsDescription}
use Rattle.fab_model.specs.Topology.{ports_of, reversed}
use Rattle.fab_model.specs.WellFormed.{GoesBefore, IsPort, IsUnicast, adapter_ports_of, UseOtherPorts, AreOtherPorts, IsWellFormed, FitsTypes, IsFabric}
use Rattle.fab_model.proofs.Lists.Members.{In, Pairs, All_from_in, AllPairs_from_pairs, Contains_from_in, from_map, from_append, pairs_map, pairs_weaker, list_any_false}
use Rattle.fab_model.proofs.Faultless.Facts.{slice_get_in}
use Rattle.fab_model.proofs.Lists.Found.{from_enumerate, pairs_enumerate, from_range, range_rises}
use Rattle.fab_report.specs.declared.recipe.Recipe.{Recipe}
use Rattle.fab_report.specs.Recipes.{fits, switch_count, port_count, switch_row, all_switches, terminal_ports, terminal_places, terminal_row, adapter_row, cables, channels_of, generated}
use Rattle.fab_report.specs.Laws.{GeneratedIsFabric}
use Rattle.fab_report.proofs.Cabling.CableLists.{IsCable, AreCables, channel_is, channel_back, channels_rise, channels_few}
use Rattle.fab_report.proofs.Cabling.AllCables.{are_cables}
use Rattle.fab_report.proofs.Generated.Places.{ArePlaces, are_places, from_place, DifferPlaces, places_differ}

-- ---- numbered lists

-- the numbers rise
numbers_rise : {X : Type 0} (from : ℕ) (xs : List X) → Pairs (λ (p q : ℕ × X). p.0 < q.0) (enumerate_from from xs)
numbers_rise from [] = tt
numbers_rise {X} from (x ∷ xs) = (λ q within. let at : (i : ℕ) × (q.0 ≡ from + 1 + i) × (slice_get xs i ≡ Some q.1) = from_enumerate (from + 1) xs q within in omega (arith, at.1), numbers_rise (from + 1) xs)

-- the row of a number
range_get : {X : Type 0} (f : ℕ → X) (n k : ℕ) → k < n → slice_get (map f (range_with_len 0 n)) k ≡ Some (f k)
range_get f n k h =
    slice_get-map f (range_with_len 0 n) k
    ∙ ap (λ o. option_map f o) (slice_get-get_or (range_with_len 0 n) k 0 (omega (arith, h, length-range_with_len 0 n)))
    ∙ ap (λ i. Some (f i)) (get_or-range_with_len 0 n k 0 h ∙ nothing)
  where
    nothing : 0 + k ≡ k
    nothing = omega arith

-- ---- descriptions

no_feed_in : (bytes : List ℕ) → list_any (λ b. b == 10) bytes ≡ false → (b : ℕ) → In b bytes → b ≢ 10
no_feed_in bytes none b within same = both_ways (b == 10) (list_any_false (λ b. b == 10) bytes none b within) (eq-eqb b 10 same)

digits_no_feed : (n : ℕ) → n < 2 ^ 64 → (b : ℕ) → In b (decimal n) → b ≢ 10
digits_no_feed = decimal_by_steps (λ n bytes. (b : ℕ) → In b bytes → b ≢ 10) one more
  where
    one : (n : ℕ) → n < 10 → (b : ℕ) → In b ((48 + n) ∷ []) → b ≢ 10
    one n h b (inl e) same = omega (arith, e, same)
    one n h b (inr none) same = none

    more : (n : ℕ) (bytes : List ℕ) → 10 ≤ n → ((b : ℕ) → In b bytes → b ≢ 10) → (b : ℕ) → In b (bytes ++ (48 + n % 10) ∷ []) → b ≢ 10
    more n bytes h each b within same = elim (from_append bytes ((48 + n % 10) ∷ []) b within) [
      | inl old ↦ each b old same
      | inr (inl e) ↦ omega (arith, e, same)
      | inr (inr none) ↦ none
    ]

pub described : (word : List ℕ) (n : ℕ) → list_any (λ b. b == 10) word ≡ false → length word ≤ 10 → n < 10 ^ 5 → IsDescription (word ++ decimal n)
described word n none short h = record {
  within = omega (arith, length-append word (decimal n), short, length-decimal-le 5 n (omega arith) h (omega (arith, h)));
  one_line = All_from_in (λ byte. byte ≢ 10) (word ++ decimal n) (λ b within. elim (from_append word (decimal n) b within) [
    | inl first ↦ no_feed_in word none b first
    | inr digits ↦ digits_no_feed n (omega (arith, h)) b digits
  ]);
}

-- ---- the rows

module _ (r : Recipe) (fit : IsTrue (fits r)) where
  abbrev count : ℕ
  count = switch_count r.kind r.a r.b

  abbrev rows : List ChannelRow
  rows = cables r.kind r.a r.b r.seed

  are : AreCables r.kind r.a r.b rows
  are = are_cables r.kind r.a r.b r.seed fit

  places : ArePlaces r.kind r.a r.b
  places = are_places r.kind r.a r.b fit

  switches_length : length (map (switch_row r) (all_switches r)) ≡ count
  switches_length = length-map (all_switches r) (switch_row r) ∙ length-range_with_len 0 count

  adapters_length : length (map adapter_row (range_with_len 0 (length (terminal_places r)))) ≡ length (terminal_places r)
  adapters_length = length-map (range_with_len 0 (length (terminal_places r))) adapter_row ∙ length-range_with_len 0 (length (terminal_places r))

  terminals_length : length (map (terminal_row r) (enumerate_from 0 (terminal_places r))) ≡ length (terminal_places r)
  terminals_length = length-map (enumerate_from 0 (terminal_places r)) (terminal_row r) ∙ length-enumerate_from 0 (terminal_places r)

  ports_are : (s : ℕ) → s < count → ports_of (generated r) s ≡ port_count r.kind r.a r.b s
  ports_are s h = ap (λ o. unwrap_or (option_map (λ (row : SwitchRow). row.ports) o) 0) (range_get (switch_row r) count s h)

  adapter_ports_are : (j : ℕ) → j < length (terminal_places r) → adapter_ports_of (generated r) j ≡ 1
  adapter_ports_are j h = ap (λ o. unwrap_or (option_map (λ (row : AdapterRow). row.ports) o) 0) (range_get adapter_row (length (terminal_places r)) j h)

  -- each switch, adapter, terminal and channel
  of_switch : (P : SwitchRow → Type 0) → ((s : ℕ) → s < count → P (switch_row r s)) → All P (map (switch_row r) (all_switches r))
  of_switch P each = All_from_in P (map (switch_row r) (all_switches r)) (λ row within.
      let at : (s : ℕ) × In s (all_switches r) × (switch_row r s ≡ row) = from_map (switch_row r) (all_switches r) row within in
      subst P at.2 (each at.0 (omega (arith, (from_range 0 count at.0 at.1).1))))

  of_adapter : (P : AdapterRow → Type 0) → ((j : ℕ) → j < length (terminal_places r) → P (adapter_row j)) → All P (map adapter_row (range_with_len 0 (length (terminal_places r))))
  of_adapter P each = All_from_in P (map adapter_row (range_with_len 0 (length (terminal_places r)))) (λ row within.
      let at : (j : ℕ) × In j (range_with_len 0 (length (terminal_places r))) × (adapter_row j ≡ row) = from_map adapter_row (range_with_len 0 (length (terminal_places r))) row within in
      subst P at.2 (each at.0 (omega (arith, (from_range 0 (length (terminal_places r)) at.0 at.1).1))))

  of_terminal : (P : TerminalRow → Type 0) → ((n : ℕ) (place : ℕ × ℕ) → n < length (terminal_places r) → In place (terminal_places r) → P (terminal_row r (n, place))) → All P (map (terminal_row r) (enumerate_from 0 (terminal_places r)))
  of_terminal P each = All_from_in P (map (terminal_row r) (enumerate_from 0 (terminal_places r))) (λ row within.
      let at : (p : ℕ × (ℕ × ℕ)) × In p (enumerate_from 0 (terminal_places r)) × (terminal_row r p ≡ row) = from_map (terminal_row r) (enumerate_from 0 (terminal_places r)) row within in
      let there : (i : ℕ) × (at.0.0 ≡ 0 + i) × (slice_get (terminal_places r) i ≡ Some at.0.1) = from_enumerate 0 (terminal_places r) at.0 at.1 in
      subst P at.2 (each at.0.0 at.0.1 (omega (arith, there.1, slice_get_within (terminal_places r) there.0 at.0.1 there.2)) (slice_get_in (terminal_places r) there.0 at.0.1 there.2)))

  of_channel : (P : ChannelRow → Type 0) → ((row : ChannelRow) → In row (channels_of rows) → IsCable r.kind r.a r.b row → P row) → All P (channels_of rows)
  of_channel P each = All_from_in P (channels_of rows) (λ row within. each row within (channel_is r.kind r.a r.b rows are row within))

  two_switches : (R : SwitchRow → SwitchRow → Type 0) → ((s u : ℕ) → s < u → R (switch_row r s) (switch_row r u)) → Pairs R (map (switch_row r) (all_switches r))
  two_switches R each = pairs_map R (switch_row r) (all_switches r) (pairs_weaker (λ s u. s < u) (λ s u. R (switch_row r s) (switch_row r u)) (all_switches r) (λ s u in_s in_u less. each s u less) (range_rises 0 count))

  two_terminals : (R : TerminalRow → TerminalRow → Type 0) → ((p q : ℕ × (ℕ × ℕ)) → p.0 < q.0 → R (terminal_row r p) (terminal_row r q)) → Pairs R (map (terminal_row r) (enumerate_from 0 (terminal_places r)))
  two_terminals R each =
      pairs_map R (terminal_row r) (enumerate_from 0 (terminal_places r))
      (pairs_weaker (λ (p q : ℕ × (ℕ × ℕ)). p.0 < q.0) (λ p q. R (terminal_row r p) (terminal_row r q)) (enumerate_from 0 (terminal_places r)) (λ p q in_p in_q less. each p q less) (numbers_rise 0 (terminal_places r)))

  place_is : (place : ℕ × ℕ) → In place (terminal_places r) → (place.0 < count) × In place.1 (terminal_ports r.kind r.a r.b place.0)
  place_is place within = from_place r.kind r.a r.b place within

  well_formed : IsWellFormed (generated r)
  well_formed = record {
    some_switch = omega (arith, switches_length, places.some_switch);
    switch_count = omega (arith, switches_length, places.few_switches);
    lid_count = omega (arith, switches_length, terminals_length, places.lids);
    channel_count = omega (arith, channels_few r.kind r.a r.b rows are);
    switch_guids = AllPairs_from_pairs (λ first second. first.guid < second.guid) (map (switch_row r) (all_switches r)) (two_switches (λ first second. first.guid < second.guid) (λ s u less. omega (arith, less)));
    adapter_guids = AllPairs_from_pairs (λ first second. first.guid < second.guid) (map adapter_row (range_with_len 0 (length (terminal_places r))))
        (pairs_map (λ (first second : AdapterRow). first.guid < second.guid) adapter_row (range_with_len 0 (length (terminal_places r)))
        (pairs_weaker (λ i j. i < j) (λ i j. 0x20000 + i < 0x20000 + j) (range_with_len 0 (length (terminal_places r))) (λ i j in_i in_j less. omega (arith, less)) (range_rises 0 (length (terminal_places r)))));
    other_guids = of_switch (λ switch. All (λ (adapter : AdapterRow). switch.guid ≢ adapter.guid) (map adapter_row (range_with_len 0 (length (terminal_places r)))))
        (λ s h. of_adapter (λ adapter. (switch_row r s).guid ≢ adapter.guid) (λ j k same. omega (arith, h, places.few_switches, same)));
    switch_ports = of_switch (λ row. row.ports ≤ 254) (λ s h. places.ports s);
    adapter_ports = of_adapter (λ row. row.ports ≤ 254) (λ j h. omega arith);
    switch_lids = of_switch (λ row. IsUnicast row.lid.0) (λ s h. (omega arith, omega (arith, h, places.few_switches)));
    terminal_lids = of_terminal (λ row. IsUnicast row.lid.0) (λ n place h within. (omega arith, omega (arith, h, places.lids)));
    switch_lids_differ = AllPairs_from_pairs (λ first second. first.lid.0 ≢ second.lid.0) (map (switch_row r) (all_switches r)) (two_switches (λ first second. first.lid.0 ≢ second.lid.0) (λ s u less same. omega (arith, less, same)));
    terminal_lids_rise = AllPairs_from_pairs (λ first second. first.lid.0 < second.lid.0) (map (terminal_row r) (enumerate_from 0 (terminal_places r)))
        (two_terminals (λ first second. first.lid.0 < second.lid.0) (λ p q less. omega (arith, less)));
    other_lids = of_switch (λ switch. All (λ (terminal : TerminalRow). switch.lid.0 ≢ terminal.lid.0) (map (terminal_row r) (enumerate_from 0 (terminal_places r))))
        (λ s h. of_terminal (λ terminal. s + 1 ≢ terminal.lid.0) (λ n place k within same. omega (arith, h, same)));
    channels_rise = AllPairs_from_pairs GoesBefore (channels_of rows) (channels_rise r.kind r.a r.b rows are);
    channel_tails = of_channel (λ row. row.tail.0 < length (map (switch_row r) (all_switches r))) (λ row within is. omega (arith, is.tail, switches_length));
    channel_ports = of_channel (λ row. IsPort (ports_of (generated r) row.tail.0) row.port) (λ row within is. (is.tail_port.0, omega (arith, is.tail_port.1, ports_are row.tail.0 is.tail)));
    reverses = of_channel (λ row. Contains (channels_of rows) (reversed row)) (λ row within is. Contains_from_in (channels_of rows) (reversed row) (channel_back r.kind r.a r.b rows are row within));
    terminal_switches = of_terminal (λ row. row.switch.0 < length (map (switch_row r) (all_switches r))) (λ n place h within. omega (arith, switches_length, (place_is place within).0));
    terminal_ports = of_terminal (λ row. IsPort (ports_of (generated r) row.switch.0) row.port)
        (λ n place h within. let at = place_is place within in let port : IsPort (port_count r.kind r.a r.b place.0) place.1 = places.terminal_port place.0 place.1 at.0 at.1 in (port.0, omega (arith, port.1, ports_are place.0 at.0)));
    terminal_adapters = of_terminal (λ row. row.adapter < length (map adapter_row (range_with_len 0 (length (terminal_places r))))) (λ n place h within. omega (arith, h, adapters_length));
    terminal_adapter_ports = of_terminal (λ row. IsPort (adapter_ports_of (generated r) row.adapter) row.adapter_port) (λ n place h within. (omega arith, omega (arith, adapter_ports_are n h)));
    switch_ports_differ = AllPairs_from_pairs UseOtherPorts (map (terminal_row r) (enumerate_from 0 (terminal_places r)))
        (pairs_map UseOtherPorts (terminal_row r) (enumerate_from 0 (terminal_places r)) (pairs_enumerate DifferPlaces 0 (terminal_places r) (places_differ r.kind r.a r.b places)));
    adapter_ports_differ = AllPairs_from_pairs AreOtherPorts (map (terminal_row r) (enumerate_from 0 (terminal_places r))) (two_terminals AreOtherPorts (λ p q less same ports. omega (arith, less, same)));
    no_channel_there = of_terminal (λ terminal. All (λ (channel : ChannelRow). channel.tail.0 ≡ terminal.switch.0 → channel.port ≢ terminal.port) (channels_of rows))
        (λ n place h within. of_channel (λ channel. channel.tail.0 ≡ place.0 → channel.port ≢ place.1)
        (λ channel at is same ports. is.tail_free place.1 (subst (λ s. In place.1 (terminal_ports r.kind r.a r.b s)) (sym same) (place_is place within).1) (sym ports)));
  }

  fits_types : FitsTypes (generated r)
  fits_types = record {
    switch_guids = of_switch (λ row. row.guid < 2 ^ 64) (λ s h. omega (arith, h, places.few_switches));
    adapter_guids = of_adapter (λ row. row.guid < 2 ^ 64) (λ j h. omega (arith, h, places.lids));
    port_guids = of_terminal (λ row. row.port_guid < 2 ^ 64) (λ n place h within. omega (arith, h, places.lids));
    switch_descriptions = of_switch (λ row. IsDescription row.desc) (λ s h. described (codes "switch ") s refl (omega arith) (omega (arith, h, places.few_switches)));
    adapter_descriptions = of_adapter (λ row. IsDescription row.desc) (λ j h. described (codes "node ") j refl (omega arith) (omega (arith, h, places.lids)));
    adapter_count = omega (arith, adapters_length, places.lids);
  }

pub is_fabric : (r : Recipe) → IsTrue (fits r) → IsFabric (generated r)
is_fabric r fit = record { types = fits_types r fit; rows = well_formed r fit }

pub generated_is_fabric : GeneratedIsFabric
generated_is_fabric r fit seed = is_fabric r fit
