-- What the lines of a plan's lanes say.
use Rattle.std.proofs.Common.{◌≡◌, ◌<◌, ◌≤◌, ◌*◌, ◌^◌, ℕ, true, false, List, [], ◌∷◌, ◌++◌, length, map, get_or, IfSome, Some, None, Option, codes, refl, sym, ◌∙◌, ap, subst, arith}
use Rattle.std.specs.Prelude.{MatchOption, slice_get, is_some, option_map, option_and_then, unwrap_or, decimal, if◌then◌else◌}
use Rattle.std.proofs.lemmas.Bool.{ne_eqb}
use Rattle.std.proofs.lemmas.List.{append_assoc, append-nil, length-append}
use Rattle.std.proofs.lemmas.List.Elements.{All-append, All-cons}
use Rattle.std.proofs.lemmas.Option.{slice_get_within, slice_get-get_or, get_or_from_slice_get}
use Rattle.fab_text.specs.Bytes.{is_blank}
use Rattle.fab_text.specs.Fields.{fields, dec_up_to, hex, without_last}
use Rattle.fab_model.specs.declared.rows.SwitchRow.{SwitchRow}
use Rattle.fab_model.specs.declared.rows.ChannelRow.{ChannelRow}
use Rattle.fab_model.specs.Topology.{Topology, lids_of, switch_id, is_source, guid_of, switch_of, channel_at, ports_of}
use Rattle.fab_model.specs.WellFormed.{IsFabric}
use Rattle.fab_model.proofs.Finds.{channels_are_found}
use Rattle.fab_tables.specs.declared.lanes.PairRow.{PairRow}
use Rattle.fab_tables.specs.Entries.{index_of}
use Rattle.fab_tables.specs.LaneTables.{LaneTables, IsPairRow, level}
use Rattle.fab_tables.specs.Fit.{LanesFit, PairFits}
use Rattle.fab_tables.proofs.Joined.Ascending.{lids_are}
use Rattle.fab_dump.specs.declared.fault.PlanFault.TheVariants.{BadRow, TwiceBlock, TwiceRow, BadLevelRow, BadLaneRow}
use Rattle.fab_dump.specs.declared.form.Block.TheVariants.{Levels, MapRow, Pairs, Numbers}
use Rattle.fab_dump.specs.declared.line_kind.LineKind.TheVariants.{Row, LevelsHead, MapHead, CertificateHead, PairLine, EndPlan, Other}
use Rattle.fab_dump.specs.Given.{said_of}
use Rattle.fab_dump.specs.Given.Given.{LevelBlock, Level, MapBlock, Map, Certificate, Number}
use Rattle.fab_dump.specs.Lines.{Form, State, Next, adds, goes, opens, a_source, head_guid, adds_pair, adds_number, after_map_row, line_says, kind_of, levels_head, map_head, level_field, level_or_none, long_level_row, lanes_read, map_row, pair_of, pair_row, pair_in, channel_named, positive, numbered, number_row}
use Rattle.fab_dump.specs.Lines.Next.{Ends, Fails}
use Rattle.fab_dump.specs.Writing.{hex16, port3, two, guid_head_text, numbered_row, level2, row_of, general_map, lanes_text, pair_text, number_text}
use Rattle.fab_dump.proofs.Round.LinesPlaces.{IsLong, WaitsForNone, kind_says, row_says, levels_says, waited_says}
use Rattle.fab_dump.proofs.Round.LinesWords.{text_word, hex16_word, port_word, two_word, digits_differ, solid_bytes, last_off, row_is_row, row_back, lanes_words, lanes_fields, map_read_back, lanes_other, levels_guid, map_guid, levels_is_head, map_is_head}
use Rattle.fab_dump.proofs.Round.LinesTables.{switch_found, guid_low}
use Rattle.fab_dump.proofs.Writing.Lanes.{general_long, general_lanes, in_column}
use Rattle.fab_text.proofs.Words.{IsWord, high_word, words_more}
use Rattle.fab_dump.proofs.Round.WrittenFields.{fields_more, words_last}
use Rattle.fab_text.proofs.SpelledFields.{dec_up_to_spelled}
use Rattle.fab_text.proofs.Spelled.{Spells, decimal_spells, spelled_high}
use Rattle.fab_dump.proofs.Round.WrittenNumbers.{guid_read, port_spelled, two_spelled}

-- ---- levels

pub levels_head_said : (t : Topology) (f : Form) (n : ℕ) (s : State) (k : ℕ) (row : SwitchRow) → IsFabric t → IsLong f.version → WaitsForNone s.open_block → is_some f.count ≡ true →
    slice_get t.switches k ≡ Some row → is_source t k ≡ true →
    line_says t f n s (guid_head_text levels_head row.guid) ≡ adds (TwiceBlock n) s (Levels (switch_id k)) (LevelBlock k ∷ [])
levels_head_said t f n s k row fabric long none lanes at source =
    kind_says t f n s (guid_head_text levels_head row.guid) long LevelsHead none (levels_is_head row.guid)
    ∙ ap (λ b. if b then opened (head_guid levels_head (guid_head_text levels_head row.guid)) else Fails (BadRow n)) lanes
    ∙ ap opened (levels_guid row.guid (guid_low t k row fabric at))
    ∙ ap (λ o. opens (BadLevelRow n) (TwiceBlock n) s Levels LevelBlock (a_source t o)) (switch_found t k row fabric at)
    ∙ ap (λ b. opens (BadLevelRow n) (TwiceBlock n) s Levels LevelBlock (if b then Some k else None)) source
  where
    opened : Option ℕ → Next
    opened guid = opens (BadLevelRow n) (TwiceBlock n) s Levels LevelBlock (a_source t (option_and_then (switch_of t) guid))

level_back : (o : Option ℕ) → IfSome o (λ n. n < 16) → level_field (level2 o) ≡ Some o
level_back None h = refl
level_back (Some n) h =
    let s : Spells 10 n (two n) = two_spelled n h in
    ap (λ b. level_or_none b (dec_up_to 15 (two n))) (digits_differ (two n) 45 (45 ∷ []) s.all s.some refl) ∙ ap (level_or_none false) (dec_up_to_spelled 15 n (two n) s (omega (arith, h)))

level_word : (o : Option ℕ) → IsWord (level2 o)
level_word None = text_word (codes "--") refl (omega arith)
level_word (Some n) = two_word n

pub level_row_said : (t : Topology) (f : Form) (n : ℕ) (s : State) (l : LaneTables) (k i : ℕ) → IsFabric t → IsLong f.version → s.open_block ≡ Levels (switch_id k) →
    LanesFit t l → i * 64 < length (lids_of t) →
    line_says t f n s (numbered_row t (λ lid. level2 (level l k lid)) i)
    ≡ adds (TwiceRow n) s (Levels (switch_id k)) (said_of (Level k) (map (λ (lid : ℕ). (lid, level l k lid)) (row_of (lids_of t) i)))
level_row_said t f n s l k i fabric long block fits within =
    levels_says t f n s (numbered_row t (λ lid. level2 (level l k lid)) i) long k block (row_is_row (λ lid. level2 (level l k lid)) (row_of (lids_of t) i))
    ∙ ap (long_level_row n s k) (row_back (lids_of t) i (lids_are t fabric).ascending (lids_are t fabric).fit within level_field (λ lid. level2 (level l k lid)) (λ lid. level l k lid)
    (λ lid. level_word (level l k lid)) (λ lid. level_back (level l k lid) (in_column l k (index_of lid l.in_use) fits.whole)))

-- ---- lane maps

pub map_head_said : (t : Topology) (f : Form) (n : ℕ) (s : State) (k : ℕ) (row : SwitchRow) → IsFabric t → IsLong f.version → WaitsForNone s.open_block → is_some f.count ≡ true →
    slice_get t.switches k ≡ Some row →
    line_says t f n s (guid_head_text map_head row.guid) ≡ adds (TwiceBlock n) s (MapRow (switch_id k)) (MapBlock k ∷ [])
map_head_said t f n s k row fabric long none lanes at =
    kind_says t f n s (guid_head_text map_head row.guid) long MapHead none (map_is_head row.guid)
    ∙ ap (λ b. if b then opened (head_guid map_head (guid_head_text map_head row.guid)) else Fails (BadRow n)) lanes
    ∙ ap opened (map_guid row.guid (guid_low t k row fabric at))
    ∙ ap (opens (BadLaneRow n) (TwiceBlock n) s MapRow MapBlock) (switch_found t k row fabric at)
  where
    opened : Option ℕ → Next
    opened guid = opens (BadLaneRow n) (TwiceBlock n) s MapRow MapBlock (option_and_then (switch_of t) guid)

pub map_row_said : (t : Topology) (f : Form) (n : ℕ) (s : State) (l : LaneTables) (k : ℕ) → IsLong f.version → s.open_block ≡ MapRow (switch_id k) → LanesFit t l →
    line_says t f n s (lanes_text (general_map l k)) ≡ goes s (after_map_row f k) (Map k (general_map l k) ∷ [])
map_row_said t f n s l k long block fits =
    let lanes : List ℕ = general_map l k in
    let some : 0 < length lanes = omega (arith, general_long l k) in
    waited_says t f n s (lanes_text lanes) long k Other block (lanes_other lanes some)
    ∙ ap (λ fs. map_row f n s k (lanes_read fs)) (lanes_fields lanes some) ∙ ap (map_row f n s k) (map_read_back lanes (general_long l k) (general_lanes l k (general_map l k) fits.whole refl))

-- ---- pairs of ports

pair_is_pair : (p : PairRow) → kind_of (pair_text p) ≡ PairLine
unfolding pair_text
pair_is_pair p = refl

pair_fields : (p : PairRow) → 0 < length p.map → fields (pair_text p) ≡ (91 ∷ port3 p.from_port) ∷ (port3 p.to_port ++ 93 ∷ []) ∷ map two p.map
unfolding pair_text
pair_fields p some =
    ap (λ bytes. fields (91 ∷ (port3 p.from_port ++ 32 ∷ bytes))) (ap (λ bytes. port3 p.to_port ++ 93 ∷ 32 ∷ bytes) (append-nil (lanes_text p.map)) ∙ sym (append_assoc (port3 p.to_port) (93 ∷ []) (32 ∷ lanes_text p.map)))
    ∙ fields_more (91 ∷ port3 p.from_port) ((port3 p.to_port ++ 93 ∷ []) ++ 32 ∷ lanes_text p.map) (All-cons (λ byte. is_blank byte ≡ false) 91 (port3 p.from_port) refl (port_word p.from_port).solid)
    ∙ ap (λ ws. (91 ∷ port3 p.from_port) ∷ ws) (words_more (port3 p.to_port ++ 93 ∷ []) (lanes_text p.map) to_word ∙ ap (λ ws. (port3 p.to_port ++ 93 ∷ []) ∷ ws) (lanes_words p.map some))
  where
    to_word : IsWord (port3 p.to_port ++ 93 ∷ [])
    to_word = record {
      solid = All-append (λ byte. is_blank byte ≡ false) (port3 p.to_port) (93 ∷ []) (port_word p.to_port).solid (solid_bytes (93 ∷ []) refl);
      some = omega (arith, length-append (port3 p.to_port) (93 ∷ []));
    }

ports_within : (from to : ℕ) (o : Option SwitchRow) → MatchOption o ⊥ (λ (s : SwitchRow). (from ≤ s.ports) × (to ≤ s.ports)) →
    (from ≤ unwrap_or (option_map (λ (s : SwitchRow). s.ports) o) 0) × (to ≤ unwrap_or (option_map (λ (s : SwitchRow). s.ports) o) 0)
ports_within from to None h = absurd h
ports_within from to (Some s) h = h

pair_read : (t : Topology) (p : PairRow) → PairFits t p → IsPairRow (length t.switches) p → pair_row t p.switch.0 (fields (pair_text p)) ≡ Some p
pair_read t p fits are =
    let most : ℕ = ports_of t p.switch.0 in
    let within : (p.from_port ≤ ports_of t p.switch.0) × (p.to_port ≤ ports_of t p.switch.0) = ports_within p.from_port p.to_port (slice_get t.switches p.switch.0) fits in
    ap (pair_row t p.switch.0) (pair_fields p (omega (arith, are.levels)))
    ∙ ap (λ o. pair_of p.switch.0 o (dec_up_to most (without_last 93 (port3 p.to_port ++ 93 ∷ []))) (lanes_read (map two p.map))) (dec_up_to_spelled most p.from_port (port3 p.from_port) (port_spelled p.from_port are.from_port) within.0)
    ∙ ap (λ field. pair_of p.switch.0 (Some p.from_port) (dec_up_to most field) (lanes_read (map two p.map))) (last_off 93 (port3 p.to_port))
    ∙ ap (λ o. pair_of p.switch.0 (Some p.from_port) o (lanes_read (map two p.map))) (dec_up_to_spelled most p.to_port (port3 p.to_port) (port_spelled p.to_port are.to_port) within.1)
    ∙ ap (pair_of p.switch.0 (Some p.from_port) (Some p.to_port)) (map_read_back p.map are.levels are.lanes)

pub pair_said : (t : Topology) (f : Form) (n : ℕ) (s : State) (k : ℕ) (p : PairRow) → IsLong f.version → s.open_block ≡ Pairs (switch_id k) → p.switch.0 ≡ k →
    PairFits t p → IsPairRow (length t.switches) p →
    line_says t f n s (pair_text p) ≡ adds_pair n s k (Some p)
pair_said t f n s k p long block of_switch fits are =
    kind_says t f n s (pair_text p) long PairLine (subst WaitsForNone (sym block) tt) (pair_is_pair p)
    ∙ ap (λ b. pair_in t n s b (pair_text p)) block
    ∙ ap (adds_pair n s k) (subst (λ (j : ℕ). pair_row t j (fields (pair_text p)) ≡ Some p) of_switch (pair_read t p fits are))

-- ---- the certificate

pub certificate_said : (t : Topology) (f : Form) (n : ℕ) (s : State) → IsLong f.version → WaitsForNone s.open_block → is_some f.count ≡ true →
    line_says t f n s (codes "Certificate:") ≡ adds (TwiceBlock n) s Numbers (Certificate ∷ [])
certificate_said t f n s long none lanes =
    kind_says t f n s (codes "Certificate:") long CertificateHead none refl ∙ ap (λ b. if b then adds (TwiceBlock n) s Numbers (Certificate ∷ []) else Fails (BadRow n)) lanes

number_is_row : (guid port on_lane number : ℕ) → kind_of (number_text guid port on_lane number) ≡ Row
unfolding number_text hex16
number_is_row guid port on_lane number = refl

number_fields : (guid port on_lane number : ℕ) → IsWord (decimal number) →
    fields (number_text guid port on_lane number) ≡ hex16 guid ∷ port3 port ∷ two on_lane ∷ decimal number ∷ []
unfolding number_text
number_fields guid port on_lane number word =
    ap (λ bytes. fields (hex16 guid ++ 32 ∷ (port3 port ++ 32 ∷ (two on_lane ++ 32 ∷ bytes)))) (append-nil (decimal number))
    ∙ fields_more (hex16 guid) (port3 port ++ 32 ∷ (two on_lane ++ 32 ∷ decimal number)) (hex16_word guid).solid
    ∙ ap (λ ws. hex16 guid ∷ ws) (words_more (port3 port) (two on_lane ++ 32 ∷ decimal number) (port_word port)
    ∙ ap (λ ws. port3 port ∷ ws) (words_more (two on_lane) (decimal number) (two_word on_lane)
    ∙ ap (λ ws. two on_lane ∷ ws) (words_last (decimal number) word)))

some_switch : SwitchRow
some_switch = record { guid = 0; lid = record { 0 = 0 }; ports = 0; desc = [] }

ports_few : (t : Topology) (k : ℕ) → IsFabric t → k < length t.switches → ports_of t k ≤ 254
ports_few t k fabric low =
    let same : ports_of t k ≡ (get_or t.switches k some_switch).ports
    = ap (λ o. unwrap_or (option_map (λ (r : SwitchRow). r.ports) o) 0) (slice_get-get_or t.switches k some_switch low) in
    omega (arith, same, fabric.rows.switch_ports k some_switch low)

guid_there : (t : Topology) (k : ℕ) → IsFabric t → k < length t.switches → (switch_of t (guid_of t k) ≡ Some k) × (guid_of t k < 2 ^ 64)
guid_there t k fabric low =
    let row : SwitchRow = get_or t.switches k some_switch in
    let at : slice_get t.switches k ≡ Some row = slice_get-get_or t.switches k some_switch low in
    let same : guid_of t k ≡ row.guid = ap (λ o. unwrap_or (option_map (λ (r : SwitchRow). r.guid) o) 0) at in
    (ap (switch_of t) same ∙ switch_found t k row fabric at, omega (arith, same, guid_low t k row fabric at))

channel_back : (t : Topology) (c : ℕ) (row : ChannelRow) → IsFabric t → slice_get t.channels c ≡ Some row → (guid port : Option ℕ) → guid ≡ Some (guid_of t row.tail.0) → port ≡ Some row.port →
    row.tail.0 < length t.switches → channel_named t guid port ≡ Some c
channel_back t c row fabric at guid port a b low =
    ap (λ g. channel_named t g port) a ∙ ap (λ p. channel_named t (Some (guid_of t row.tail.0)) p) b
    ∙ ap (λ o. option_and_then (λ s. channel_at t s row.port) o) (guid_there t row.tail.0 fabric low).0 ∙ channels_are_found t c row fabric.rows at

number_back : (t : Topology) (c : ℕ) (row : ChannelRow) (on_lane number : ℕ) → IsFabric t → slice_get t.channels c ≡ Some row → on_lane < 15 → 0 < number → number < 2 ^ 32 →
    number_row t (fields (number_text (guid_of t row.tail.0) row.port on_lane number)) ≡ Some (Number c on_lane number)
number_back t c row on_lane number fabric at low some few =
    let within : c < length t.channels = slice_get_within t.channels c row at in
    let here : get_or t.channels c row ≡ row = get_or_from_slice_get t.channels c row row at in
    let tail : row.tail.0 < length t.switches = omega (arith, fabric.rows.channel_tails c row within, ap (λ (r : ChannelRow). r.tail.0) here) in
    let port : row.port ≤ 254 = omega (arith, ports_few t row.tail.0 fabric tail, (fabric.rows.channel_ports c row within).1, ap (λ (r : ChannelRow). ports_of t r.tail.0) here, ap (λ (r : ChannelRow). r.port) here) in
    let s : Spells 10 number (decimal number) = decimal_spells number (omega (arith, few)) in
    let guid : ℕ = guid_of t row.tail.0 in
    ap (number_row t) (number_fields guid row.port on_lane number (high_word (decimal number) (spelled_high 10 number (decimal number) (omega arith) s) s.some))
    ∙ ap (λ o. numbered o (dec_up_to 14 (two on_lane)) (positive (dec_up_to 4294967295 (decimal number))))
    (channel_back t c row fabric at (hex 16 (hex16 guid)) (dec_up_to 254 (port3 row.port)) (guid_read guid (guid_there t row.tail.0 fabric tail).1)
    (dec_up_to_spelled 254 row.port (port3 row.port) (port_spelled row.port (omega (arith, port))) port) tail)
    ∙ ap (λ o. numbered (Some c) o (positive (dec_up_to 4294967295 (decimal number)))) (dec_up_to_spelled 14 on_lane (two on_lane) (two_spelled on_lane (omega (arith, low))) (omega (arith, low)))
    ∙ ap (λ o. numbered (Some c) (Some on_lane) (positive o)) (dec_up_to_spelled 4294967295 number (decimal number) s (omega (arith, few)))
    ∙ ap (λ b. numbered (Some c) (Some on_lane) (if b then None else Some number)) (ne_eqb number 0 (λ e. omega (arith, e, some)))

pub number_said : (t : Topology) (f : Form) (n : ℕ) (s : State) (c : ℕ) (row : ChannelRow) (on_lane number : ℕ) → IsFabric t → IsLong f.version → s.open_block ≡ Numbers →
    slice_get t.channels c ≡ Some row → on_lane < 15 → 0 < number → number < 2 ^ 32 →
    line_says t f n s (number_text (guid_of t row.tail.0) row.port on_lane number) ≡ adds (TwiceRow n) s Numbers (Number c on_lane number ∷ [])
number_said t f n s c row on_lane number fabric long block at low some few =
    row_says t f n s (number_text (guid_of t row.tail.0) row.port on_lane number) long Numbers block tt (number_is_row (guid_of t row.tail.0) row.port on_lane number)
    ∙ ap (adds_number n s) (number_back t c row on_lane number fabric at low some few)

pub end_said : (t : Topology) (f : Form) (n : ℕ) (s : State) → IsLong f.version → WaitsForNone s.open_block → line_says t f n s (codes "end plan") ≡ Ends
end_said t f n s long none = kind_says t f n s (codes "end plan") long EndPlan none refl
