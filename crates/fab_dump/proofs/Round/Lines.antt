-- What the written lines are to a reader: the lines of the text, and what the first two say.
use Rattle.std.proofs.Common.{◌≡◌, ◌≢◌, ◌<◌, ◌≤◌, ◌+◌, ◌-◌, ◌^◌, ℕ, Bool, true, false, cond, List, [], ◌∷◌, ◌++◌, length, take, map, get_or, Some, None, Option, codes, nat_le, nat_lt, refl, sym, ◌∙◌, ap, arith, inl, inr}
use Rattle.std.specs.Prelude.{All, IfSome, option_map, slice_index, slice_index_or, if◌then◌else◌, ◌==◌, flat_map, filter, decimal}
use Rattle.std.specs.List.{slice_split, onto_first, concat, enumerate_from, range_with_len, join_with_byte, list_all}
use Rattle.std.specs.Str.Lines.{lines, lines_of_parts, strip_carriage_return}
use Rattle.std.specs.Int.{div_ceil}
use Rattle.std.proofs.lemmas.Bool.{ne_eqb, and_from, and_parts, le-leb, leb-true, cases_lt, cond_both}
use Rattle.std.proofs.lemmas.List.{append_assoc, length-append, get_or-append_right, get_or_past}
use Rattle.std.proofs.lemmas.List.Splits.{slice_split_at}
use Rattle.std.proofs.lemmas.List.Folds.{list_all-append}
use Rattle.std.proofs.lemmas.List.Elements.{All-nil, All-cons, All-head, All-tail, All-append, All-get_or, All-map, All-weaker}
use Rattle.fab_text.specs.Fields.{fields, dec_up_to, only_field, read_only}
use Rattle.fab_model.specs.declared.rows.SwitchRow.{SwitchRow}
use Rattle.fab_model.specs.declared.rows.ChannelRow.{ChannelRow}
use Rattle.fab_model.specs.Description.{HasNoLineFeed}
use Rattle.fab_model.specs.Topology.{Topology, lids_of, is_source, guid_of}
use Rattle.fab_model.specs.WellFormed.{IsFabric}
use Rattle.fab_tables.specs.declared.plan.Plan.{Plan}
use Rattle.fab_tables.specs.declared.lanes.PairRow.{PairRow}
use Rattle.fab_tables.specs.Entries.{Entries, entry, cell}
use Rattle.fab_tables.specs.LaneTables.{LaneTables, level, number}
use Rattle.fab_tables.specs.Fit.{PlanFits, LanesFit}
use Rattle.fab_dump.specs.declared.form.Version.{Version}
use Rattle.fab_dump.specs.declared.form.Version.TheVariants.{Two, Three}
use Rattle.fab_dump.specs.Lines.{begins, levels_head, map_head}
use Rattle.fab_dump.specs.Reading.{plan_mark, version_read, version_named, lane_count, count_field, some_count}
use Rattle.fab_dump.specs.Writing.{hex4, hex16, port3, two, level2, lines_text, plan_lines, version_text, version_of, lanes_line, count_text, row_text, row_of, numbered_row, block_rows, lids_text, switch_text, table_head_text, table_block, guid_head_text, levels_block, lanes_text, general_map, general_block, pair_text, pair_rows, is_of_switch, map_block, number_text, number_line, number_lines, lane_part}
use Rattle.fab_text.proofs.SpelledFields.{dec_up_to_spelled}
use Rattle.fab_text.proofs.Spelled.{Spells, IsHigh, decimal_spells, spelled_high}
use Rattle.fab_dump.proofs.Round.WrittenNumbers.{hex4_high, hex16_high, port_high, two_high}
use Rattle.fab_text.proofs.Words.{high_solid}
use Rattle.fab_dump.proofs.Round.WrittenFields.{fields_word}
use Rattle.fab_dump.proofs.Round.LinesPlaces.{IsLong}
use Rattle.fab_dump.proofs.Round.LinesWords.{digits_differ}

-- a line: no line feed stands in it, and no carriage return at its end
pub record IsLine (line : List ℕ) : Type 0 where
  pub one_line : HasNoLineFeed line
  pub end : slice_index line (length line - 1) ≢ 13

-- ---- lines that are written are read

abbrev is_feed : ℕ → Bool
is_feed byte = byte == 10

behind_onto : (x : List ℕ) (b : ℕ) (parts : List (List ℕ)) → lines_of_parts (x ∷ onto_first b parts) ≡ strip_carriage_return x ∷ lines_of_parts (onto_first b parts)
behind_onto x b [] = refl
behind_onto x b (part ∷ parts) = refl

behind : (x bs : List ℕ) → lines_of_parts (x ∷ slice_split is_feed bs) ≡ strip_carriage_return x ∷ lines_of_parts (slice_split is_feed bs)
behind x [] = refl
behind x (b ∷ bs) =
    elim (is_feed b) as (λ v. lines_of_parts (x ∷ cond v ([] ∷ slice_split is_feed bs) (onto_first b (slice_split is_feed bs))) ≡ strip_carriage_return x ∷ lines_of_parts (cond v ([] ∷ slice_split is_feed bs) (onto_first b (slice_split is_feed bs)))) [
      | true ↦ refl
      | false ↦ behind_onto x b (slice_split is_feed bs)
    ]

no_feed : (line : List ℕ) → HasNoLineFeed line → All (λ byte. is_feed byte ≡ false) line
no_feed line h = All-weaker (λ byte. byte ≢ 10) (λ byte. is_feed byte ≡ false) (λ byte apart. ne_eqb byte 10 apart) line h

kept : (line : List ℕ) → slice_index line (length line - 1) ≢ 13 → strip_carriage_return line ≡ line
kept line h = ap (λ v. if v then take (length line - 1) line else line) (ne_eqb (slice_index line (length line - 1)) 13 h)

line_back : (line rest : List ℕ) → IsLine line → lines (line ++ 10 ∷ rest) ≡ line ∷ lines rest
line_back line rest h =
    ap lines_of_parts (slice_split_at is_feed line 10 rest (no_feed line h.one_line) refl) ∙ behind line rest ∙ ap (λ l. l ∷ lines rest) (kept line h.end)

-- lines that are written are read
pub lines_back : (ls : List (List ℕ)) → All IsLine ls → lines (lines_text ls) ≡ ls
lines_back [] all = refl
lines_back (line ∷ ls) all =
    ap lines (append_assoc line (10 ∷ []) (lines_text ls)) ∙ line_back line (lines_text ls) (All-head IsLine line ls all) ∙ ap (λ rest. line ∷ rest) (lines_back ls (All-tail IsLine line ls all))

-- ---- plain lines: no byte below a space

abbrev is_plain : ℕ → Bool
is_plain byte = nat_le 32 byte

abbrev plain : List ℕ → Bool
plain bytes = list_all is_plain bytes

plain_all : (bytes : List ℕ) → plain bytes ≡ true → All (λ byte. 32 ≤ byte) bytes
plain_all [] h = All-nil (λ byte. 32 ≤ byte)
plain_all (byte ∷ bytes) h =
    let parts : (is_plain byte ≡ true) × (plain bytes ≡ true) = and_parts (is_plain byte) (plain bytes) h in
    All-cons (λ byte. 32 ≤ byte) byte bytes (leb-true 32 byte parts.0) (plain_all bytes parts.1)

feedless : (bytes : List ℕ) → plain bytes ≡ true → HasNoLineFeed bytes
feedless bytes h = All-weaker (λ byte. 32 ≤ byte) (λ byte. byte ≢ 10) (λ byte low e. omega (arith, low, e)) bytes (plain_all bytes h)

plain_end : (bytes : List ℕ) → All (λ byte. 32 ≤ byte) bytes → slice_index bytes (length bytes - 1) ≢ 13
plain_end [] h e = omega (arith, e)
plain_end (byte ∷ bytes) h e = omega (arith, e, All-get_or (λ byte. 32 ≤ byte) (byte ∷ bytes) (length (byte ∷ bytes) - 1) 0 (omega arith) h)

plain_line : (bytes : List ℕ) → plain bytes ≡ true → IsLine bytes
plain_line bytes h = record { one_line = feedless bytes h; end = plain_end bytes (plain_all bytes h) }

plain_both : (xs ys : List ℕ) → plain xs ≡ true → plain ys ≡ true → plain (xs ++ ys) ≡ true
plain_both xs ys a b = list_all-append is_plain xs ys ∙ and_from (plain xs) (plain ys) a b

high_plain : (bytes : List ℕ) → IsHigh bytes → plain bytes ≡ true
high_plain [] h = refl
high_plain (byte ∷ bytes) h =
    let low : 48 ≤ byte = All-head (λ byte. 48 ≤ byte) byte bytes h in
    and_from (is_plain byte) (plain bytes) (le-leb 32 byte (omega arith)) (high_plain bytes (All-tail (λ byte. 48 ≤ byte) byte bytes h))

decimal_plain : (n : ℕ) → n < 2 ^ 64 → plain (decimal n) ≡ true
decimal_plain n h = high_plain (decimal n) (spelled_high 10 n (decimal n) (omega arith) (decimal_spells n h))

-- parts that are plain
abbrev ArePlain : List (List ℕ) → Type 0
ArePlain [] = Unit {0}
ArePlain (part ∷ parts) = (plain part ≡ true) × ArePlain parts

plain_parts : (parts : List (List ℕ)) → ArePlain parts → plain (concat parts) ≡ true
plain_parts [] h = refl
plain_parts (part ∷ parts) h = plain_both part (concat parts) h.0 (plain_parts parts h.1)

-- a line that has bytes
record IsClosed (line : List ℕ) : Type 0 where
  is : IsLine line
  some : 0 < length line

closed_more : (xs ys : List ℕ) → HasNoLineFeed xs → IsClosed ys → IsClosed (xs ++ ys)
closed_more xs ys h c =
    let size : length (xs ++ ys) ≡ length xs + length ys = length-append xs ys in
    let place : length (xs ++ ys) - 1 - length xs ≡ length ys - 1 = omega (arith, size, c.some) in
    let last : slice_index (xs ++ ys) (length (xs ++ ys) - 1) ≡ slice_index ys (length ys - 1)
    = get_or-append_right xs ys (length xs) (length (xs ++ ys) - 1) 0 refl (omega (arith, size, c.some)) ∙ ap (λ i. get_or ys i 0) place in
    record {
      is = record { one_line = All-append (λ byte. byte ≢ 10) xs ys h c.is.one_line; end = λ e. c.is.end (sym last ∙ e) };
      some = omega (arith, size, c.some);
    }

-- ---- the lines of a plan

spaced_plain : {X : Type 0} (value : X → List ℕ) → ((x : X) → plain (value x) ≡ true) → (xs : List X) → plain (flat_map (λ x. 32 ∷ value x) xs) ≡ true
spaced_plain value one [] = refl
spaced_plain value one (x ∷ xs) = plain_both (value x) (flat_map (λ x. 32 ∷ value x) xs) (one x) (spaced_plain value one xs)

row_plain : (value : ℕ → List ℕ) → ((lid : ℕ) → plain (value lid) ≡ true) → (lids : List ℕ) → plain (row_text value lids) ≡ true
unfolding row_text
row_plain value one lids = plain_both (hex4 (slice_index lids 0)) (flat_map (λ lid. 32 ∷ value lid) lids) (high_plain (hex4 (slice_index lids 0)) (hex4_high (slice_index lids 0))) (spaced_plain value one lids)

rows_are : (t : Topology) (value : ℕ → List ℕ) → ((lid : ℕ) → plain (value lid) ≡ true) → All IsLine (block_rows t value)
rows_are t value one =
    All-map IsLine (numbered_row t value) (range_with_len 0 (div_ceil (length (lids_of t)) 64)) (λ k d h. plain_line (numbered_row t value (get_or (range_with_len 0 (div_ceil (length (lids_of t)) 64)) k d))
    (row_plain value one (row_of (lids_of t) (get_or (range_with_len 0 (div_ceil (length (lids_of t)) 64)) k d))))

joined_plain : (lanes : List ℕ) → plain (join_with_byte 32 (map two lanes)) ≡ true
joined_plain [] = refl
joined_plain (lane ∷ []) = high_plain (two lane) (two_high lane)
joined_plain (lane ∷ next ∷ lanes) = plain_both (two lane) (32 ∷ join_with_byte 32 (map two (next ∷ lanes))) (high_plain (two lane) (two_high lane)) (joined_plain (next ∷ lanes))

lanes_plain : (lanes : List ℕ) → plain (lanes_text lanes) ≡ true
unfolding lanes_text
lanes_plain lanes = joined_plain lanes

level_plain : (level : Option ℕ) → plain (level2 level) ≡ true
level_plain None = refl
level_plain (Some n) = high_plain (two n) (two_high n)

head_plain : (words : List ℕ) (guid : ℕ) → plain words ≡ true → plain (guid_head_text words guid) ≡ true
unfolding guid_head_text
head_plain words guid h = plain_parts (words ∷ hex16 guid ∷ codes ":" ∷ []) (h, (high_plain (hex16 guid) (hex16_high guid), (refl, tt)))

pair_plain : (p : PairRow) → plain (pair_text p) ≡ true
unfolding pair_text
pair_plain p =
    plain_parts (codes "[" ∷ port3 p.from_port ∷ codes " " ∷ port3 p.to_port ∷ codes "] " ∷ lanes_text p.map ∷ [])
    (refl, (high_plain (port3 p.from_port) (port_high p.from_port), (refl, (high_plain (port3 p.to_port) (port_high p.to_port), (refl, (lanes_plain p.map, tt))))))

number_plain : (guid port on_lane number : ℕ) → number < 2 ^ 64 → plain (number_text guid port on_lane number) ≡ true
unfolding number_text
number_plain guid port on_lane number h =
    plain_parts (hex16 guid ∷ codes " " ∷ port3 port ∷ codes " " ∷ two on_lane ∷ codes " " ∷ decimal number ∷ [])
    (high_plain (hex16 guid) (hex16_high guid), (refl, (high_plain (port3 port) (port_high port), (refl, (high_plain (two on_lane) (two_high on_lane), (refl, (decimal_plain number h, tt)))))))

lids_plain : (lids : List ℕ) → plain (lids_text lids) ≡ true
unfolding lids_text
lids_plain lids =
    plain_parts (codes "Unicast lids [" ∷ hex4 (slice_index lids 0) ∷ codes "-" ∷ hex4 (slice_index lids (length lids - 1)) ∷ codes "] of switch " ∷ []) (
      refl,
      (
        high_plain (hex4 (slice_index lids 0)) (hex4_high (slice_index lids 0)),
        (
          refl,
          (high_plain (hex4 (slice_index lids (length lids - 1))) (hex4_high (slice_index lids (length lids - 1))), (refl, tt)),
        ),
      ),
    )

switch_closed : (row : SwitchRow) → row.lid.0 < 2 ^ 64 → HasNoLineFeed row.desc → IsClosed (switch_text row)
unfolding switch_text
switch_closed row low h =
    closed_more (codes "Lid ") _ (feedless (codes "Lid ") refl)
    (closed_more (decimal row.lid.0) _ (feedless (decimal row.lid.0) (decimal_plain row.lid.0 low))
    (closed_more (codes " guid ") _ (feedless (codes " guid ") refl)
    (closed_more (hex16 row.guid) _ (feedless (hex16 row.guid) (high_plain (hex16 row.guid) (hex16_high row.guid)))
    (closed_more (codes " (") _ (feedless (codes " (") refl)
    (closed_more row.desc (codes "):") h (record { is = plain_line (codes "):") refl; some = omega arith }))))))

head_is : (lids : List ℕ) (row : SwitchRow) → row.lid.0 < 2 ^ 64 → HasNoLineFeed row.desc → IsLine (table_head_text lids row)
unfolding table_head_text
head_is lids row low h = (closed_more (lids_text lids) (switch_text row) (feedless (lids_text lids) (lids_plain lids)) (switch_closed row low h)).is

all_flat : {X Y : Type 0} (P : Y → Type 0) (Q : X → Type 0) (f : X → List Y) → ((x : X) → Q x → All P (f x)) → (xs : List X) → All Q xs → All P (flat_map f xs)
all_flat P Q f one [] all = All-nil P
all_flat P Q f one (x ∷ xs) all = All-append P (f x) (flat_map f xs) (one x (All-head Q x xs all)) (all_flat P Q f one xs (All-tail Q x xs all))

all_numbered : {X : Type 0} (Q : X → Type 0) (n : ℕ) (xs : List X) → All Q xs → All (λ (p : ℕ × X). Q p.1) (enumerate_from n xs)
all_numbered {X} Q n [] all = All-nil (λ (p : ℕ × X). Q p.1)
all_numbered {X} Q n (x ∷ xs) all = All-cons (λ (p : ℕ × X). Q p.1) (n, x) (enumerate_from (n + 1) xs) (All-head Q x xs all) (all_numbered Q (n + 1) xs (All-tail Q x xs all))

anything : {X : Type 0} (xs : List X) → All (λ (x : X). Unit {0}) xs
anything xs = λ k d h. tt

one_line_is : (line : List ℕ) → IsLine line → All IsLine (line ∷ [])
one_line_is line h = All-cons IsLine line [] h (All-nil IsLine)

all_or : (P : ℕ → Type 0) (xs : List ℕ) (i d : ℕ) → All P xs → P d → P (get_or xs i d)
all_or P xs i d all h = elim (cases_lt i (length xs)) [ inl low ↦ All-get_or P xs i d low all | inr past ↦ rw get_or_past h ]

module _ (t : Topology) (fabric : IsFabric t) where
  abbrev HasHead : SwitchRow → Type 0
  HasHead row = (row.lid.0 < 2 ^ 64) × HasNoLineFeed row.desc

  heads : All HasHead t.switches
  heads = λ k d h. (omega (arith, (fabric.rows.switch_lids k d h).1), (fabric.types.switch_descriptions k d h).one_line)

  tables_are : (e : Entries) → All IsLine (flat_map (table_block t e) (enumerate_from 0 t.switches))
  tables_are e = all_flat IsLine (λ (p : ℕ × SwitchRow). HasHead p.1) (table_block t e) (λ p h. All-cons IsLine (table_head_text (lids_of t) p.1) (block_rows t (λ lid. port3 (entry e p.0 lid))) (head_is (lids_of t) p.1 h.0 h.1)
      (rows_are t (λ lid. port3 (entry e p.0 lid)) (λ lid. high_plain (port3 (entry e p.0 lid)) (port_high (entry e p.0 lid)))))
      (enumerate_from 0 t.switches) (all_numbered HasHead 0 t.switches heads)

  levels_are : (l : LaneTables) (s : ℕ × SwitchRow) → All IsLine (levels_block t l s)
  levels_are l s =
      cond_both (is_source t s.0) (guid_head_text levels_head s.1.guid ∷ block_rows t (λ lid. level2 (level l s.0 lid))) [] (All IsLine)
      (λ e. All-cons IsLine (guid_head_text levels_head s.1.guid) (block_rows t (λ lid. level2 (level l s.0 lid))) (plain_line (guid_head_text levels_head s.1.guid) (head_plain levels_head s.1.guid refl))
      (rows_are t (λ lid. level2 (level l s.0 lid)) (λ lid. level_plain (level l s.0 lid))))
      (λ e. All-nil IsLine)

  maps_are : (l : LaneTables) (s : ℕ × SwitchRow) → All IsLine (map_block l s)
  maps_are l s =
      All-append IsLine (general_block l s.0 s.1.guid) (pair_rows l.pairs s.0)
      (All-cons IsLine (guid_head_text map_head s.1.guid) (lanes_text (general_map l s.0) ∷ []) (plain_line (guid_head_text map_head s.1.guid) (head_plain map_head s.1.guid refl))
      (one_line_is (lanes_text (general_map l s.0)) (plain_line (lanes_text (general_map l s.0)) (lanes_plain (general_map l s.0)))))
      (All-map IsLine pair_text (filter (is_of_switch s.0) l.pairs) (λ k d h. plain_line (pair_text (get_or (filter (is_of_switch s.0) l.pairs) k d)) (pair_plain (get_or (filter (is_of_switch s.0) l.pairs) k d))))

  pub number_fits : (l : LaneTables) → All (λ n. n < 2 ^ 32) l.numbers → (c on_lane : ℕ) → number l c on_lane < 2 ^ 32
  number_fits l few c on_lane = cond_both (nat_lt on_lane 15) (slice_index_or l.numbers (cell 15 c on_lane) 0) 0 (λ n. n < 2 ^ 32) (λ e. all_or (λ n. n < 2 ^ 32) l.numbers (cell 15 c on_lane) 0 few (omega arith)) (λ e. omega arith)

  numbers_are : (l : LaneTables) → All (λ n. n < 2 ^ 32) l.numbers → (c : ℕ × ChannelRow) → All IsLine (number_lines t l c)
  numbers_are l few c = all_flat IsLine (λ (on_lane : ℕ). Unit {0}) (number_line t l c) (λ on_lane u. row_is on_lane) (range_with_len 0 15) (anything (range_with_len 0 15))
    where
      row_is : (on_lane : ℕ) → All IsLine (number_line t l c on_lane)
      row_is on_lane =
          let fits : number l c.0 on_lane < 2 ^ 32 = number_fits l few c.0 on_lane in
          let line : List ℕ = number_text (guid_of t c.1.tail.0) c.1.port on_lane (number l c.0 on_lane) in
          cond_both (number l c.0 on_lane == 0) [] (line ∷ []) (All IsLine) (λ e. All-nil IsLine)
          (λ e. one_line_is line (plain_line line (number_plain (guid_of t c.1.tail.0) c.1.port on_lane (number l c.0 on_lane) (omega (arith, fits)))))

  lanes_are : (lanes : Option LaneTables) → IfSome lanes (LanesFit t) → All IsLine (lane_part t lanes)
  lanes_are None fits = All-nil IsLine
  lanes_are (Some l) fits =
      All-append IsLine (flat_map (levels_block t l) (enumerate_from 0 t.switches) ++ flat_map (map_block l) (enumerate_from 0 t.switches)) (codes "Certificate:" ∷ flat_map (number_lines t l) (enumerate_from 0 t.channels))
      (All-append IsLine (flat_map (levels_block t l) (enumerate_from 0 t.switches)) (flat_map (map_block l) (enumerate_from 0 t.switches))
      (all_flat IsLine (λ (s : ℕ × SwitchRow). Unit {0}) (levels_block t l) (λ s u. levels_are l s) (enumerate_from 0 t.switches) (anything (enumerate_from 0 t.switches)))
      (all_flat IsLine (λ (s : ℕ × SwitchRow). Unit {0}) (map_block l) (λ s u. maps_are l s) (enumerate_from 0 t.switches) (anything (enumerate_from 0 t.switches))))
      (All-cons IsLine (codes "Certificate:") (flat_map (number_lines t l) (enumerate_from 0 t.channels)) (plain_line (codes "Certificate:") refl)
      (all_flat IsLine (λ (c : ℕ × ChannelRow). Unit {0}) (number_lines t l) (λ c u. numbers_are l fits.whole.low_numbers c) (enumerate_from 0 t.channels) (anything (enumerate_from 0 t.channels))))

version_low : (l : Option LaneTables) → version_of l ≤ 3
version_low None = omega arith
version_low (Some l) = cond_both (length l.pairs == 0) 2 3 (λ n. n ≤ 3) (λ e. omega arith) (λ e. omega arith)

version_plain : (l : Option LaneTables) → plain (version_text l) ≡ true
unfolding version_text
version_plain l = plain_both (codes "fabroute plan ") (decimal (version_of l)) refl (decimal_plain (version_of l) (omega (arith, version_low l)))

count_plain : (t : Topology) (l : Option LaneTables) → IfSome l (LanesFit t) → plain (count_text l) ≡ true
count_plain t None fits = refl
count_plain t (Some l) fits = decimal_plain l.count (omega (arith, fits.whole.count.1))

lanes_line_plain : (t : Topology) (l : Option LaneTables) → IfSome l (LanesFit t) → plain (lanes_line l) ≡ true
unfolding lanes_line
lanes_line_plain t l fits = plain_both (codes "lanes ") (count_text l) refl (count_plain t l fits)

-- each line of a plan is one
pub plan_lines_are : (t : Topology) (p : Plan) → IsFabric t → PlanFits t p → All IsLine (plan_lines t p)
plan_lines_are t p fabric fits =
    let tables : List (List ℕ) = flat_map (table_block t p.tables) (enumerate_from 0 t.switches) in
    All-cons IsLine (version_text p.lanes) (lanes_line p.lanes ∷ ((tables ++ lane_part t p.lanes) ++ codes "end plan" ∷ [])) (plain_line (version_text p.lanes) (version_plain p.lanes))
    (All-cons IsLine (lanes_line p.lanes) ((tables ++ lane_part t p.lanes) ++ codes "end plan" ∷ []) (plain_line (lanes_line p.lanes) (lanes_line_plain t p.lanes fits.lanes))
    (All-append IsLine (tables ++ lane_part t p.lanes) (codes "end plan" ∷ [])
    (All-append IsLine tables (lane_part t p.lanes) (tables_are t fabric p.tables) (lanes_are t fabric p.lanes fits.lanes))
    (one_line_is (codes "end plan") (plain_line (codes "end plan") refl))))

-- ---- the first line

-- the version that is written
abbrev pub version_written : Option LaneTables → Version
version_written None = Two
version_written (Some l) = if length l.pairs == 0 then Two else Three

-- its rows say up to 64 LIDs, and it is 3 where a pair of ports has a map
pub written_long : (l : Option LaneTables) → IsLong (version_written l)
written_long None = tt
written_long (Some l) = cond_both (length l.pairs == 0) Two Three IsLong (λ e. tt) (λ e. tt)

pub written_pairs : (l : LaneTables) → 0 < length l.pairs → version_written (Some l) ≡ Three
written_pairs l some = ap (λ b. if b then Two else Three) (ne_eqb (length l.pairs) 0 (λ e. omega (arith, e, some)))

pub mark_stands : (l : Option LaneTables) → begins (version_text l) plan_mark ≡ true
unfolding version_text
mark_stands l = refl

-- a decimal number that stands alone
alone_read : (greatest n : ℕ) → n ≤ greatest → n < 2 ^ 64 → read_only (dec_up_to greatest) (only_field (fields (decimal n))) ≡ Some n
alone_read greatest n low fits =
    let s : Spells 10 n (decimal n) = decimal_spells n fits in
    ap (λ fs. read_only (dec_up_to greatest) (only_field fs)) (fields_word (decimal n) (high_solid (decimal n) (spelled_high 10 n (decimal n) (omega arith) s))) ∙ dec_up_to_spelled greatest n (decimal n) s low

named : (l : Option LaneTables) → version_named (version_text l) ≡ Some (version_of l)
unfolding version_text
named l = alone_read 3 (version_of l) (version_low l) (omega (arith, version_low l))

version_is : (t : Topology) (l : Option LaneTables) → version_read t (Some (version_of l)) ≡ Some (version_written l)
version_is t None = refl
version_is t (Some l) = elim (length l.pairs == 0) as (λ b. version_read t (Some (if b then 2 else 3)) ≡ Some (if b then Two else Three)) [ true ↦ refl | false ↦ refl ]

pub version_back : (t : Topology) (l : Option LaneTables) → version_read t (version_named (version_text l)) ≡ Some (version_written l)
version_back t l = ap (version_read t) (named l) ∙ version_is t l

-- ---- the second line

count_back : (n : ℕ) → 0 < n → n ≤ 15 → count_field true (only_field (fields (decimal n))) ≡ Some (Some n)
count_back n some low =
    let s : Spells 10 n (decimal n) = decimal_spells n (omega (arith, low)) in
    let high : IsHigh (decimal n) = spelled_high 10 n (decimal n) (omega arith) s in
    ap (λ fs. count_field true (only_field fs)) (fields_word (decimal n) (high_solid (decimal n) high))
    ∙ ap (λ b. if b then Some None else some_count (dec_up_to 15 (decimal n))) (digits_differ (decimal n) 110 (codes "one") s.all s.some refl)
    ∙ ap some_count (dec_up_to_spelled 15 n (decimal n) s low)
    ∙ ap (λ b. if b then None else Some (Some n)) (ne_eqb n 0 (λ e. omega (arith, e, some)))

pub lanes_back : (l : Option LaneTables) → IfSome l (λ ls. (0 < ls.count) × (ls.count ≤ 15)) → lane_count (lanes_line l) ≡ Some (option_map (λ (ls : LaneTables). ls.count) l)
unfolding lanes_line
lanes_back None few = refl
lanes_back (Some l) few = count_back l.count few.0 few.1
