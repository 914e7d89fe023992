-- Words of written lines, as a reader finds them.
use Rattle.std.proofs.Common.{◌≡◌, ◌≢◌, ◌<◌, ◌≤◌, ◌+◌, ◌-◌, ◌*◌, ◌/◌, ◌%◌, ◌^◌, ℕ, suc, Bool, true, false, cond, not, ◌&&◌, List, [], ◌∷◌, ◌++◌, length, take, drop, map, get_or, Some, None, Option, codes, nat_lt, refl, sym, ◌∙◌, ap, subst, arith}
use Rattle.std.specs.Prelude.{All, slice_index, if◌then◌else◌, ◌==◌}
use Rattle.std.specs.List.{list_all, zip}
use Rattle.std.specs.List.Sorted.{IsStrictlyIncreasing}
use Rattle.std.specs.Str.{bytes_eq}
use Rattle.std.specs.Char.{is_digit}
use Rattle.std.specs.Fmt.{digit_glyph}
use Rattle.std.proofs.lemmas.Bool.{ne_eqb, eq-eqb, and_parts, and_left, and_right, cond_both, ltb-false}
use Rattle.std.proofs.lemmas.List.{length-append, length-take, length-drop, length-map, get_or-take, get_or-drop, get_or_at, take_at, map-id}
use Rattle.std.proofs.lemmas.List.Elements.{All-nil, All-cons, All-get_or, All-append}
use Rattle.std.proofs.lemmas.Option.{slice_get-get_or}
use Rattle.fab_text.specs.Bytes.{is_blank}
use Rattle.fab_text.specs.Fields.{fields, parts, without_empty, dec_up_to, hex, without_last, only_field, read_only, all_read}
use Rattle.fab_dump.specs.declared.line_kind.LineKind.{LineKind}
use Rattle.fab_dump.specs.declared.line_kind.LineKind.TheVariants.{Comment, TableHead, Row, LevelsHead, MapHead, CertificateHead, PairLine, EndPlan, Other}
use Rattle.fab_tables.specs.Entries.{index_of}
use Rattle.fab_dump.specs.Lines.{begins, kind_of, kind_found, levels_head, map_head, head_guid, lids_at, lids_from, row_lids, paired, long_row, lanes_read, sixteen}
use Rattle.fab_dump.specs.Writing.{hex4, hex16, port3, two, row_text, row_of, lanes_text, guid_head_text}
use Rattle.fab_text.proofs.Words.{IsWord, high_word}
use Rattle.fab_dump.proofs.Round.WrittenFields.{spaced, fields_spaced, fields_word, joined_spaced, read_back, all_words, spaced_map, parts_spaced, all_kept}
use Rattle.fab_text.proofs.SpelledFields.{dec_up_to_spelled}
use Rattle.fab_text.proofs.Spelled.{length-last}
use Rattle.fab_dump.proofs.Round.WrittenNumbers.{lid_read, guid_read, length-port, two_spelled, hex4_high, hex16_high, port_high, two_high}
use Rattle.fab_dump.proofs.Reading.LongRows.{index_at}

-- ---- words

abbrev solid : List ℕ → Bool
solid bytes = list_all (λ byte. not (is_blank byte)) bytes

no_blank : (b : Bool) → not b ≡ true → b ≡ false
no_blank true e = cc
no_blank false e = refl

pub solid_bytes : (bytes : List ℕ) → solid bytes ≡ true → All (λ byte. is_blank byte ≡ false) bytes
solid_bytes [] h = All-nil (λ byte. is_blank byte ≡ false)
solid_bytes (byte ∷ bytes) h =
    let parts : (not (is_blank byte) ≡ true) × (solid bytes ≡ true) = and_parts (not (is_blank byte)) (solid bytes) h in
    All-cons (λ byte. is_blank byte ≡ false) byte bytes (no_blank (is_blank byte) parts.0) (solid_bytes bytes parts.1)

pub text_word : (bytes : List ℕ) → solid bytes ≡ true → 0 < length bytes → IsWord bytes
text_word bytes h some = record { solid = solid_bytes bytes h; some = some }

pub hex16_word : (guid : ℕ) → IsWord (hex16 guid)
unfolding hex16
hex16_word guid = high_word (hex16 guid) (hex16_high guid) (omega arith)

pub hex4_word : (lid : ℕ) → IsWord (hex4 lid)
unfolding hex4
hex4_word lid = high_word (hex4 lid) (hex4_high lid) (omega arith)

pub port_word : (port : ℕ) → IsWord (port3 port)
port_word port = high_word (port3 port) (port_high port) (omega (arith, length-port port))

pub two_word : (n : ℕ) → IsWord (two n)
unfolding two
two_word n = high_word (two n) (two_high n) (omega (arith, length-last 10 2 n))

-- words behind one another
pub words_spaced : (word : List ℕ) (words : List (List ℕ)) → IsWord word → All IsWord words → without_empty (parts (word ++ spaced words)) ≡ word ∷ words
words_spaced word words h all = ap without_empty (parts_spaced word words h.solid all) ∙ all_kept (word ∷ words) (All-cons IsWord word words h all)

-- digits differ from a text that begins with no digit
pub digits_differ : (bytes : List ℕ) (first : ℕ) (others : List ℕ) → list_all (λ byte. is_digit byte 10) bytes ≡ true → 0 < length bytes → is_digit first 10 ≡ false → bytes_eq bytes (first ∷ others) ≡ false
digits_differ [] first others all some none = absurd (omega arith)
digits_differ (byte ∷ bytes) first others all some none = and_left (byte == first) (bytes_eq bytes others) (ne_eqb byte first apart)
  where
    clash : false ≡ true → ⊥
    clash e = cc

    apart : byte ≢ first
    apart e = clash (sym none ∙ ap (λ b. is_digit b 10) (sym e) ∙ (and_parts (is_digit byte 10) (list_all (λ byte. is_digit byte 10) bytes) all).0)

-- a byte behind a field taken off
pub last_off : (byte : ℕ) (field : List ℕ) → without_last byte (field ++ byte ∷ []) ≡ field
last_off byte field =
    let whole : List ℕ = field ++ byte ∷ [] in
    let size : length whole - 1 ≡ length field = omega (arith, length-append field (byte ∷ [])) in
    ap (λ n. if slice_index whole n == byte then take n whole else []) size
    ∙ ap (λ b. if b then take (length field) whole else []) (eq-eqb (slice_index whole (length field)) byte (get_or_at field byte [] 0 (length field) refl))
    ∙ take_at field (byte ∷ []) (length field) refl

-- ---- what a line is

kind_by : Bool → Bool → Bool → Bool → Bool → Bool → Bool → Bool → LineKind
kind_by a b c d e f g h =
    kind_found (cond a (Some (codes "#", Comment)) (cond b (Some (codes "Unicast lids", TableHead)) (cond c (Some (codes "0x", Row)) (cond d (Some (levels_head, LevelsHead)) (cond e (Some (map_head, MapHead))
    (cond f (Some (codes "Certificate:", CertificateHead)) (cond g (Some (codes "[", PairLine)) (cond h (Some (codes "end plan", EndPlan)) None))))))))

kind_parts : (byte : ℕ) (bytes : List ℕ) → kind_of (byte ∷ bytes)
    ≡ kind_by (begins (byte ∷ bytes) (codes "#")) (begins (byte ∷ bytes) (codes "Unicast lids")) (begins (byte ∷ bytes) (codes "0x")) (begins (byte ∷ bytes) levels_head) (begins (byte ∷ bytes) map_head)
    (begins (byte ∷ bytes) (codes "Certificate:")) (begins (byte ∷ bytes) (codes "[")) (begins (byte ∷ bytes) (codes "end plan"))
unfolding kind_by
kind_parts byte bytes = refl

none_of : kind_by false false false false false false false false ≡ Other
unfolding kind_by
none_of = refl

pub kind_digits : (a b : ℕ) (bytes : List ℕ) → 48 ≤ a → a < 58 → b < 58 → kind_of (a ∷ b ∷ bytes) ≡ Other
kind_digits a b bytes low high next = kind_parts a (b ∷ bytes) ∙ all_false _ _ _ _ _ _ _ _ (other 35 [] (λ e. omega arith)) (other 85 (codes "nicast lids") (λ e. omega arith)) hex_no
    (other 76 (codes "evels of switch guid ") (λ e. omega arith)) (other 76 (codes "ane map of switch guid ") (λ e. omega arith)) (other 67 (codes "ertificate:") (λ e. omega arith)) (other 91 [] (λ e. omega arith))
    (other 101 (codes "nd plan") (λ e. omega arith)) ∙ none_of
  where
    other : (first : ℕ) (others : List ℕ) → first ≢ a → begins (a ∷ b ∷ bytes) (first ∷ others) ≡ false
    other first others apart = and_left (first == a) _ (ne_eqb first a apart)

    hex_no : begins (a ∷ b ∷ bytes) (codes "0x") ≡ false
    hex_no = and_right (48 == a) ((120 == b) && true) (and_left (120 == b) true (ne_eqb 120 b (λ e. omega arith)))

    all_false : (p q r s t u v w : Bool) → p ≡ false → q ≡ false → r ≡ false → s ≡ false → t ≡ false → u ≡ false → v ≡ false → w ≡ false → kind_by p q r s t u v w ≡ kind_by false false false false false false false false
    all_false p q r s t u v w ep eq er es et eu ev ew = cc

-- ---- rows

pub row_is_row : (value : ℕ → List ℕ) (lids : List ℕ) → kind_of (row_text value lids) ≡ Row
unfolding row_text hex4
row_is_row value lids = refl

pub row_fields : (value : ℕ → List ℕ) → ((lid : ℕ) → IsWord (value lid)) → (lids : List ℕ) → fields (row_text value lids) ≡ hex4 (slice_index lids 0) ∷ map value lids
unfolding row_text
row_fields value words lids =
    ap (λ rest. fields (hex4 (slice_index lids 0) ++ rest)) (spaced_map value lids)
    ∙ fields_spaced (hex4 (slice_index lids 0)) (map value lids) (hex4_word (slice_index lids 0)).solid (all_words value words lids)

zip_map : {A : Type 0} (value : ℕ → A) (lids : List ℕ) → zip lids (map value lids) ≡ map (λ (lid : ℕ). (lid, value lid)) lids
zip_map value [] = refl
zip_map value (lid ∷ lids) = ap (λ rows. (lid, value lid) ∷ rows) (zip_map value lids)

paired_all : {A : Type 0} (value : ℕ → A) (lids : List ℕ) → 0 < length lids → paired lids (Some (map value lids)) ≡ Some (map (λ (lid : ℕ). (lid, value lid)) lids)
paired_all value [] some = absurd (omega arith)
paired_all value (lid ∷ lids) some =
    ap (λ b. if b then Some (zip (lid ∷ lids) (map value (lid ∷ lids))) else None) (eq-eqb (length (map value (lid ∷ lids))) (length (lid ∷ lids)) (length-map (lid ∷ lids) value))
    ∙ ap (λ rows. Some rows) (zip_map value (lid ∷ lids))

module _ (lids : List ℕ) (i : ℕ) (up : IsStrictlyIncreasing lids) (few : All (λ lid. lid < 2 ^ 16) lids) (within : i * 64 < length lids) where
  first : ℕ
  first = slice_index (row_of lids i) 0

  first_is : first ≡ get_or lids (i * 64) 0
  unfolding first
  first_is =
      let same : i * 64 + 0 ≡ i * 64 = omega arith in
      get_or-take 64 (drop (i * 64) lids) 0 0 (omega arith) ∙ get_or-drop (i * 64) lids 0 0 ∙ ap (λ k. get_or lids k 0) same

  first_low : first < 2 ^ 16
  first_low = subst (λ (n : ℕ). n < 2 ^ 16) (sym first_is) (All-get_or (λ lid. lid < 2 ^ 16) lids (i * 64) 0 within few)

  first_at : index_of first lids ≡ Some (i * 64)
  first_at = index_at lids (i * 64) first up (slice_get-get_or lids (i * 64) 0 within ∙ ap (λ n. Some n) (sym first_is))

  lids_found : (values : List (List ℕ)) → row_lids lids (hex4 (slice_index (row_of lids i) 0) ∷ values) ≡ row_of lids i
  unfolding first
  lids_found values =
      let begins_there : i * 64 % 64 ≡ 0 = omega arith in
      ap (lids_at lids) (lid_read first first_low) ∙ ap (lids_from lids) first_at ∙ ap (λ b. if b then take 64 (drop (i * 64) lids) else []) (eq-eqb (i * 64 % 64) 0 begins_there)

  row_some : 0 < length (row_of lids i)
  row_some = omega (arith, length-take 64 (drop (i * 64) lids), length-drop (i * 64) lids)

  -- a row that was written is read
  pub row_back : {A : Type 0} (read : List ℕ → Option A) (write : ℕ → List ℕ) (value : ℕ → A) → ((lid : ℕ) → IsWord (write lid)) → ((lid : ℕ) → read (write lid) ≡ Some (value lid)) →
      long_row lids read (fields (row_text write (row_of lids i))) ≡ Some (map (λ (lid : ℕ). (lid, value lid)) (row_of lids i))
  row_back read write value words one =
      ap (long_row lids read) (row_fields write words (row_of lids i))
      ∙ ap (λ row. paired row (all_read read (map write (row_of lids i)))) (lids_found (map write (row_of lids i)))
      ∙ ap (paired (row_of lids i)) (read_back read write value (λ (lid : ℕ). Unit {0}) (λ lid u. one lid) (row_of lids i) (λ k d low. tt))
      ∙ paired_all value (row_of lids i) row_some

-- ---- lanes

all_tail : {X : Type 0} (P : X → Type 0) (x : X) (xs : List X) → All P (x ∷ xs) → All P xs
all_tail P x xs all = λ k d low. all (suc k) d (omega arith)

lanes_spaced : (lane : ℕ) (lanes : List ℕ) → lanes_text (lane ∷ lanes) ≡ two lane ++ spaced (map two lanes)
unfolding lanes_text
lanes_spaced lane lanes = joined_spaced (two lane) (map two lanes)

pub lanes_words : (lanes : List ℕ) → 0 < length lanes → without_empty (parts (lanes_text lanes)) ≡ map two lanes
lanes_words [] some = absurd (omega arith)
lanes_words (lane ∷ lanes) some = ap (λ bytes. without_empty (parts bytes)) (lanes_spaced lane lanes) ∙ words_spaced (two lane) (map two lanes) (two_word lane) (all_words two two_word lanes)

pub lanes_fields : (lanes : List ℕ) → 0 < length lanes → fields (lanes_text lanes) ≡ map two lanes
lanes_fields [] some = absurd (omega arith)
lanes_fields (lane ∷ lanes) some = ap fields (lanes_spaced lane lanes) ∙ fields_spaced (two lane) (map two lanes) (two_word lane).solid (all_words two two_word lanes)

pub map_read_back : (lanes : List ℕ) → length lanes ≡ 16 → All (λ lane. lane < 16) lanes → lanes_read (map two lanes) ≡ Some lanes
map_read_back lanes all low =
    ap sixteen (read_back (dec_up_to 15) two (λ (lane : ℕ). lane) (λ lane. lane < 16) (λ lane h. dec_up_to_spelled 15 lane (two lane) (two_spelled lane h) (omega (arith, h))) lanes low)
    ∙ ap (λ ls. sixteen (Some ls)) (map-id lanes) ∙ ap (λ b. if b then Some lanes else None) (eq-eqb (length lanes) 16 all)

digit_low : (d : ℕ) → d < 10 → (48 ≤ digit_glyph false d) × (digit_glyph false d < 58)
digit_low d h = cond_both (nat_lt d 10) (48 + d) (87 + d) (λ n. (48 ≤ n) × (n < 58)) (λ e. (omega arith, omega (arith, h))) (λ e. absurd (omega (arith, h, ltb-false d 10 e)))

two_other : (lane : ℕ) (rest : List ℕ) → kind_of (two lane ++ rest) ≡ Other
unfolding two
two_other lane rest =
    let first : (48 ≤ digit_glyph false (lane / 10 % 10)) × (digit_glyph false (lane / 10 % 10) < 58) = digit_low (lane / 10 % 10) (omega arith) in
    let second : (48 ≤ digit_glyph false (lane % 10)) × (digit_glyph false (lane % 10) < 58) = digit_low (lane % 10) (omega arith) in
    kind_digits (digit_glyph false (lane / 10 % 10)) (digit_glyph false (lane % 10)) rest first.0 first.1 second.1

pub lanes_other : (lanes : List ℕ) → 0 < length lanes → kind_of (lanes_text lanes) ≡ Other
lanes_other [] some = absurd (omega arith)
lanes_other (lane ∷ lanes) some = ap kind_of (lanes_spaced lane lanes) ∙ two_other lane (spaced (map two lanes))

-- ---- heads with a GUID and a colon

pub guid_field : (guid : ℕ) → guid < 2 ^ 64 → read_only (λ field. hex 16 (without_last 58 field)) (only_field (fields (hex16 guid ++ codes ":"))) ≡ Some guid
guid_field guid low =
    ap (λ fs. read_only (λ field. hex 16 (without_last 58 field)) (only_field fs)) (fields_word (hex16 guid ++ codes ":") solid_all) ∙ ap (hex 16) (last_off 58 (hex16 guid)) ∙ guid_read guid low
  where
    solid_all : All (λ byte. is_blank byte ≡ false) (hex16 guid ++ codes ":")
    solid_all = All-append (λ byte. is_blank byte ≡ false) (hex16 guid) (codes ":") (hex16_word guid).solid (solid_bytes (codes ":") refl)

pub levels_guid : (guid : ℕ) → guid < 2 ^ 64 → head_guid levels_head (guid_head_text levels_head guid) ≡ Some guid
unfolding guid_head_text
levels_guid guid low = guid_field guid low

pub map_guid : (guid : ℕ) → guid < 2 ^ 64 → head_guid map_head (guid_head_text map_head guid) ≡ Some guid
unfolding guid_head_text
map_guid guid low = guid_field guid low

pub levels_is_head : (guid : ℕ) → kind_of (guid_head_text levels_head guid) ≡ LevelsHead
unfolding guid_head_text
levels_is_head guid = refl

pub map_is_head : (guid : ℕ) → kind_of (guid_head_text map_head guid) ≡ MapHead
unfolding guid_head_text
map_is_head guid = refl
