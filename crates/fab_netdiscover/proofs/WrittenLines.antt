-- Lines that are written: no line feed stands in them, and no carriage return at their end.
use Rattle.std.proofs.Common.{◌≡◌, ◌≢◌, ◌<◌, ◌≤◌, ◌+◌, ◌-◌, ◌^◌, ℕ, suc, Bool, true, false, cond, not, List, [], ◌∷◌, ◌++◌, length, get_or, take, refl, sym, ap, ◌∙◌, arith, codes}
use Rattle.std.specs.Prelude.{decimal, ◌==◌, slice_index}
use Rattle.std.specs.List.{concat, list_all, slice_split, onto_first}
use Rattle.std.specs.Fmt.{radix_digits}
use Rattle.std.specs.Str.Lines.{lines, lines_of_parts, strip_carriage_return}
use Rattle.std.proofs.lemmas.Bool.{and_parts}
use Rattle.std.proofs.lemmas.List.{length-append}
use Rattle.std.proofs.lemmas.List.Elements.{All-nil, All-cons, All-append, All-weaker, All-get_or}
use Rattle.std.proofs.lemmas.List.Splits.{slice_split_at}
use Rattle.fab_text.specs.Bytes.{is_line_feed}
use Rattle.fab_text.proofs.Spelled.{Spells, IsHigh, decimal_spells, radix_spells, spelled_high}
use Rattle.fab_model.specs.declared.raw.NodeKind.{NodeKind}
use Rattle.fab_model.specs.declared.raw.NodeKind.TheVariants.{Switch, Adapter}
use Rattle.fab_model.specs.Description.{HasNoLineFeed}
use Rattle.fab_netdiscover.specs.Writing.{name_text, port_text, port_guid_text, in_quotes, address_text, guid16}
use Rattle.fab_netdiscover.proofs.ReadNumbers.{guid16_spells}

pub record IsLine (body : List ℕ) : Type 0 where
  pub no_feed : HasNoLineFeed body
  pub ends : slice_index body (length body - 1) ≢ 13

-- ---- a line, and the lines behind it

kept_by : (test : Bool) (byte : ℕ) (body : List ℕ) → (byte == 13) ≡ test → byte ≢ 13 → cond test (take (length body - 1) body) body ≡ body
kept_by true byte body e h = absurd (h (grind (arith, e)))
kept_by false byte body e h = refl

more_by : (test : Bool) (x : List ℕ) (byte : ℕ) (parts : List (List ℕ)) → lines_of_parts (x ∷ cond test ([] ∷ parts) (onto_first byte parts)) ≡ strip_carriage_return x ∷ lines_of_parts (cond test ([] ∷ parts) (onto_first byte parts))
more_by true x byte parts = refl
more_by false x byte [] = refl
more_by false x byte (part ∷ parts) = refl

feed_by : (test : Bool) (byte : ℕ) → is_line_feed byte ≡ test → byte ≢ 10 → test ≡ false
feed_by true byte e h = absurd (h (grind (arith, e)))
feed_by false byte e h = refl

no_feed_test : (byte : ℕ) → byte ≢ 10 → is_line_feed byte ≡ false
no_feed_test byte h = feed_by (is_line_feed byte) byte refl h

one_more_part : (x rest : List ℕ) → lines_of_parts (x ∷ slice_split is_line_feed rest) ≡ strip_carriage_return x ∷ lines_of_parts (slice_split is_line_feed rest)
one_more_part x [] = refl
one_more_part x (byte ∷ rest) = more_by (is_line_feed byte) x byte (slice_split is_line_feed rest)

pub line_more : (body rest : List ℕ) → IsLine body → lines (body ++ 10 ∷ rest) ≡ body ∷ lines rest
line_more body rest h =
    ap lines_of_parts (slice_split_at is_line_feed body 10 rest (All-weaker (λ byte. byte ≢ 10) (λ byte. is_line_feed byte ≡ false) no_feed_test body h.no_feed) refl)
    ∙ one_more_part body rest ∙ ap (λ (line : List ℕ). line ∷ lines rest) (kept_by (slice_index body (length body - 1) == 13) (slice_index body (length body - 1)) body refl h.ends)

-- ---- lines of pieces

last_behind : (xs ys : List ℕ) → 0 < length ys → slice_index (xs ++ ys) (length (xs ++ ys) - 1) ≡ slice_index ys (length ys - 1)
last_behind [] ys h = refl
last_behind (x ∷ xs) ys h =
    let size : length (xs ++ ys) ≡ length xs + length ys = length-append xs ys in
    let place : length (x ∷ (xs ++ ys)) - 1 ≡ suc (length (xs ++ ys) - 1) = omega (arith, size, h) in
    ap (slice_index (x ∷ (xs ++ ys))) place ∙ last_behind xs ys h

pub behind_line : (xs ys : List ℕ) → HasNoLineFeed xs → 0 < length ys → IsLine ys → IsLine (xs ++ ys)
behind_line xs ys h some l = record {
  no_feed = All-append (λ byte. byte ≢ 10) xs ys h l.no_feed;
  ends = λ e. l.ends (sym (last_behind xs ys some) ∙ e);
}

-- digits
no_feed_above : (written : List ℕ) → IsHigh written → HasNoLineFeed written
no_feed_above written h = All-weaker (λ byte. 48 ≤ byte) (λ byte. byte ≢ 10) (λ byte low same. absurd (omega (arith, low, same))) written h

pub decimal_line : (number : ℕ) → number < 2 ^ 64 → IsLine (decimal number)
decimal_line number h =
    let s : Spells 10 number (decimal number) = decimal_spells number h in
    let high : IsHigh (decimal number) = spelled_high 10 number (decimal number) (omega arith) s in
    let last : 48 ≤ get_or (decimal number) (length (decimal number) - 1) 0 = All-get_or (λ byte. 48 ≤ byte) (decimal number) (length (decimal number) - 1) 0 (omega (arith, s.some)) high in
    record { no_feed = no_feed_above (decimal number) high; ends = λ same. absurd (omega (arith, last, same)) }

pub guid_feedless : (guid : ℕ) → guid < 2 ^ 64 → HasNoLineFeed (guid16 guid)
guid_feedless guid h = no_feed_above (guid16 guid) (spelled_high 16 guid (guid16 guid) (omega arith) (guid16_spells guid h))

radix_feedless : (guid : ℕ) → guid < 2 ^ 64 → HasNoLineFeed (radix_digits 16 false guid)
radix_feedless guid h = no_feed_above (radix_digits 16 false guid) (spelled_high 16 guid (radix_digits 16 false guid) (omega arith) (radix_spells guid h).spells)

-- ---- parts of lines

both_feedless : (xs ys : List ℕ) → HasNoLineFeed xs → HasNoLineFeed ys → HasNoLineFeed (xs ++ ys)
both_feedless xs ys h k = All-append (λ byte. byte ≢ 10) xs ys h k

one_feedless : (byte : ℕ) (rest : List ℕ) → byte ≢ 10 → HasNoLineFeed rest → HasNoLineFeed (byte ∷ rest)
one_feedless byte rest h k = All-cons (λ byte. byte ≢ 10) byte rest h k

-- a literal text without a line feed
abbrev has_none : List ℕ → Bool
has_none bytes = list_all (λ byte. not (byte == 10)) bytes

literal_step : (test : Bool) (byte : ℕ) → (byte == 10) ≡ test → not test ≡ true → byte ≢ 10
literal_step true byte e h = cc
literal_step false byte e h = λ same. grind (arith, e, same)

pub literal : (bytes : List ℕ) → has_none bytes ≡ true → HasNoLineFeed bytes
literal [] e = All-nil _
literal (byte ∷ bytes) e =
    let parts : (not (byte == 10) ≡ true) × (has_none bytes ≡ true) = and_parts (not (byte == 10)) (has_none bytes) e in
    one_feedless byte bytes (literal_step (byte == 10) byte refl parts.0) (literal bytes parts.1)

pub port_feedless : (port : ℕ) → port < 2 ^ 64 → HasNoLineFeed (port_text port)
unfolding port_text
port_feedless port h = both_feedless (codes "[") _ (literal (codes "[") refl) (both_feedless (decimal port) (codes "]") (decimal_line port h).no_feed (literal (codes "]") refl))

pub name_feedless : (kind : NodeKind) (guid : ℕ) → guid < 2 ^ 64 → HasNoLineFeed (name_text kind guid)
unfolding name_text
name_feedless Switch guid h = both_feedless (codes "\"S-") _ (literal (codes "\"S-") refl) (both_feedless (guid16 guid) (codes "\"") (guid_feedless guid h) (literal (codes "\"") refl))
name_feedless Adapter guid h = both_feedless (codes "\"H-") _ (literal (codes "\"H-") refl) (both_feedless (guid16 guid) (codes "\"") (guid_feedless guid h) (literal (codes "\"") refl))

guid_text_by : (none : Bool) (guid : ℕ) → guid < 2 ^ 64 → HasNoLineFeed (cond none [] (concat (codes "(" ∷ radix_digits 16 false guid ∷ codes ")" ∷ [])))
guid_text_by true guid h = All-nil _
guid_text_by false guid h = both_feedless (codes "(") _ (literal (codes "(") refl) (both_feedless (radix_digits 16 false guid) (codes ")") (radix_feedless guid h) (literal (codes ")") refl))

pub guid_text_feedless : (guid : ℕ) → guid < 2 ^ 64 → HasNoLineFeed (port_guid_text guid)
unfolding port_guid_text
guid_text_feedless guid h = guid_text_by (guid == 0) guid h

pub quotes_feedless : (desc : List ℕ) → HasNoLineFeed desc → HasNoLineFeed (in_quotes desc)
unfolding in_quotes
quotes_feedless desc h = both_feedless (codes "\"") _ (literal (codes "\"") refl) (both_feedless desc (codes "\"") h (literal (codes "\"") refl))

pub address_feedless : (lid : ℕ) → lid < 2 ^ 64 → HasNoLineFeed (address_text lid)
unfolding address_text
address_feedless lid h = both_feedless (codes "lid ") _ (literal (codes "lid ") refl) (both_feedless (decimal lid) (codes " lmc 0") (decimal_line lid h).no_feed (literal (codes " lmc 0") refl))
