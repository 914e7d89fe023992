-- Descriptions, LIDs and LMCs of written lines, read again.
use Rattle.std.proofs.Common.{◌≡◌, ◌<◌, ◌≤◌, ◌+◌, ◌^◌, ℕ, suc, Bool, true, false, cond, not, List, [], ◌∷◌, ◌++◌, length, drop, take, refl, sym, ap, ◌∙◌, arith, codes}
use Rattle.std.specs.Prelude.{Ok, Err, Some, None, decimal, nat_lt, nat_eq, ◌==◌, position}
use Rattle.std.specs.List.{list_any, before_last, after_last}
use Rattle.std.proofs.lemmas.Bool.{or_parts, or_right}
use Rattle.std.proofs.lemmas.List.{append_assoc, append-nil, length-append, take_all}
use Rattle.fab_text.specs.Bytes.{is_quote}
use Rattle.fab_text.specs.Fields.{words_of}
use Rattle.fab_text.proofs.Spelled.{Spells, decimal_spells, spelled_high}
use Rattle.fab_text.proofs.Words.{high_word, words_more}
use Rattle.fab_netdiscover.specs.declared.fault.LineFault.TheVariants.{Bad}
use Rattle.fab_netdiscover.specs.declared.fault.BadKind.TheVariants as kinds
use Rattle.fab_netdiscover.specs.declared.words.Address.{Address}
use Rattle.fab_netdiscover.specs.Fronts.{Read, number_at, to_last_quote, description_at, whole_number, address_in, address_behind_mark}
use Rattle.fab_netdiscover.specs.Writing.{in_quotes, address_text}
use Rattle.fab_netdiscover.proofs.Quotes.{behind, behind-cons}
use Rattle.fab_netdiscover.proofs.ReadNumbers.{number_read}

-- ---- up to the last quote

none_step : (test : Bool) (size count : ℕ) → test ≡ false → count ≡ size → cond (nat_eq count size) (size + cond (not test) (1 + 0) 0) count ≡ size + 1
none_step true size count e h = cc
none_step false size count e h = grind (arith, h)

no_quote_behind : (rest : List ℕ) → list_any is_quote rest ≡ false → behind rest ≡ length rest
no_quote_behind [] e = refl
no_quote_behind (byte ∷ rest) e =
    let parts : (is_quote byte ≡ false) × (list_any is_quote rest ≡ false) = or_parts (is_quote byte) (list_any is_quote rest) e in
    behind-cons byte rest ∙ none_step (is_quote byte) (length rest) (behind rest) parts.0 (no_quote_behind rest parts.1) ∙ omega arith

quote_step : (size count : ℕ) → count ≡ size → cond (nat_eq count size) (size + cond (not true) (1 + 0) 0) count ≡ size
quote_step size count h = grind (arith, h)

later_step : (test : Bool) (size count : ℕ) → count < size → cond (nat_eq count size) (size + cond (not test) (1 + 0) 0) count ≡ count
later_step test size count h = grind (arith, h)

quote_behind : (desc rest : List ℕ) → list_any is_quote rest ≡ false → behind (desc ++ 34 ∷ rest) ≡ length rest
quote_behind [] rest e = behind-cons 34 rest ∙ quote_step (length rest) (behind rest) (no_quote_behind rest e)
quote_behind (byte ∷ desc) rest e =
    let before : behind (desc ++ 34 ∷ rest) ≡ length rest = quote_behind desc rest e in
    let less : behind (desc ++ 34 ∷ rest) < length (desc ++ 34 ∷ rest) = omega (arith, before, length-append desc (34 ∷ rest)) in
    behind-cons byte (desc ++ 34 ∷ rest) ∙ later_step (is_quote byte) (length (desc ++ 34 ∷ rest)) (behind (desc ++ 34 ∷ rest)) less ∙ before

some_quote : (desc rest : List ℕ) → list_any is_quote (desc ++ 34 ∷ rest) ≡ true
some_quote [] rest = refl
some_quote (byte ∷ desc) rest = or_right (is_quote byte) (list_any is_quote (desc ++ 34 ∷ rest)) (some_quote desc rest)

front_taken : (desc rest : List ℕ) → take (length desc) (desc ++ rest) ≡ desc
front_taken [] rest = refl
front_taken (byte ∷ desc) rest = ap (λ (front : List ℕ). byte ∷ front) (front_taken desc rest)

front_dropped : (desc rest : List ℕ) → drop (length desc + 1) (desc ++ 34 ∷ rest) ≡ rest
front_dropped [] rest = refl
front_dropped (byte ∷ desc) rest =
    let place : length (byte ∷ desc) + 1 ≡ suc (length desc + 1) = omega arith in
    ap (λ (n : ℕ). drop n (byte ∷ (desc ++ 34 ∷ rest))) place ∙ front_dropped desc rest

read_both : (test : Bool) (front desc back rest : List ℕ) → test ≡ true → front ≡ desc → back ≡ rest → cond {A = Read (List ℕ)} test (Ok (front, back)) (Err (Bad kinds.Description)) ≡ Ok (desc, rest)
read_both true front desc back rest e h k = cc
read_both false front desc back rest e h k = cc

split_at_last : (desc rest : List ℕ) → list_any is_quote rest ≡ false → to_last_quote (desc ++ 34 ∷ rest) ≡ Ok (desc, rest)
split_at_last desc rest e =
    let all : List ℕ = desc ++ 34 ∷ rest in
    let after : behind all ≡ length rest = quote_behind desc rest e in
    let size : length all ≡ length desc + (length rest + 1) = length-append desc (34 ∷ rest) ∙ omega arith in
    let front : before_last is_quote all ≡ desc = ap (λ (n : ℕ). take n all) (omega (arith, after, size)) ∙ front_taken desc (34 ∷ rest) in
    let back : after_last is_quote all ≡ rest = ap (λ (n : ℕ). drop n all) (omega (arith, after, size)) ∙ front_dropped desc rest in
    read_both (list_any is_quote all) (before_last is_quote all) desc (after_last is_quote all) rest (some_quote desc rest) front back

pub description_read : (desc rest : List ℕ) → length desc ≤ 64 → list_any is_quote rest ≡ false → description_at (codes "\t\t# " ++ (in_quotes desc ++ rest)) ≡ Ok (desc, rest)
unfolding description_at in_quotes
description_read desc rest h e =
    rw append_assoc (rw (split_at_last desc rest e) (ap (λ (text : List ℕ). Ok (text, rest)) (take_all 64 desc h)))

-- ---- words

-- a number is the first word
pub number_word : (number : ℕ) (rest : List ℕ) → number < 2 ^ 64 → words_of (decimal number ++ 32 ∷ rest) ≡ decimal number ∷ words_of rest
number_word number rest h =
    let s : Spells 10 number (decimal number) = decimal_spells number h in
    words_more (decimal number) rest (high_word (decimal number) (spelled_high 10 number (decimal number) (omega arith) s) s.some)

pub number_is_whole : (number : ℕ) → number < 2 ^ 32 → whole_number (decimal number) ≡ Ok number
number_is_whole number h =
    ap (λ (word : List ℕ). whole_number word) (sym (append-nil (decimal number)))
    ∙ rw (number_read kinds.Lid number (decimal number) [] (decimal_spells number (omega (arith, h))) h refl)

-- ---- LIDs and LMCs

zero_is_whole : whole_number (codes "0") ≡ Ok 0
unfolding number_at
zero_is_whole = refl

abbrev address : ℕ → Address
address lid = record { lid = lid; lmc = 0 }

pub switch_address : (lid : ℕ) → lid < 2 ^ 32 → address_in (codes " base port 0 " ++ address_text lid) ≡ Ok (address lid)
unfolding address_in address_text
switch_address lid h = rw (number_word lid (codes "lmc 0") (omega (arith, h))) (rw (number_is_whole lid h) (rw zero_is_whole))

address_at : (lid : ℕ) (rest : List ℕ) → lid < 2 ^ 32 → address_in (codes " lid " ++ (decimal lid ++ (codes " lmc 0 " ++ rest))) ≡ Ok (address lid)
unfolding address_in
address_at lid rest h = rw (number_word lid (codes "lmc 0 " ++ rest) (omega (arith, h))) (rw (number_is_whole lid h) (rw zero_is_whole))

pub port_address : (lid : ℕ) (rest : List ℕ) → lid < 2 ^ 32 → address_in (32 ∷ (address_text lid ++ (32 ∷ rest))) ≡ Ok (address lid)
unfolding address_text
port_address lid rest h = ap (λ (text : List ℕ). address_in (codes " lid " ++ text)) (append_assoc (decimal lid) (codes " lmc 0") (32 ∷ rest)) ∙ address_at lid rest h

below_three : (count : ℕ) → nat_lt 2 (suc (suc (suc count))) ≡ true
below_three count = grind arith

mark_found : (rest : List ℕ) → position (λ one. one == 35) (9 ∷ 9 ∷ 35 ∷ rest) ≡ Some 2
mark_found rest = ap (λ (within : Bool). cond within (Some 2) None) (below_three (length rest))

pub marked_address : (lid : ℕ) (rest : List ℕ) → lid < 2 ^ 32 → address_behind_mark (codes "\t\t# " ++ (address_text lid ++ (32 ∷ rest))) ≡ Ok (address lid)
unfolding address_behind_mark
marked_address lid rest h = rw (mark_found (32 ∷ (address_text lid ++ (32 ∷ rest)))) (port_address lid rest h)
