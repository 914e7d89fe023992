-- Digits that spell a number: those that are written spell it, and at the front of a text they are read again.
use Rattle.std.proofs.Common.{◌≡◌, ◌<◌, ◌≤◌, ◌+◌, ◌*◌, ◌/◌, ◌%◌, ◌^◌, ℕ, zero, suc, Bool, true, false, cond, ◌&&◌, List, [], ◌∷◌, ◌++◌, length, refl, sym, subst, ap, ◌∙◌, arith}
use Rattle.std.specs.Prelude.{decimal, nat_lt, ◌==◌, All}
use Rattle.std.specs.List.{list_all}
use Rattle.std.specs.Char.{digit_value, is_digit}
use Rattle.std.specs.Fmt.{digit_glyph, digits, digits_onto, radix_digits}
use Rattle.std.specs.Str.Parse.{digits_value_after, digits_value, IsNumeral, AllDigits}
use Rattle.std.proofs.lemmas.Bool.{and_from, and_parts, ltb-true}
use Rattle.std.proofs.lemmas.Fmt.{decimal_is_IsNumeral}
use Rattle.std.proofs.lemmas.List.{append_assoc, append-nil, length-append}
use Rattle.std.proofs.lemmas.List.Elements.{All-nil, All-cons}
use Rattle.std.proofs.lemmas.List.Sums.{take_while-cons}
use Rattle.std.proofs.Math.Nat.{pow-zero, pow-succ', div-lt_iff_lt-mul}
use Rattle.fab_text.specs.Digits.{digits_at_front, number_after, number_spelled, last_digits}

-- digits that spell a number
pub record Spells (base number : ℕ) (written : List ℕ) : Type 0 where
  pub all : list_all (λ byte. is_digit byte base) written ≡ true
  pub some : 0 < length written
  pub value : number_spelled base written ≡ number

below : (value limit : ℕ) → value < limit → nat_lt value limit ≡ true
below value limit h = grind arith

-- ---- at the front of a text

-- what stands there is no digit
abbrev pub EndsDigits : ℕ → List ℕ → Type 0
EndsDigits base rest = digits_at_front base rest ≡ []

front_step : (base digit : ℕ) (written rest : List ℕ) (test : Bool) → (test && list_all (λ byte. is_digit byte base) written) ≡ true → (list_all (λ byte. is_digit byte base) written ≡ true → digits_at_front base (written ++ rest) ≡ written)
    → cond test (digit ∷ digits_at_front base (written ++ rest)) [] ≡ digit ∷ written
front_step base digit written rest true e later = ap (λ (front : List ℕ). digit ∷ front) (later e)
front_step base digit written rest false e later = cc

pub front_digits : (base : ℕ) (written rest : List ℕ) → list_all (λ byte. is_digit byte base) written ≡ true → EndsDigits base rest → digits_at_front base (written ++ rest) ≡ written
front_digits base [] rest e h = h
front_digits base (digit ∷ written) rest e h =
    take_while-cons (λ byte. is_digit byte base) digit (written ++ rest)
    ∙ front_step base digit written rest (is_digit digit base) e (λ later. front_digits base written rest later h)

-- ---- decimal

spelled_same : (base number : ℕ) (written : List ℕ) → number_after base number written ≡ digits_value_after base number written
spelled_same base number [] = refl
spelled_same base number (digit ∷ written) = spelled_same base (number * base + digit_value digit) written

all_digits : (base : ℕ) (written : List ℕ) → AllDigits base written → list_all (λ byte. is_digit byte base) written ≡ true
all_digits base [] h = refl
all_digits base (digit ∷ written) h = and_from (is_digit digit base) _ (below (digit_value digit) base h.0) (all_digits base written h.1)

pub decimal_spells : (number : ℕ) → number < 2 ^ 64 → Spells 10 number (decimal number)
decimal_spells number h =
    let numeral : IsNumeral 10 (decimal number) × (digits_value 10 (decimal number) ≡ number) = decimal_is_IsNumeral number h in
    record { all = all_digits 10 (decimal number) numeral.0.1; some = numeral.0.0; value = spelled_same 10 0 (decimal number) ∙ numeral.1 }

-- ---- so many digits

glyph_by : (test : Bool) (digit : ℕ) → nat_lt digit 10 ≡ test → digit < 16 → digit_value (cond test (48 + digit) (87 + digit)) ≡ digit
glyph_by true digit e h = grind (arith, e)
glyph_by false digit e h = grind (arith, e)

glyph_value : (digit : ℕ) → digit < 16 → digit_value (digit_glyph false digit) ≡ digit
glyph_value digit h = glyph_by (nat_lt digit 10) digit refl h

after_more : (base number : ℕ) (written : List ℕ) (digit : ℕ) → number_after base number (written ++ digit ∷ []) ≡ number_after base number written * base + digit_value digit
after_more base number [] digit = refl
after_more base number (one ∷ written) digit = after_more base (number * base + digit_value one) written digit

all_more : (base : ℕ) (written : List ℕ) (digit : ℕ) → list_all (λ byte. is_digit byte base) written ≡ true → is_digit digit base ≡ true → list_all (λ byte. is_digit byte base) (written ++ digit ∷ []) ≡ true
all_more base [] digit e h = and_from (is_digit digit base) true h refl
all_more base (one ∷ written) digit e h =
    let parts : (is_digit one base ≡ true) × (list_all (λ byte. is_digit byte base) written ≡ true) = and_parts (is_digit one base) _ e in
    and_from (is_digit one base) _ parts.0 (all_more base written digit parts.1 h)

module _ (base : ℕ) (some : 0 < base) (few : base ≤ 16) where
  glyph_is_digit : (digit : ℕ) → digit < base → is_digit (digit_glyph false digit) base ≡ true
  glyph_is_digit digit h = below (digit_value (digit_glyph false digit)) base (subst (λ (n : ℕ). n < base) (sym (glyph_value digit (omega (arith, h, few)))) h)

  last_all : (count number : ℕ) → list_all (λ byte. is_digit byte base) (last_digits base count number) ≡ true
  last_all zero number = refl
  last_all (suc count) number = all_more base (last_digits base count (number / base)) _ (last_all count (number / base)) (glyph_is_digit (number % base) (mod_below number))
    where
      mod_below : (n : ℕ) → n % base < base
      mod_below n = grind (arith, some)

  last_value : (count number : ℕ) → number < base ^ count → number_spelled base (last_digits base count number) ≡ number
  last_value zero number h = omega (arith, h, pow-zero base)
  last_value (suc count) number h =
      let power : base ^ suc count ≡ base * base ^ count = pow-succ' base count in
      let less : number % base < base = grind (arith, some) in
      let fewer : number / base < base ^ count = div_below number (base ^ count) (subst (λ (n : ℕ). number < n) power h) in
      let value : digit_value (digit_glyph false (number % base)) ≡ number % base = glyph_value (number % base) (omega (arith, less, few)) in
      after_more base 0 (last_digits base count (number / base)) _ ∙ ap (λ (n : ℕ). n * base + digit_value (digit_glyph false (number % base))) (last_value count (number / base) fewer)
      ∙ ap (λ (n : ℕ). number / base * base + n) value ∙ split number
    where
      split : (n : ℕ) → n / base * base + n % base ≡ n
      split n = grind (arith, some)

      div_below : (n limit : ℕ) → n < base * limit → n / base < limit
      div_below n limit h = (div-lt_iff_lt-mul some).1 (omega (arith, h))

  -- a last digit behind those of the number before
  one_more : (number : ℕ) (written : List ℕ) → Spells base (number / base) written → Spells base number (written ++ digit_glyph false (number % base) ∷ [])
  one_more number written s =
      let less : number % base < base = grind (arith, some) in
      let value : digit_value (digit_glyph false (number % base)) ≡ number % base = glyph_value (number % base) (omega (arith, less, few)) in
      let split : number / base * base + number % base ≡ number = grind (arith, some) in
      record {
        all = all_more base written _ s.all (glyph_is_digit (number % base) less);
        some = omega (arith, length-append written (digit_glyph false (number % base) ∷ []));
        value = after_more base 0 written _ ∙ ap (λ (n : ℕ). n * base + digit_value (digit_glyph false (number % base))) s.value ∙ ap (λ (n : ℕ). number / base * base + n) value ∙ split;
      }

pub length-last : (base count number : ℕ) → length (last_digits base count number) ≡ count
length-last base zero number = refl
length-last base (suc count) number = omega (arith, length-append (last_digits base count (number / base)) (digit_glyph false (number % base) ∷ []), length-last base count (number / base))

pub last_spells : (base count number : ℕ) → 1 < base → base ≤ 16 → 0 < count → number < base ^ count → Spells base number (last_digits base count number)
last_spells base count number some few more h = record {
  all = last_all base (omega (arith, some)) few count number;
  some = omega (arith, length-last base count number, more);
  value = last_value base (omega (arith, some)) few count number h;
}

-- ---- hexadecimal, without zeros in front

one_digit : (number : ℕ) → number < 16 → Spells 16 number (digit_glyph false (number % 16) ∷ [])
one_digit number h =
    let same : number % 16 ≡ number = omega arith in
    let value : digit_value (digit_glyph false (number % 16)) ≡ number % 16 = glyph_value (number % 16) (omega arith) in
    record {
      all = and_from (is_digit (digit_glyph false (number % 16)) 16) true (glyph_is_digit 16 (omega arith) (omega arith) (number % 16) (omega arith)) refl;
      some = omega arith;
      value = omega (arith, same, value);
    }

-- at most so many digits, and what stands behind them
record Short (base number most : ℕ) (behind all : List ℕ) : Type 0 where
  written : List ℕ
  same : all ≡ written ++ behind
  spells : Spells base number written
  short : length written ≤ most

none_before : (number : ℕ) → number < 16 → (number / 16 == 0) ≡ true
none_before number h = let zero : number / 16 ≡ 0 = omega (arith, h) in grind (arith, zero)

short_step : (test : Bool) (count more number : ℕ) (behind : List ℕ) → (number / 16 == 0) ≡ test → number < 16 ^ suc (suc count)
    → ((behind : List ℕ) → number / 16 < 16 ^ suc count → Short 16 (number / 16) (suc count) behind (digits_onto (suc count + more) 16 false (number / 16) behind))
    → Short 16 number (suc (suc count)) behind (cond test (digit_glyph false (number % 16) ∷ behind) (digits_onto (suc count + more) 16 false (number / 16) (digit_glyph false (number % 16) ∷ behind)))
short_step true count more number behind e h later = record {
  written = digit_glyph false (number % 16) ∷ [];
  same = refl;
  spells = one_digit number (grind (arith, e));
  short = omega arith;
}
short_step false count more number behind e h later =
    let power : 16 ^ suc (suc count) ≡ 16 * 16 ^ suc count = pow-succ' 16 (suc count) in
    let before : Short 16 (number / 16) (suc count) (digit_glyph false (number % 16) ∷ behind) _ = later (digit_glyph false (number % 16) ∷ behind) (omega (arith, h, power)) in
    record {
      written = before.written ++ digit_glyph false (number % 16) ∷ [];
      same = before.same ∙ sym (append_assoc before.written (digit_glyph false (number % 16) ∷ []) behind);
      spells = one_more 16 (omega arith) (omega arith) number before.written before.spells;
      short = omega (arith, length-append before.written (digit_glyph false (number % 16) ∷ []), before.short);
    }

short_digits : (count more number : ℕ) (behind : List ℕ) → number < 16 ^ suc count → Short 16 number (suc count) behind (digits_onto (suc (count + more)) 16 false number behind)
short_digits zero more number behind h = record {
  written = digit_glyph false (number % 16) ∷ [];
  same = ap (λ (none : Bool). cond none (digit_glyph false (number % 16) ∷ behind) (digits_onto (0 + more) 16 false (number / 16) (digit_glyph false (number % 16) ∷ behind))) (none_before number (omega (arith, h)));
  spells = one_digit number (omega (arith, h));
  short = omega arith;
}
short_digits (suc count) more number behind h =
    let place : suc (count + more) ≡ suc count + more = omega arith in
    short_step (number / 16 == 0) count more number behind refl h
    (λ behind less. subst (λ (n : ℕ). Short 16 (number / 16) (suc count) behind (digits_onto n 16 false (number / 16) behind)) place (short_digits count more (number / 16) behind less))

-- a number below 2 ^ 64 takes 16 digits at most
pub record SpellsShort (number : ℕ) (written : List ℕ) : Type 0 where
  pub spells : Spells 16 number written
  pub short : length written ≤ 16

pub radix_spells : (number : ℕ) → number < 2 ^ 64 → SpellsShort number (radix_digits 16 false number)
unfolding digits
radix_spells number h =
    let short : Short 16 number 16 [] (digits_onto 64 16 false number []) = short_digits 15 48 number [] (omega (arith, h)) in
    let same : digits_onto 64 16 false number [] ≡ short.written = short.same ∙ append-nil short.written in
    subst (SpellsShort number) (sym same) (record { spells = short.spells; short = short.short })

-- ---- digits are neither blanks nor ends of lines

abbrev pub IsHigh : List ℕ → Type 0
IsHigh bytes = All (λ byte. 48 ≤ byte) bytes

pub digit_high : (byte base : ℕ) → base ≤ 16 → is_digit byte base ≡ true → 48 ≤ byte
digit_high byte base few h =
    let low : digit_value byte < base = ltb-true (digit_value byte) base h in
    grind (arith, low, few)

pub all_high : (base : ℕ) (written : List ℕ) → base ≤ 16 → list_all (λ byte. is_digit byte base) written ≡ true → IsHigh written
all_high base [] few e = All-nil (λ byte. 48 ≤ byte)
all_high base (digit ∷ written) few e =
    let parts : (is_digit digit base ≡ true) × (list_all (λ byte. is_digit byte base) written ≡ true) = and_parts (is_digit digit base) _ e in
    All-cons (λ byte. 48 ≤ byte) digit written (digit_high digit base few parts.0) (all_high base written few parts.1)

pub spelled_high : (base number : ℕ) (written : List ℕ) → base ≤ 16 → Spells base number written → IsHigh written
spelled_high base number written few s = all_high base written few s.all

-- the digits that are written of any number
pub last_high : (base count number : ℕ) → 0 < base → base ≤ 16 → IsHigh (last_digits base count number)
last_high base count number some few = all_high base (last_digits base count number) few (last_all base some few count number)
