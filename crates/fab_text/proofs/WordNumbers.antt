-- The numbers that whole words are, by the digits that are read in them.
use Rattle.std.proofs.Common.{◌≡◌, ℕ, ◌+◌, ◌^◌, ◌<◌, Bool, true, false, cond, not, ◌&&◌, List, [], ◌∷◌, Option, Some, None, length, nat_lt, nat_le, refl, sym, ap, ◌∙◌, arith, codes, eq-eqb}
use Rattle.std.specs.Prelude.{◌==◌, if◌then◌else◌}
use Rattle.std.specs.List.{list_all, starts_with}
use Rattle.std.specs.Char.{is_digit}
use Rattle.std.proofs.lemmas.Bool.{ne_eqb, and_right}
use Rattle.std.proofs.lemmas.Bool.Decides.{nat_tests}
use Rattle.std.proofs.lemmas.List.Sums.{take_while-cons}
use Rattle.fab_text.specs.Digits.{digits_at_front, number_spelled}
use Rattle.fab_text.specs.Fields.{dec_up_to, hex}
use Rattle.fab_text.specs.Fronts.{dec_at, hex_at}

-- ---- digits and nothing else

abbrev are_digits : ℕ → List ℕ → Bool
are_digits base bytes = list_all (λ byte. is_digit byte base) bytes

-- the digits at the front are all, or fewer than there are bytes
record ByDigits (base : ℕ) (bytes : List ℕ) (all : Bool) (digits : List ℕ) : Type 0 where
  whole : all ≡ true → digits ≡ bytes
  fewer : all ≡ false → length digits < length bytes

by_digits_step : (base byte : ℕ) (bytes : List ℕ) (test : Bool) → ByDigits base bytes (are_digits base bytes) (digits_at_front base bytes)
    → ByDigits base (byte ∷ bytes) (test && are_digits base bytes) (cond test (byte ∷ digits_at_front base bytes) [])
by_digits_step base byte bytes true later = record {
  whole = λ e. ap (λ (digits : List ℕ). byte ∷ digits) (later.whole e);
  fewer = λ e. omega (arith, later.fewer e);
}
by_digits_step base byte bytes false later = record { whole = λ e. cc; fewer = λ e. omega arith }

by_digits : (base : ℕ) (bytes : List ℕ) → ByDigits base bytes (are_digits base bytes) (digits_at_front base bytes)
by_digits base [] = record { whole = λ e. refl; fewer = λ e. cc }
by_digits base (byte ∷ bytes) =
    rw (take_while-cons (λ byte. is_digit byte base) byte bytes) (by_digits_step base byte bytes (is_digit byte base) (by_digits base bytes))

-- ---- numbers that end with their word

-- the number that was read, where it ends there
abbrev pub ends_at : ℕ → Option (ℕ × ℕ) → Option ℕ
ends_at end None = None
ends_at end (Some read) = if read.1 == end then Some read.0 else None

abbrev pub at_most : ℕ → Option ℕ → Option ℕ
at_most greatest None = None
at_most greatest (Some number) = if nat_le number greatest then Some number else None

whole : (test : Bool) (end number : ℕ) → ends_at end (cond test (Some (number, end)) None) ≡ cond test (Some number) None
whole true end number = ap (λ test. if test then Some number else None) (eq-eqb end end refl)
whole false end number = refl

fewer : (test : Bool) (end number last : ℕ) → last < end → ends_at end (cond test (Some (number, last)) None) ≡ None
fewer true end number last h = ap (λ test. if test then Some number else None) (ne_eqb last end (λ e. omega (arith, e, h)))
fewer false end number last h = refl

-- ---- hexadecimal

hex_tests : (end count : ℕ) → end ≡ 2 + count → (nat_lt 2 end && nat_le end 18 && true) ≡ (not (count == 0) && nat_lt count 17)
hex_tests end count size = grind (arith, nat_tests, size)

hex_by : (end : ℕ) (bytes digits : List ℕ) (all : Bool) → end ≡ 2 + length bytes → ByDigits 16 bytes all digits
    → cond (nat_lt 2 end && nat_le end 18 && all) (Some (number_spelled 16 bytes)) None
    ≡ ends_at end (cond (not (length digits == 0) && nat_lt (length digits) 17) (Some (number_spelled 16 digits, 2 + length digits)) None)
hex_by end bytes digits true size by =
    rw (by.whole refl, ← size)
    (ap (λ test. cond test (Some (number_spelled 16 bytes)) None) (hex_tests end (length bytes) size) ∙ sym (whole _ end (number_spelled 16 bytes)))
hex_by end bytes digits false size by =
    ap (λ test. cond test (Some (number_spelled 16 bytes)) None) (and_right (nat_lt 2 end && nat_le end 18) false refl)
    ∙ sym (fewer _ end (number_spelled 16 digits) (2 + length digits) (omega (arith, size, by.fewer refl)))

pub hex_is : (word : List ℕ) → starts_with (λ x y. x == y) word (codes "0x") ≡ true → hex 16 word ≡ ends_at (length word) (hex_at word 2)
hex_is [] e = cc
hex_is (a ∷ []) e = let no : false ≡ true = sym (and_right (48 == a) false refl) ∙ e in cc
hex_is (a ∷ b ∷ bytes) e =
    let end : ℕ = length (a ∷ b ∷ bytes) in
    ap (λ test. cond (test && nat_lt 2 end && nat_le end 18 && are_digits 16 bytes) (Some (number_spelled 16 bytes)) None) e
    ∙ hex_by end bytes (digits_at_front 16 bytes) (are_digits 16 bytes) (omega arith) (by_digits 16 bytes)

-- ---- decimal

some_bytes : (count : ℕ) → (nat_lt 0 count && nat_le count count && true) ≡ not (count == 0)
some_bytes count = grind (arith, nat_tests)

from_0 : (count : ℕ) → 0 + count ≡ count
from_0 count = omega arith

-- a number that isn't too great fits
capped : (some fits : Bool) (greatest number : ℕ) → (nat_le number greatest ≡ true → fits ≡ true)
    → cond (some && nat_le number greatest) (Some number) None ≡ at_most greatest (cond (some && fits) (Some number) None)
capped false fits greatest number h = refl
capped true true greatest number h = refl
capped true false greatest number h =
    elim (nat_le number greatest) as (λ test. (test ≡ true → false ≡ true) → cond test (Some number) None ≡ None) [
      | true ↦ λ no. let wrong : false ≡ true = no refl in cc
      | false ↦ λ no. refl
    ] h

low_fits : (greatest number : ℕ) → greatest < 2 ^ 64 → nat_le number greatest ≡ true → nat_lt number (2 ^ 64) ≡ true
low_fits greatest number h e = grind (arith, nat_tests, h, e)

dec_by : (bytes digits : List ℕ) (all : Bool) (greatest : ℕ) → greatest < 2 ^ 64 → ByDigits 10 bytes all digits
    → cond (nat_lt 0 (length bytes) && nat_le (length bytes) (length bytes) && all && nat_le (number_spelled 10 bytes) greatest) (Some (number_spelled 10 bytes)) None
    ≡ at_most greatest (ends_at (length bytes) (cond (not (length digits == 0) && nat_lt (number_spelled 10 digits) (2 ^ 64)) (Some (number_spelled 10 digits, 0 + length digits)) None))
dec_by bytes digits true greatest h by =
    let number : ℕ = number_spelled 10 bytes in
    rw (by.whole refl, from_0 (length bytes))
    (ap (λ test. cond (test && nat_le number greatest) (Some number) None) (some_bytes (length bytes))
    ∙ capped (not (length bytes == 0)) (nat_lt number (2 ^ 64)) greatest number (low_fits greatest number h) ∙ ap (at_most greatest) (sym (whole _ (length bytes) number)))
dec_by bytes digits false greatest h by =
    ap (λ test. cond (test && nat_le (number_spelled 10 bytes) greatest) (Some (number_spelled 10 bytes)) None) (and_right (nat_lt 0 (length bytes) && nat_le (length bytes) (length bytes)) false refl)
    ∙ ap (at_most greatest) (sym (fewer _ (length bytes) (number_spelled 10 digits) (0 + length digits) (omega (arith, by.fewer refl))))

pub dec_is : (greatest : ℕ) (word : List ℕ) → greatest < 2 ^ 64 → dec_up_to greatest word ≡ at_most greatest (ends_at (length word) (dec_at word 0))
dec_is greatest word h = dec_by word (digits_at_front 10 word) (are_digits 10 word) greatest h (by_digits 10 word)
