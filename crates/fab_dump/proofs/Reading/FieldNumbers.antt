-- The number that a field is.
use Rattle.std.proofs.Common.{◌≡◌, ℕ, ◌+◌, ◌^◌, ◌<◌, ◌≤◌, ◌*◌, suc, lit<, IfSome, Bool, true, false, cond, List, [], ◌∷◌, length, drop, get_or, Some, None, Option, ◌&&◌, ◌⊎◌, inl, inr, nat_lt, nat_le, refl, sym, ◌∙◌, ap, arith}
use Rattle.std.specs.Prelude.{◌==◌, if◌then◌else◌, codes}
use Rattle.std.specs.List.{list_all, starts_with}
use Rattle.std.specs.Char.{digit_value, is_digit}
use Rattle.std.proofs.Math.Nat.{mul-le-mul_right, pow-succ', pow-le-pow_right}
use Rattle.std.proofs.lemmas.List.{length-drop}
use Rattle.std.proofs.lemmas.Bool.{and_from, and_left, and_parts, and_right, cond_both, leb-true, le-leb, lt-ltb}
use Rattle.fab_text.specs.Digits.{number_after, number_spelled}
use Rattle.fab_text.specs.Fields.{dec, hex}
use Rattle.fab_text.proofs.Numbers.{passes_u64}
use Rattle.fab_dump.specs.FieldsLeft.{spelled_in}

abbrev are_digits : ℕ → List ℕ → Bool
are_digits base field = list_all (λ byte. is_digit byte base) field

-- ---- digits, one after the other

module _ (base number : ℕ) (field : List ℕ) where
  answers : (b : Bool) → (are_digits base field && nat_lt (number_spelled base field) (2 ^ 64)) ≡ b → spelled_in base field ≡ (if b then Some (number_spelled base field) else None)
  answers b e = ap (λ v. if v then Some (number_spelled base field) else None) e

  -- the next byte is no digit, or with it the number passes a u64
  pub digit_refused : 0 < base → (left : List ℕ) → 0 < length left → number_after base number left ≡ number_spelled base field → are_digits base left ≡ are_digits base field →
      (is_digit (get_or left 0 0) base ≡ false) ⊎ (2 ^ 64 ≤ number * base + digit_value (get_or left 0 0)) → None ≡ spelled_in base field
  digit_refused some [] low told all why = absurd (omega arith)
  digit_refused some (digit ∷ rest) low told all (inl none) =
      sym (answers false (and_left (are_digits base field) (nat_lt (number_spelled base field) (2 ^ 64)) (sym all ∙ and_left (is_digit digit base) (are_digits base rest) none)))
  digit_refused some (digit ∷ rest) low told all (inr over) =
      sym (answers false (and_right (are_digits base field) (nat_lt (number_spelled base field) (2 ^ 64)) (ap (λ n. nat_lt n (2 ^ 64)) (sym told) ∙ passes_u64 base (number * base + digit_value digit) rest some over)))

-- hexadecimal digits stay below a power of 16
hex_digit : (b : ℕ) → is_digit b 16 ≡ true → digit_value b < 16
hex_digit b h = grind (arith, h)

pub hex_below : (number : ℕ) (digits : List ℕ) → list_all (λ byte. is_digit byte 16) digits ≡ true → number_after 16 number digits < (number + 1) * 16 ^ length digits
hex_below number [] h = omega arith
hex_below number (digit ∷ digits) h =
    let parts : (is_digit digit 16 ≡ true) × (list_all (λ byte. is_digit byte 16) digits ≡ true) = and_parts (is_digit digit 16) (list_all (λ byte. is_digit byte 16) digits) h in
    let one : digit_value digit < 16 = hex_digit digit parts.0 in
    let next : ℕ = number * 16 + digit_value digit in
    let below : number_after 16 next digits < (next + 1) * 16 ^ length digits = hex_below next digits parts.1 in
    let step : next + 1 ≤ (number + 1) * 16 = omega (arith, one) in
    let wider : (next + 1) * 16 ^ length digits ≤ (number + 1) * 16 * 16 ^ length digits = mul-le-mul_right (16 ^ length digits) step in
    let power : 16 ^ suc (length digits) ≡ 16 * 16 ^ length digits = pow-succ' 16 (length digits) in
    let same : (number + 1) * 16 ^ suc (length digits) ≡ (number + 1) * 16 * 16 ^ length digits = ap (λ (p : ℕ). (number + 1) * p) power ∙ omega arith in
    omega (arith, below, wider, same)

hex_fits_if : (digits : ℕ) (field : List ℕ) (b all : Bool) → list_all (λ byte. is_digit byte 16) (drop 2 field) ≡ all →
    IfSome (cond (b && nat_lt 2 (length field) && nat_le (length field) (2 + digits) && all) (Some (number_spelled 16 (drop 2 field))) None) (λ n. n < 16 ^ digits)
hex_fits_if digits field b false e = rw (and_right (b && nat_lt 2 (length field) && nat_le (length field) (2 + digits)) false refl) tt
hex_fits_if digits field b true e = cond_both (b && nat_lt 2 (length field) && nat_le (length field) (2 + digits) && true) (Some (number_spelled 16 (drop 2 field))) None (λ o. IfSome o (λ n. n < 16 ^ digits)) fits (λ no. tt)
  where
    fits : (b && nat_lt 2 (length field) && nat_le (length field) (2 + digits) && true) ≡ true → number_spelled 16 (drop 2 field) < 16 ^ digits
    fits h =
        let short : length field ≤ 2 + digits =
        leb-true (length field) (2 + digits) (and_parts (b && nat_lt 2 (length field)) (nat_le (length field) (2 + digits))
        (and_parts (b && nat_lt 2 (length field) && nat_le (length field) (2 + digits)) true h).0).1 in
        let below : number_spelled 16 (drop 2 field) < (0 + 1) * 16 ^ length (drop 2 field) = hex_below 0 (drop 2 field) e in
        let most : 16 ^ length (drop 2 field) ≤ 16 ^ digits = pow-le-pow_right (lit< tt) (omega (arith, length-drop 2 field)) in
        omega (arith, below, most)

-- so many hexadecimal digits stay below a power of 16
pub hex_fits : (digits : ℕ) (field : List ℕ) → IfSome (hex digits field) (λ n. n < 16 ^ digits)
hex_fits digits field = hex_fits_if digits field _ _ refl

-- a field of `0x` and some hexadecimal digits, but not too many
pub hex_read : (digits : ℕ) (field : List ℕ) → digits < 17 → starts_with (λ x y. x == y) field (codes "0x") ≡ true → 2 < length field → length field ≤ 2 + digits → spelled_in 16 (drop 2 field) ≡ hex digits field
hex_read digits field h begun some short = go (are_digits 16 (drop 2 field)) refl
  where
    n : ℕ
    n = number_spelled 16 (drop 2 field)

    more : (k m : ℕ) → k ≤ m → 16 ^ k ≤ 16 ^ m
    more k m h = pow-le-pow_right (lit< tt) h

    front : (starts_with (λ x y. x == y) field (codes "0x") && nat_lt 2 (length field) && nat_le (length field) (2 + digits)) ≡ true
    front = and_from (starts_with (λ x y. x == y) field (codes "0x") && nat_lt 2 (length field)) (nat_le (length field) (2 + digits))
        (and_from (starts_with (λ x y. x == y) field (codes "0x")) (nat_lt 2 (length field)) begun (lt-ltb 2 (length field) some)) (le-leb (length field) (2 + digits) short)

    go : (all : Bool) → are_digits 16 (drop 2 field) ≡ all → spelled_in 16 (drop 2 field) ≡ hex digits field
    go true e =
        let below : n < (0 + 1) * 16 ^ length (drop 2 field) = hex_below 0 (drop 2 field) e in
        let most : 16 ^ length (drop 2 field) ≤ 16 ^ 16 = more (length (drop 2 field)) 16 (omega (arith, length-drop 2 field)) in
        let fits : n < 2 ^ 64 = omega (arith, below, most) in
        ap (λ b. if b then Some n else None) (and_from (are_digits 16 (drop 2 field)) (nat_lt n (2 ^ 64)) e (lt-ltb n (2 ^ 64) fits))
        ∙ sym (ap (λ b. if b then Some n else None)
        (and_from (starts_with (λ x y. x == y) field (codes "0x") && nat_lt 2 (length field) && nat_le (length field) (2 + digits)) (are_digits 16 (drop 2 field)) front e))
    go false e =
        ap (λ b. if b then Some n else None) (and_left (are_digits 16 (drop 2 field)) (nat_lt n (2 ^ 64)) e)
        ∙ sym (ap (λ b. if b then Some n else None)
        (and_right (starts_with (λ x y. x == y) field (codes "0x") && nat_lt 2 (length field) && nat_le (length field) (2 + digits)) (are_digits 16 (drop 2 field)) e))

-- a number that is read is not too great
pub not_too_great : (digits greatest : ℕ) (field : List ℕ) → IfSome (dec digits greatest field) (λ n. n ≤ greatest)
not_too_great digits greatest field = cond_both (nat_lt 0 (length field) && nat_le (length field) digits && list_all (λ byte. is_digit byte 10) field && nat_le (number_spelled 10 field) greatest)
    (Some (number_spelled 10 field)) None (λ o. IfSome o (λ n. n ≤ greatest))
    (λ h. leb-true (number_spelled 10 field) greatest (and_parts (nat_lt 0 (length field) && nat_le (length field) digits && list_all (λ byte. is_digit byte 10) field) (nat_le (number_spelled 10 field) greatest) h).1)
    (λ no. tt)

pub port_is_low : (field : List ℕ) → IfSome (dec 3 255 field) (λ n. n < 256)
port_is_low field = go (dec 3 255 field) (not_too_great 3 255 field)
  where
    go : (o : Option ℕ) → IfSome o (λ n. n ≤ 255) → IfSome o (λ n. n < 256)
    go None h = tt
    go (Some n) h = omega (arith, h)
