-- Fields that spell numbers, read again.
use Rattle.std.proofs.Common.{◌≡◌, ◌≤◌, ◌+◌, ℕ, true, ◌&&◌, List, ◌++◌, length, Some, None, ap, ◌∙◌, arith, codes, nat_lt, nat_le}
use Rattle.std.specs.Prelude.{if◌then◌else◌}
use Rattle.std.specs.List.{list_all}
use Rattle.std.specs.Char.{is_digit}
use Rattle.std.proofs.lemmas.Bool.{and_from, lt-ltb, le-leb}
use Rattle.fab_text.specs.Digits.{number_spelled}
use Rattle.fab_text.specs.Fields.{dec, dec_up_to, hex}
use Rattle.fab_text.proofs.Spelled.{Spells}

pub dec_spelled : (digits greatest number : ℕ) (field : List ℕ) → Spells 10 number field → length field ≤ digits → number ≤ greatest → dec digits greatest field ≡ Some number
dec_spelled digits greatest number field s short low =
    ap (λ b. if b then Some (number_spelled 10 field) else None)
    (and_from (nat_lt 0 (length field) && nat_le (length field) digits && list_all (λ byte. is_digit byte 10) field) (nat_le (number_spelled 10 field) greatest)
    (and_from (nat_lt 0 (length field) && nat_le (length field) digits) (list_all (λ byte. is_digit byte 10) field)
    (and_from (nat_lt 0 (length field)) (nat_le (length field) digits) (lt-ltb 0 (length field) s.some) (le-leb (length field) digits short)) s.all)
    (le-leb (number_spelled 10 field) greatest (omega (arith, s.value, low))))
    ∙ ap (λ n. Some n) s.value

pub dec_up_to_spelled : (greatest number : ℕ) (field : List ℕ) → Spells 10 number field → number ≤ greatest → dec_up_to greatest field ≡ Some number
dec_up_to_spelled greatest number field s low = dec_spelled (length field) greatest number field s (omega arith) low

pub hex_spelled : (digits number : ℕ) (written : List ℕ) → Spells 16 number written → length written ≤ digits → hex digits (codes "0x" ++ written) ≡ Some number
hex_spelled digits number written s short =
    ap (λ b. if b then Some (number_spelled 16 written) else None)
    (and_from (true && nat_lt 2 (length (codes "0x" ++ written)) && nat_le (length (codes "0x" ++ written)) (2 + digits)) (list_all (λ byte. is_digit byte 16) written)
    (and_from (true && nat_lt 2 (length (codes "0x" ++ written))) (nat_le (length (codes "0x" ++ written)) (2 + digits))
    (lt-ltb 2 (length (codes "0x" ++ written)) (omega (arith, s.some))) (le-leb (length (codes "0x" ++ written)) (2 + digits) (omega (arith, short)))) s.all)
    ∙ ap (λ n. Some n) s.value
