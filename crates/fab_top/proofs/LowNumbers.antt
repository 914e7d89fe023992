-- How great the numbers of words are, and hexadecimal numbers of few digits.
use Rattle.std.proofs.Common.{◌≡◌, ℕ, ◌<◌, ◌≤◌, ◌^◌, ◌&&◌, Bool, true, false, List, Option, Some, None, length, drop, codes, nat_lt, subst, sym, ap, ◌∙◌, arith, eq-eqb}
use Rattle.std.specs.Prelude.{◌==◌, if◌then◌else◌, IfSome}
use Rattle.std.specs.Char.{is_digit}
use Rattle.std.specs.List.{list_all, starts_with}
use Rattle.std.proofs.lemmas.Bool.{le-leb}
use Rattle.fab_text.specs.Digits.{number_spelled}
use Rattle.fab_text.specs.Fields.{dec_up_to, hex}
use Rattle.fab_text.specs.Fronts.{dec_at, hex_at}
use Rattle.fab_dump.proofs.Reading.FieldNumbers.{not_too_great, hex_fits}
use Rattle.fab_text.proofs.WordNumbers.{at_most, ends_at, dec_is, hex_is}
use Rattle.fab_top.specs.Words.{has_leading_zero, number_in}

-- what is not refused for a leading zero
unless_zero : (b : Bool) (greatest : ℕ) (read : Option ℕ) → IfSome read (λ number. number ≤ greatest) → IfSome (if b then None else read) (λ number. number ≤ greatest)
unless_zero true greatest read low = tt
unless_zero false greatest read low = low

pub number_is_low : (greatest : ℕ) (word : List ℕ) → IfSome (number_in greatest word) (λ number. number ≤ greatest)
number_is_low greatest word = unless_zero (has_leading_zero word) greatest (dec_up_to greatest word) (not_too_great (length word) greatest word)

pub number_is : (greatest : ℕ) (word : List ℕ) → has_leading_zero word ≡ false → greatest < 2 ^ 64 → number_in greatest word ≡ at_most greatest (ends_at (length word) (dec_at word 0))
number_is greatest word zero h = ap (λ (test : Bool). if test then None else dec_up_to greatest word) zero ∙ dec_is greatest word h

-- ---- hexadecimal numbers of at most four digits

pub short_hex_is : (word : List ℕ) → starts_with (λ x y. x == y) word (codes "0x") ≡ true → length word ≤ 6 → hex 4 word ≡ ends_at (length word) (hex_at word 2)
short_hex_is word begun short =
    ap (λ test. if starts_with (λ x y. x == y) word (codes "0x") && nat_lt 2 (length word) && test && list_all (λ byte. is_digit byte 16) (drop 2 word) then Some (number_spelled 16 (drop 2 word)) else None)
    (le-leb (length word) 6 short ∙ sym (le-leb (length word) 18 (omega (arith, short))))
    ∙ hex_is word begun

pub short_hex_is_low : (word : List ℕ) (number end : ℕ) → starts_with (λ x y. x == y) word (codes "0x") ≡ true → length word ≤ 6 → hex_at word 2 ≡ Some (number, end) → end ≡ length word → number < 65536
short_hex_is_low word number end begun short read at =
    let is : hex 4 word ≡ Some number =
    short_hex_is word begun short ∙ ap (ends_at (length word)) read ∙ ap (λ (test : Bool). if test then Some number else None) (eq-eqb end (length word) at) in
    let P : Option ℕ → Type 0 = λ o. IfSome o (λ n. n < 16 ^ 4) in
    let low : number < 16 ^ 4 = subst P is (hex_fits 4 word) in omega (arith, low)
