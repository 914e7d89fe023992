-- Decimal digits that are written from the last to the first.
use Rattle.std.proofs.Common.{◌≡◌, ℕ, ◌+◌, ◌-◌, ◌/◌, ◌%◌, ◌^◌, ◌≤◌, ◌<◌, [], ◌∷◌, List, ◌++◌, length, drop, set, sym, ap, ◌∙◌, arith}
use Rattle.std.specs.Prelude.{decimal}
use Rattle.std.proofs.lemmas.Fmt.{decimal_step, decimal_digit}
use Rattle.std.proofs.lemmas.List.{append_assoc, drop-set, length-append}

-- the bytes from a place on after a write before it
behind : (place digit : ℕ) (buffer : List ℕ) → 0 < place → place ≤ length buffer → drop (place - 1) (set buffer (place - 1) digit) ≡ digit ∷ drop place buffer
behind place digit buffer some h =
    let within : place - 1 < length buffer = omega (arith, some, h) in
    let same : place - 1 + 1 ≡ place = omega (arith, some) in
    drop-set buffer (place - 1) digit within ∙ ap (λ (n : ℕ). digit ∷ drop n buffer) same

-- one digit more
pub decimal_more : (number place : ℕ) (buffer : List ℕ) → 10 ≤ number → number < 2 ^ 64 → 0 < place → place ≤ length buffer
    → decimal (number / 10) ++ drop (place - 1) (set buffer (place - 1) (48 + number % 10)) ≡ decimal number ++ drop place buffer
decimal_more number place buffer low fits some h =
    ap (λ (bytes : List ℕ). decimal (number / 10) ++ bytes) (behind place (48 + number % 10) buffer some h)
    ∙ sym (append_assoc (decimal (number / 10)) ((48 + number % 10) ∷ []) (drop place buffer))
    ∙ ap (λ (bytes : List ℕ). bytes ++ drop place buffer) (sym (decimal_step number low fits))

-- the first digit
pub decimal_first : (number place : ℕ) (buffer : List ℕ) → number < 10 → 0 < place → place ≤ length buffer
    → drop (place - 1) (set buffer (place - 1) (48 + number)) ≡ decimal number ++ drop place buffer
decimal_first number place buffer low some h =
    behind place (48 + number) buffer some h ∙ ap (λ (bytes : List ℕ). bytes ++ drop place buffer) (sym (decimal_digit number low))

pub decimal_longer : (number : ℕ) → 10 ≤ number → number < 2 ^ 64 → length (decimal number) ≡ length (decimal (number / 10)) + 1
decimal_longer number low fits = ap length (decimal_step number low fits) ∙ length-append (decimal (number / 10)) ((48 + number % 10) ∷ [])
