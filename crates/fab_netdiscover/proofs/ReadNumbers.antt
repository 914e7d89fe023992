-- Written numbers, read again.
use Rattle.std.proofs.Common.{◌≡◌, ◌<◌, ◌≤◌, ◌^◌, ℕ, Bool, true, false, cond, ◌&&◌, not, List, [], ◌∷◌, ◌++◌, length, drop, refl, sym, subst, ap, ◌∙◌, arith, nat_lt}
use Rattle.std.specs.Prelude.{Ok, Err, ◌==◌}
use Rattle.std.proofs.lemmas.Bool.{lt-ltb}
use Rattle.fab_text.specs.Digits.{number_spelled}
use Rattle.fab_text.proofs.Spelled.{Spells, EndsDigits, front_digits, last_spells, length-last}
use Rattle.fab_netdiscover.specs.declared.fault.BadKind.{BadKind}
use Rattle.fab_netdiscover.specs.declared.fault.LineFault.TheVariants.{Bad}
use Rattle.fab_netdiscover.specs.Fronts.{Read, number_at, number_from, guid_at, guid_from}
use Rattle.fab_netdiscover.specs.Writing.{guid16}

drop_front : (written rest : List ℕ) → drop (length written) (written ++ rest) ≡ rest
drop_front [] rest = refl
drop_front (digit ∷ written) rest = drop_front written rest

no_length : (n : ℕ) → 0 < n → (n == 0) ≡ false
no_length n h = grind arith

accepted : (kind : BadKind) (none fits : Bool) (value number : ℕ) (left rest : List ℕ) → none ≡ false → fits ≡ true → value ≡ number → left ≡ rest
    → cond {A = Read ℕ} (not none && fits) (Ok (value, left)) (Err (Bad kind)) ≡ Ok (number, rest)
accepted kind true fits value number left rest a b c d = cc
accepted kind false true value number left rest a b c d = cc
accepted kind false false value number left rest a b c d = cc

pub number_read : (kind : BadKind) (number : ℕ) (written rest : List ℕ) → Spells 10 number written → number < 2 ^ 32 → EndsDigits 10 rest → number_at kind (written ++ rest) ≡ Ok (number, rest)
unfolding number_at
number_read kind number written rest s h e =
    ap (λ (read : List ℕ). number_from kind read (written ++ rest)) (front_digits 10 written rest s.all e)
    ∙ accepted kind (length written == 0) (nat_lt (number_spelled 10 written) (2 ^ 32)) (number_spelled 10 written) number (drop (length written) (written ++ rest)) rest
    (no_length (length written) s.some) (lt-ltb (number_spelled 10 written) (2 ^ 32) (subst (λ (n : ℕ). n < 2 ^ 32) (sym s.value) h)) s.value (drop_front written rest)

pub guid_read : (kind : BadKind) (guid : ℕ) (written rest : List ℕ) → Spells 16 guid written → length written ≤ 16 → EndsDigits 16 rest → guid_at kind (written ++ rest) ≡ Ok (guid, rest)
unfolding guid_at
guid_read kind guid written rest s h e =
    ap (λ (read : List ℕ). guid_from kind read (written ++ rest)) (front_digits 16 written rest s.all e)
    ∙ accepted kind (length written == 0) (nat_lt (length written) 17) (number_spelled 16 written) guid (drop (length written) (written ++ rest)) rest
    (no_length (length written) s.some) (lt-ltb (length written) 17 (omega (arith, h))) s.value (drop_front written rest)

pub guid16_spells : (guid : ℕ) → guid < 2 ^ 64 → Spells 16 guid (guid16 guid)
unfolding guid16
guid16_spells guid h = last_spells 16 16 guid (omega arith) (omega arith) (omega arith) (omega (arith, h))

pub length-guid16 : (guid : ℕ) → length (guid16 guid) ≤ 16
unfolding guid16
length-guid16 guid = omega (arith, length-last 16 16 guid)
