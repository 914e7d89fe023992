-- The numbers of a plan text in digits, read again.
use Rattle.std.proofs.Common.{◌≡◌, ◌<◌, ◌≤◌, ◌^◌, ℕ, ◌∷◌, length, Some, arith}
use Rattle.std.proofs.lemmas.List.Elements.{All-cons}
use Rattle.fab_text.specs.Digits.{last_digits}
use Rattle.fab_text.specs.Fields.{hex}
use Rattle.fab_text.proofs.Spelled.{Spells, IsHigh, length-last, last_spells, last_high}
use Rattle.fab_text.proofs.SpelledFields.{hex_spelled}
use Rattle.fab_dump.specs.Writing.{hex4, hex16, port3, two}

pub lid_read : (lid : ℕ) → lid < 2 ^ 16 → hex 4 (hex4 lid) ≡ Some lid
unfolding hex4
lid_read lid h = hex_spelled 4 lid (last_digits 16 4 lid) (last_spells 16 4 lid (omega arith) (omega arith) (omega arith) (omega (arith, h))) (omega (arith, length-last 16 4 lid))

pub guid_read : (guid : ℕ) → guid < 2 ^ 64 → hex 16 (hex16 guid) ≡ Some guid
unfolding hex16
guid_read guid h = hex_spelled 16 guid (last_digits 16 16 guid) (last_spells 16 16 guid (omega arith) (omega arith) (omega arith) (omega (arith, h))) (omega (arith, length-last 16 16 guid))

pub port_spelled : (port : ℕ) → port < 256 → Spells 10 port (port3 port)
unfolding port3
port_spelled port h = last_spells 10 3 port (omega arith) (omega arith) (omega arith) (omega (arith, h))

pub length-port : (port : ℕ) → length (port3 port) ≡ 3
unfolding port3
length-port port = length-last 10 3 port

pub two_spelled : (n : ℕ) → n < 16 → Spells 10 n (two n)
unfolding two
two_spelled n h = last_spells 10 2 n (omega arith) (omega arith) (omega arith) (omega (arith, h))

-- ---- digits are neither blanks nor ends of lines

pub hex4_high : (lid : ℕ) → IsHigh (hex4 lid)
unfolding hex4
hex4_high lid = All-cons (λ byte. 48 ≤ byte) 48 (120 ∷ last_digits 16 4 lid) (omega arith) (All-cons (λ byte. 48 ≤ byte) 120 (last_digits 16 4 lid) (omega arith) (last_high 16 4 lid (omega arith) (omega arith)))

pub hex16_high : (guid : ℕ) → IsHigh (hex16 guid)
unfolding hex16
hex16_high guid = All-cons (λ byte. 48 ≤ byte) 48 (120 ∷ last_digits 16 16 guid) (omega arith) (All-cons (λ byte. 48 ≤ byte) 120 (last_digits 16 16 guid) (omega arith) (last_high 16 16 guid (omega arith) (omega arith)))

pub port_high : (port : ℕ) → IsHigh (port3 port)
unfolding port3
port_high port = last_high 10 3 port (omega arith) (omega arith)

pub two_high : (n : ℕ) → IsHigh (two n)
unfolding two
two_high n = last_high 10 2 n (omega arith) (omega arith)
