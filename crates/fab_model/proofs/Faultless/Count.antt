-- There are no more channels than ports.
use Rattle.std.proofs.Common.{ℕ, ◌+◌, ◌*◌, ◌<◌, ◌≤◌, inl, inr, List, [], ◌∷◌, length, refl, arith}
use Rattle.fab_model.specs.declared.rows.ChannelRow.{ChannelRow}
use Rattle.fab_model.specs.Faults.{switch_limit, port_limit}
use Rattle.fab_model.specs.WellFormed.{GoesBefore}
use Rattle.fab_model.proofs.Lists.Members.{In, Pairs, pairs_weaker}

-- rising numbers between two bounds
rising_count : {X : Type 0} (f : X → ℕ) (xs : List X) (low high : ℕ) → low ≤ high → Pairs (λ x y. f x < f y) xs → ((x : X) → In x xs → low < f x) → ((x : X) → In x xs → f x ≤ high) → low + length xs ≤ high
rising_count f [] low high between pairs above below = omega arith
rising_count f (x ∷ xs) low high between pairs above below =
    let here = above x (inl refl) in
    let rest = rising_count f xs (f x) high (below x (inl refl)) pairs.1 pairs.0 (λ y within. below y (inr within)) in
    omega (arith, here, rest)

-- a port of a switch, as a number
abbrev slot : ChannelRow → ℕ
slot row = row.tail.0 * 254 + row.port

slots_rise : (x y : ChannelRow) → 0 < x.port → x.port ≤ 254 → 0 < y.port → GoesBefore x y → slot x < slot y
slots_rise x y some within other (inl less) = omega (arith, less)
slots_rise x y some within other (inr both) = omega (arith, both.0, both.1)

pub channels_within : (channels : List ChannelRow) → Pairs GoesBefore channels → ((x : ChannelRow) → In x channels → x.tail.0 < switch_limit) → ((x : ChannelRow) → In x channels → 0 < x.port) → ((x : ChannelRow) → In x channels → x.port ≤ port_limit) → length channels ≤ switch_limit * port_limit
channels_within channels rise tails low high =
    let counted : 0 + length channels ≤ switch_limit * port_limit =
    rising_count slot channels 0 (switch_limit * port_limit) (omega arith)
    (pairs_weaker GoesBefore (λ (x y : ChannelRow). slot x < slot y) channels
    (λ x y in_x in_y goes. slots_rise x y (low x in_x) (high x in_x) (low y in_y) goes) rise)
    (λ x within. omega (arith, low x within))
    (λ x within. omega (arith, tails x within, high x within))
    in omega (arith, counted)
