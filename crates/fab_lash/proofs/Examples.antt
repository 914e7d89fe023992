-- A worked example: on RING5 with one lane the pair of switches 2 and 4 needs another one.
use Rattle.std.proofs.Common.{◌≡◌, ℕ, zero, suc, [], ◌∷◌, inl, inr, refl, arith}
use Rattle.fab_model.specs.Connected.{LeadsTo}
use Rattle.fab_tables.specs.Route.{route}
use Rattle.fab_tables.proofs.Examples.Fabrics.{channel}
use Rattle.fab_tables.proofs.Examples.MoreFabrics.{ring5, ring5_entries}
use Rattle.fab_lash.specs.Pairs.{IsPair, own_lid}
use Rattle.fab_lash.specs.Layerings.{FitsLane, layer_of_two}

-- the channels of port 1 are 0, 2, 4, 6, 8
from_2_to_4 : (route ring5 ring5_entries 2 (own_lid ring5 4)).channels ≡ 4 ∷ 6 ∷ []
from_2_to_4 = refl

from_3_to_0 : (route ring5 ring5_entries 3 (own_lid ring5 0)).channels ≡ 6 ∷ 8 ∷ []
from_3_to_0 = refl

one_two : LeadsTo ring5 1 2
one_two = (channel 1 1 2 2, (2, omega arith, refl), refl, refl)

zero_one : LeadsTo ring5 0 1
zero_one = (channel 0 1 1 2, (0, omega arith, refl), refl, refl)

two_three : LeadsTo ring5 2 3
two_three = (channel 2 1 3 2, (4, omega arith, refl), refl, refl)

zero_four : LeadsTo ring5 0 4
zero_four = (channel 0 2 4 1, (1, omega arith, refl), refl, refl)

three_four : LeadsTo ring5 3 4
three_four = (channel 3 1 4 2, (6, omega arith, refl), refl, refl)

pair_0_2 : IsPair ring5 0 2
pair_0_2 = (omega arith, (2, (1, zero_one, (2, one_two, refl))))

pair_0_3 : IsPair ring5 0 3
pair_0_3 = (omega arith, (3, (1, zero_one, (2, one_two, (3, two_three, refl)))))

pair_1_3 : IsPair ring5 1 3
pair_1_3 = (omega arith, (2, (2, one_two, (3, two_three, refl))))

pair_1_4 : IsPair ring5 1 4
pair_1_4 = (omega arith, (3, (2, one_two, (3, two_three, (4, three_four, refl)))))

-- 0 → 2 → 4 → 6 → 8 → 0: by the pairs (0, 2), (1, 3), this one, (0, 3) and (1, 4)
pub closes : (layer : ℕ → ℕ → ℕ) → ((a b : ℕ) → layer a b ≡ 0) → ¬ FitsLane ring5 ring5_entries layer 2 4 0
closes layer all_0 fits = fits 0 (
  4,
  (
    2,
    inr (0, 2, pair_0_2, inl (omega arith), all_0 0 2, inl (0, refl, refl)),
    (
      4,
      inr (1, 3, pair_1_3, inl (omega arith), all_0 1 3, inl (0, refl, refl)),
      (
        6,
        inl (inl (0, refl, refl)),
        (
          8,
          inr (0, 3, pair_0_3, inl (omega arith), all_0 0 3, inr (0, refl, refl)),
          (0, inr (1, 4, pair_1_4, inl (omega arith), all_0 1 4, inr (0, refl, refl)), refl),
        ),
      ),
    ),
  ),
)

-- with two lanes the source 2 and the LIDs of switch 4 are on lane 1
abbrev layer : ℕ → ℕ → ℕ
layer zero b = 0
layer (suc zero) b = 0
layer (suc (suc zero)) b = 1
layer (suc (suc (suc a))) b = 0

level_2_4 : layer_of_two layer 4 2 ≡ 1
level_2_4 = refl
