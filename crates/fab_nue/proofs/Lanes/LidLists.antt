-- Whether a number stands in an ascending list of LIDs, by binary search.
use Rattle.std.proofs.Common.{◌≡◌, ℕ, ◌+◌, ◌<◌, ◌≤◌, Bool, true, false, eqb, not, ◌||◌, List, [], ◌∷◌, cond, length, map, refl, arith}
use Rattle.std.specs.Prelude.{AllPairs, ◌==◌}
use Rattle.std.specs.List.{list_any, position_or_len}
use Rattle.std.specs.List.Sorted.{IsStrictlyIncreasing}
use Rattle.std.proofs.lemmas.List.{get_or-map, length-map}
use Rattle.std.proofs.lemmas.List.Kept.{AllPairs-from_increasing}
use Rattle.fab_model.specs.declared.rows.Lid.{Lid}

-- a test of the numbers passes where one is found before the end
pub any_at : (sought : ℕ) (lids : List Lid) →
    (position_or_len (λ (lid : Lid). eqb lid.0 sought) lids < length lids → list_any (λ one. one == sought) (map (λ (lid : Lid). lid.0) lids) ≡ true)
    × (length lids ≤ position_or_len (λ (lid : Lid). eqb lid.0 sought) lids → list_any (λ one. one == sought) (map (λ (lid : Lid). lid.0) lids) ≡ false)
any_at sought [] = ((λ h. absurd (omega (arith, h))), (λ h. refl))
any_at sought (x ∷ xs) = go (eqb x.0 sought) (any_at sought xs)
  where
    go : (b : Bool) →
        (position_or_len (λ (lid : Lid). eqb lid.0 sought) xs < length xs → list_any (λ one. one == sought) (map (λ (lid : Lid). lid.0) xs) ≡ true)
        × (length xs ≤ position_or_len (λ (lid : Lid). eqb lid.0 sought) xs → list_any (λ one. one == sought) (map (λ (lid : Lid). lid.0) xs) ≡ false) →
        (cond (not b) (1 + position_or_len (λ (lid : Lid). eqb lid.0 sought) xs) 0 < length (x ∷ xs) → (b || list_any (λ one. one == sought) (map (λ (lid : Lid). lid.0) xs)) ≡ true)
        × (length (x ∷ xs) ≤ cond (not b) (1 + position_or_len (λ (lid : Lid). eqb lid.0 sought) xs) 0 → (b || list_any (λ one. one == sought) (map (λ (lid : Lid). lid.0) xs)) ≡ false)
    go true rest = ((λ h. refl), (λ h. absurd (omega (arith, h))))
    go false rest = ((λ h. rest.0 (omega (arith, h))), (λ h. rest.1 (omega (arith, h))))

pub lids_rise : (lids : List Lid) → IsStrictlyIncreasing (map (λ (lid : Lid). lid.0) lids) → AllPairs (λ first second. first.0 < second.0) lids
lids_rise lids up i j d less low = omega (
  arith,
  AllPairs-from_increasing (map (λ (lid : Lid). lid.0) lids) up i j 0 less (omega (arith, low, length-map lids (λ (lid : Lid). lid.0))),
  get_or-map (λ (lid : Lid). lid.0) lids i d 0 (omega (arith, less, low)),
  get_or-map (λ (lid : Lid). lid.0) lids j d 0 low,
)
