-- A search for distances under way: switches are settled one after the other, of those that are offered a distance the nearest first.
use Rattle.std.specs.Prelude.{◌≡◌, ℕ, ◌+◌, ◌*◌, ◌<◌, ◌≤◌, ◌⊎◌, List, ◌∷◌, length, Option, None, Some, is_some, All, Contains, IsPermutation, count_by, slice_index_or, slice_set}
use Rattle.std.specs.Ordering.{nat_cmp, ordering_then}
use Rattle.std.specs.declared.cmp.Ordering.{Ordering}
use Rattle.std.specs.declared.cmp.Reverse.{Reverse}
use Rattle.fab_model.specs.Topology.{Topology, IsReverse, first_channel}
use Rattle.fab_tables.specs.Route.{tip}
use Rattle.fab_tables.specs.Trees.{LeavesSwitch}

-- a switch, and a distance that it is offered, as the heap holds them
abbrev pub Offer : Type 0
Offer = Reverse (ℕ × ℕ)

abbrev pub offer_of : ℕ → ℕ → Offer
offer_of distance switch = record { 0 = (distance, switch) }

abbrev pub offered_distance : Offer → ℕ
offered_distance o = o.0.0

abbrev pub offered_switch : Offer → ℕ
offered_switch o = o.0.1

-- the order of the heap, which gives the greatest first: that is the nearest
abbrev pub nearest_last : Offer → Offer → Ordering
nearest_last x y = ordering_then (nat_cmp y.0.0 x.0.0) (nat_cmp y.0.1 x.0.1)

-- no weight is greater than 2^40: it is at most 1 + 2^39 at first, and raised by 2^28 at most
abbrev pub weight_limit : ℕ
weight_limit = 1099511627776

-- the switch is settled at the number
abbrev pub IsFound : List (Option ℕ) → ℕ → ℕ → Type 0
IsFound found s n = slice_index_or found s None ≡ Some n

-- 0 at the destination; elsewhere the number comes along a channel to a settled switch, which is nearer
abbrev pub IsAttained : Topology → (ℕ → ℕ) → ℕ → List (Option ℕ) → ℕ → ℕ → Type 0
IsAttained t weight to found s n =
    ((s ≡ to) × (n ≡ 0)) ⊎ ((c m : ℕ) × LeavesSwitch t c s × IsFound found (tip t c) m × (n ≡ weight c + m) × (m < n))

-- the switch is settled at no more, or no more is offered to it
abbrev pub IsReached : List (Option ℕ) → List Offer → ℕ → ℕ → Type 0
IsReached found offers s n = ((m : ℕ) × IsFound found s m × (m ≤ n)) ⊎ ((m : ℕ) × Contains offers (offer_of m s) × (m ≤ n))

-- the numbers that are kept for some switches are offers or greater than these
pub record AreReached (t : Topology) (found : List (Option ℕ)) (offers : List Offer) (least : List (Option ℕ)) : Type 0 where
  pub each_switch : length least ≡ length t.switches
  pub each : (s n : ℕ) → IsFound least s n → IsReached found offers s n

-- a distance is offered to a switch: it was offered no more before, and nothing changes; or the offer stands, and is the least so far
abbrev pub MakesOffer : ℕ → ℕ → List Offer → List (Option ℕ) → List Offer → List (Option ℕ) → Type 0
MakesOffer n s offers least offers' least' =
    ((m : ℕ) × IsFound least s m × (m ≤ n) × (offers' ≡ offers) × (least' ≡ least))
    ⊎ (IsPermutation (offer_of n s ∷ offers) offers' × (least' ≡ slice_set least s (Some n)))

-- The channels for which `IsOffered` holds have offered what they give by way of the settled switches.
pub record IsNearing (t : Topology) (weight : ℕ → ℕ) (to : ℕ) (found : List (Option ℕ)) (offers : List Offer) (IsOffered : ℕ → Type 0) : Type 0 where
  pub each_switch : length found ≡ length t.switches
  pub low : All (λ o. offered_switch o < length t.switches) offers
  pub small : All (λ o. offered_distance o ≤ count_by is_some found * weight_limit) offers
  pub farther : (s n : ℕ) → IsFound found s n → All (λ o. n ≤ offered_distance o) offers
  pub attained : (s n : ℕ) → IsFound found s n → IsAttained t weight to found s n
  pub backed : (s n : ℕ) → Contains offers (offer_of n s) → IsAttained t weight to found s n
  pub begun : IsReached found offers to 0
  pub relaxed : (s c m : ℕ) → IsOffered c → LeavesSwitch t c s → IsFound found (tip t c) m → IsReached found offers s (weight c + m)

-- every channel has
abbrev pub IsAnyChannel : ℕ → Type 0
IsAnyChannel c = Unit {0}

-- those that lead to other switches have
abbrev pub LeadsElsewhere : Topology → ℕ → ℕ → Type 0
LeadsElsewhere t s c = ¬ (tip t c ≡ s)

-- those too whose reverse is among the first channels of the switch
abbrev pub LeadsElsewhereOrBefore : Topology → ℕ → ℕ → ℕ → Type 0
LeadsElsewhereOrBefore t s bound c = LeadsElsewhere t s c ⊎ ((l : ℕ) × (first_channel t s ≤ l) × (l < bound) × IsReverse t l c)
