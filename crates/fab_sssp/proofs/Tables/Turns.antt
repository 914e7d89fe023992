-- The weights while LID after LID is laid are those of the finished tables at each LID's turn.
use Rattle.std.proofs.Common.{◌≡◌, ℕ, ◌+◌, ◌<◌, ◌≤◌, Bool, true, false, List, [], ◌∷◌, ◌++◌, Option, length, take, drop, refl, sym, ◌∙◌, ap, inl, inr, ◌⊎◌, arith}
use Rattle.std.specs.Prelude.{slice_index, slice_index_or, nat_lt, filter, All}
use Rattle.std.specs.List.Sorted.{IsStrictlyIncreasing}
use Rattle.std.proofs.lemmas.Bool.{lt-ltb, le-ltb, cases_lt}
use Rattle.std.proofs.lemmas.List.{take-append-drop, append-nil, get_or-take, get_or-drop, get_or_default, length-take-le, length-drop}
use Rattle.std.proofs.lemmas.List.Elements.{All-head, All-tail, filter-append}
use Rattle.std.proofs.lemmas.List.Kept.{AllPairs-from_increasing}
use Rattle.std.proofs.lemmas.List.Sums.{sum_by_more}
use Rattle.fab_model.specs.Topology.{Topology, lids_of}
use Rattle.fab_tables.specs.Entries.{Entries}
use Rattle.fab_sssp.specs.Carried.{terminals_carried, weight_after, smaller_lids}
use Rattle.fab_sssp.specs.LeastWeightTables.{weight_at}
use Rattle.fab_tables.specs.TreeWalks.{terminals_through}
use Rattle.fab_tables.proofs.Paths.TreeRoutes.{IsTreeOf}
use Rattle.fab_sssp.proofs.Tables.LaidTrees.{through_carried}
use Rattle.fab_sssp.proofs.Tables.WeightsSame.{SameEntries, weight_after-same}

pub filter-all : {X : Type 0} (p : X → Bool) (xs : List X) → All (λ x. p x ≡ true) xs → filter p xs ≡ xs
filter-all p [] h = refl
filter-all p (x ∷ xs) h =
    let here : p x ≡ true = All-head (λ x. p x ≡ true) x xs h in
    let rest = filter-all p xs (All-tail (λ x. p x ≡ true) x xs h) in
    rw (here, rest)

pub filter-none : {X : Type 0} (p : X → Bool) (xs : List X) → All (λ x. p x ≡ false) xs → filter p xs ≡ []
filter-none p [] h = refl
filter-none p (x ∷ xs) h =
    let here : p x ≡ false = All-head (λ x. p x ≡ false) x xs h in
    let rest = filter-none p xs (All-tail (λ x. p x ≡ false) x xs h) in
    rw here rest

-- in an ascending list the smaller numbers are those before
pub smaller-take : (xs : List ℕ) (k : ℕ) → IsStrictlyIncreasing xs → k < length xs → filter (λ other. nat_lt other (slice_index xs k)) xs ≡ take k xs
smaller-take xs k up low =
    ap (λ ys. filter p ys) (sym (take-append-drop k xs)) ∙ filter-append p (take k xs) (drop k xs)
    ∙ ap (λ ys. ys ++ filter p (drop k xs)) (filter-all p (take k xs) before) ∙ ap (λ ys. take k xs ++ ys) (filter-none p (drop k xs) after) ∙ append-nil (take k xs)
  where
    p : ℕ → Bool
    p other = nat_lt other (slice_index xs k)

    before : All (λ x. p x ≡ true) (take k xs)
    before j d h =
        let first : j < k = omega (arith, h, length-take-le k xs (omega (arith, low))) in
        lt-ltb _ _ (omega (arith, get_or-take k xs j d first, get_or_default xs j d 0 (omega (arith, first, low)), AllPairs-from_increasing xs up j k 0 first low))

    after : All (λ x. p x ≡ false) (drop k xs)
    after j d h =
        let within : k + j < length xs = omega (arith, h, length-drop k xs, low) in
        le-ltb _ _ (omega (arith, get_or-drop k xs j d, get_or_default xs (k + j) d 0 within, no_less j within (cases_lt 0 j)))
      where
        no_less : (j : ℕ) → k + j < length xs → (0 < j) ⊎ (j ≤ 0) → slice_index_or xs k 0 ≤ slice_index_or xs (k + j) 0
        no_less j within (inl some) = omega (arith, AllPairs-from_increasing xs up k (k + j) 0 (omega (arith, some)) within)
        no_less j within (inr none) = let same : k + j ≡ k = omega (arith, none) in omega (arith, ap (λ i. slice_index_or xs i 0) same)

-- the LIDs smaller than one in use are those before it
pub smaller_lids-take : (t : Topology) (k : ℕ) → IsStrictlyIncreasing (lids_of t) → k < length (lids_of t) → smaller_lids t (slice_index (lids_of t) k) ≡ take k (lids_of t)
smaller_lids-take t k up low = smaller-take (lids_of t) k up low

-- one more LID is laid
pub weight_after_more : (t : Topology) (e : Entries) (laid : List ℕ) (k channel : ℕ) → k < length laid →
    weight_after t e (take (k + 1) laid) channel ≡ weight_after t e (take k laid) channel + terminals_carried t e (slice_index laid k) channel
weight_after_more t e laid k channel low = omega (arith, sum_by_more (λ lid. terminals_carried t e lid channel) laid k 0 low)

-- the finished tables have the entries of the tables so far for the LIDs laid: then the running weights are theirs at the next LID's turn
pub running_weight : (t : Topology) (e finished : Entries) (k channel : ℕ) → IsStrictlyIncreasing (lids_of t) → k < length (lids_of t) →
    All (λ lid. SameEntries e finished lid) (take k (lids_of t)) →
    weight_after t e (take k (lids_of t)) channel ≡ weight_at t finished (slice_index (lids_of t) k) channel
running_weight t e finished k channel up low same =
    weight_after-same t e finished (take k (lids_of t)) channel same ∙ ap (λ laid. weight_after t finished laid channel) (sym (smaller_lids-take t k up low))

-- what a tree adds when one more LID is laid
pub raised_weight : (t : Topology) (e new : Entries) (tree : List (Option ℕ)) (k channel : ℕ) → k < length (lids_of t) →
    All (λ lid. SameEntries e new lid) (take k (lids_of t)) → IsTreeOf t new (slice_index (lids_of t) k) tree →
    weight_after t new (take (k + 1) (lids_of t)) channel ≡ weight_after t e (take k (lids_of t)) channel + terminals_through t tree channel
raised_weight t e new tree k channel low same is = omega (
  arith,
  weight_after_more t new (lids_of t) k channel low,
  weight_after-same t e new (take k (lids_of t)) channel same,
  through_carried t new (slice_index (lids_of t) k) tree is channel,
)
