-- One more than the greatest lane of the levels in use.
use Rattle.std.proofs.Common.{◌≡◌, ℕ, ◌+◌, ◌<◌, inl, inr, Bool, true, false, cond, List, [], ◌∷◌, ◌++◌, map, refl, sym, ◌∙◌, ap, arith}
use Rattle.std.specs.Prelude.{max, filter, fold, slice_index_or}
use Rattle.std.specs.List.{range_with_len}
use Rattle.std.proofs.lemmas.List.{map-append}
use Rattle.std.proofs.lemmas.List.Sums.{fold-append}
use Rattle.std.proofs.lemmas.List.FromFn.{get_or-map-range_with_len}
use Rattle.fab_model.specs.Topology.{Topology}
use Rattle.fab_model.proofs.Lists.Members.{In, from_filter}
use Rattle.fab_model.proofs.Lists.Found.{from_range}
use Rattle.fab_model.proofs.Tables.{filter_range_more}
use Rattle.fab_tables.specs.Entries.{Entries}
use Rattle.fab_tables.specs.LaneTables.{LaneTables, lane}
use Rattle.fab_export.specs.LevelsInUse.{all_levels, is_in_use, levels_in_use, written_lane, written_map, written_count}
use Rattle.fab_export.proofs.MarkedLevels.{agree_on, used_at}
use Rattle.fab_export.proofs.ListTests.{chosen_if}

-- of the first levels, by marks and a map
abbrev pub greatest_to : List ℕ → List Bool → ℕ → ℕ
greatest_to written used n = fold max 0 (map (λ k. slice_index_or written k 0 + 1) (filter (λ k. slice_index_or used k false) (range_with_len 0 n)))

one_level : (written : List ℕ) (used : List Bool) (n : ℕ) (b : Bool) → slice_index_or used n false ≡ b →
    greatest_to written used (n + 1) ≡ fold max (greatest_to written used n) (map (λ k. slice_index_or written k 0 + 1) (cond b (n ∷ []) []))
one_level written used n b is =
    ap (λ ks. fold max 0 (map (λ k. slice_index_or written k 0 + 1) ks)) (filter_range_more (λ k. slice_index_or used k false) n ∙ ap (λ c. filter (λ k. slice_index_or used k false) (range_with_len 0 n) ++ cond c (n ∷ []) []) is)
    ∙ ap (fold max 0) (map-append (λ k. slice_index_or written k 0 + 1) (filter (λ k. slice_index_or used k false) (range_with_len 0 n)) (cond b (n ∷ []) []))
    ∙ fold-append max 0 (map (λ k. slice_index_or written k 0 + 1) (filter (λ k. slice_index_or used k false) (range_with_len 0 n))) (map (λ k. slice_index_or written k 0 + 1) (cond b (n ∷ []) []))

pub used_raises : (written : List ℕ) (used : List Bool) (n count now : ℕ) → slice_index_or used n false ≡ true → count ≡ greatest_to written used n → now ≡ max count (slice_index_or written n 0 + 1) → now ≡ greatest_to written used (n + 1)
used_raises written used n count now is so_far raised = raised ∙ ap (λ k. max k (slice_index_or written n 0 + 1)) so_far ∙ sym (one_level written used n true is)

pub other_stays : (written : List ℕ) (used : List Bool) (n count : ℕ) → slice_index_or used n false ≡ false → count ≡ greatest_to written used n → count ≡ greatest_to written used (n + 1)
other_stays written used n count is so_far = so_far ∙ sym (one_level written used n false is)

map_same : (f g : ℕ → ℕ) (xs : List ℕ) → ((x : ℕ) → In x xs → f x ≡ g x) → map f xs ≡ map g xs
map_same f g [] same = refl
map_same f g (x ∷ xs) same = ap (λ y. y ∷ map f xs) (same x (inl refl)) ∙ ap (λ ys. g x ∷ ys) (map_same f g xs (λ y within. same y (inr within)))

pub count_is : (t : Topology) (e : Entries) (l : LaneTables) (written : List ℕ) (used : List Bool) (n : ℕ) → used ≡ map (is_in_use t e l) all_levels → written ≡ written_map t e l → n ≡ 16 → greatest_to written used n ≡ written_count t e l
unfolding written_map
count_is t e l written used n are is all =
    ap (greatest_to written used) all
    ∙ ap (λ ks. fold max 0 (map (λ k. slice_index_or written k 0 + 1) ks)) (agree_on (λ k. slice_index_or used k false) (is_in_use t e l) all_levels (λ k within. used_at t e l used are k (low k within)))
    ∙ ap (fold max 0) (map_same (λ k. slice_index_or written k 0 + 1) (λ k. lane l 0 k + 1) (levels_in_use t e l) lane_is)
  where
    low : (k : ℕ) → In k all_levels → k < 16
    low k within = omega (arith, (from_range 0 16 k within).1)

    lane_is : (k : ℕ) → In k (levels_in_use t e l) → slice_index_or written k 0 + 1 ≡ lane l 0 k + 1
    lane_is k within =
        let both = from_filter (is_in_use t e l) all_levels k within in
        ap (λ (n : ℕ). n + 1)
        (ap (λ (xs : List ℕ). slice_index_or xs k 0) is ∙ get_or-map-range_with_len (written_lane t e l) 0 16 k k 0 (low k both.0) (omega arith) ∙ chosen_if (is_in_use t e l k) (lane l 0 k) 15 both.1)
