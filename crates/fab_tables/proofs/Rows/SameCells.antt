-- Rows one after the other are given by their cells, and an ascending list by the places of its numbers.
use Rattle.std.proofs.Common.{◌≡◌, ℕ, ◌*◌, ◌/◌, ◌%◌, ◌<◌, ◌≤◌, List, length, sym, ◌∙◌, ap, subst, inl, inr, ◌⊎◌, refl, arith, Some, None, Option}
use Rattle.std.specs.Prelude.{slice_get, slice_index_or}
use Rattle.std.specs.List.Sorted.{IsStrictlyIncreasing}
use Rattle.std.proofs.lemmas.Bool.{cases_lt, cases_order}
use Rattle.std.proofs.lemmas.List.{ext_get_or, get_or_default}
use Rattle.std.proofs.lemmas.List.Kept.{AllPairs-from_increasing}
use Rattle.std.proofs.lemmas.Nat.{div-add-mod', div_below, mod_below}
use Rattle.std.proofs.lemmas.Option.{get_or_from_slice_get}
use Rattle.fab_tables.specs.Entries.{index_of, cell}
use Rattle.fab_tables.proofs.Rows.Cells.{index_found, index_there}

-- a list of rows, one after the other, is given by its cells
pub same_cells : {A : Type 0} (xs ys : List A) (rows width : ℕ) (d : A) → length xs ≡ rows * width → length ys ≡ rows * width →
    ((row column : ℕ) → row < rows → column < width → slice_index_or xs (cell width row column) d ≡ slice_index_or ys (cell width row column) d) → xs ≡ ys
same_cells xs ys rows width d whole_x whole_y same = ext_get_or d xs ys (whole_x ∙ sym whole_y) (λ k low. at k (omega (arith, low, whole_x)) (cases_lt 0 width))
  where
    at : (k : ℕ) → k < rows * width → (0 < width) ⊎ (width ≤ 0) → slice_index_or xs k d ≡ slice_index_or ys k d
    at k low (inl some) = subst (λ n. slice_index_or xs n d ≡ slice_index_or ys n d) (div-add-mod' k width) (same (k / width) (k % width) (div_below k width rows some low) (mod_below k width some))
    at k low (inr none) = absurd (omega (arith, low, ap (λ n. rows * n) nought))
      where
        nought : width ≡ 0
        nought = omega (arith, none)

-- in an ascending list each place is that of its number
pub one_place : (xs : List ℕ) (i j : ℕ) → IsStrictlyIncreasing xs → i < length xs → j < length xs → slice_index_or xs i 0 ≡ slice_index_or xs j 0 → i ≡ j
one_place xs i j up a b same = elim (cases_order i j) [
  | inl e ↦ e
  | inr (inl less) ↦ absurd (omega (arith, same, AllPairs-from_increasing xs up i j 0 less b))
  | inr (inr more) ↦ absurd (omega (arith, same, AllPairs-from_increasing xs up j i 0 more a))
]

pub place_is : (xs : List ℕ) (i : ℕ) → IsStrictlyIncreasing xs → i < length xs → index_of (slice_index_or xs i 0) xs ≡ Some i
place_is xs i up low = go (slice_index_or xs i 0) refl (index_of (slice_index_or xs i 0) xs) refl
  where
    go : (n : ℕ) → slice_index_or xs i 0 ≡ n → (o : Option ℕ) → index_of n xs ≡ o → o ≡ Some i
    go n at None is = absurd (index_there n xs i low (get_or_default xs i n 0 low ∙ at) is)
    go n at (Some j) is =
        let found : (j < length xs) × (slice_get xs j ≡ Some n) = index_found n xs j is in
        ap (λ k. Some k) (one_place xs j i up found.0 low (get_or_from_slice_get xs j n 0 found.1 ∙ sym at))
