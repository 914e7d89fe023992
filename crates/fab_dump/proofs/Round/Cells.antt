-- Where statements write in rows of cells.
use Rattle.std.proofs.Common.{◌≡◌, ℕ, ◌*◌, ◌/◌, ◌%◌, ◌<◌, List, length, get_or, refl, sym, ap, subst, arith, Option, Some, inl, inr}
use Rattle.std.specs.Prelude.{slice_get}
use Rattle.std.specs.List.{enumerate_from}
use Rattle.std.specs.List.Sorted.{IsStrictlyIncreasing}
use Rattle.std.proofs.lemmas.Bool.{cases_eq}
use Rattle.std.proofs.lemmas.Nat.{div-add-mod', div_below, mod_below}
use Rattle.std.proofs.lemmas.Option.{slice_get-get_or}
use Rattle.fab_tables.specs.Entries.{index_of, cell}
use Rattle.fab_dump.proofs.Reading.LongRows.{index_at}
use Rattle.fab_dump.proofs.Round.Writes.{Has, Has-at, Has-numbered, WritesTo}
use Rattle.fab_dump.proofs.Round.Folds.{column_write}

-- the row and the column of a cell
pub record Place (width rows i : ℕ) : Type 0 where
  pub row : ℕ
  pub column : ℕ
  pub row_low : row < rows
  pub column_low : column < width
  pub at : cell width row column ≡ i

pub place_of : (width rows i : ℕ) → i < rows * width → Place width rows i
place_of width rows i low = record {
  row = i / width;
  column = i % width;
  row_low = div_below i width rows some low;
  column_low = mod_below i width some;
  at = div-add-mod' i width;
}
  where
    some : 0 < width
    some = elim (cases_eq width 0) [ inl e ↦ absurd (omega (arith, low, ap (λ w. rows * w) e)) | inr e ↦ omega (arith, e) ]

pub row_there : {X : Type 0} (rows : List X) (k : ℕ) (row : X) → slice_get rows k ≡ Some row → Has (k, row) (enumerate_from 0 rows)
row_there rows k row e = subst (λ (n : ℕ). Has (n, row) (enumerate_from 0 rows)) (omega arith) (Has-numbered 0 rows k row e)

module _ (lids : List ℕ) (j : ℕ) (low : j < length lids) where
  pub lid_there : Has (get_or lids j 0) lids
  lid_there = Has-at lids j (get_or lids j 0) (slice_get-get_or lids j 0 low)

  pub lid_place : IsStrictlyIncreasing lids → index_of (get_or lids j 0) lids ≡ Some j
  lid_place up = index_at lids j (get_or lids j 0) up (slice_get-get_or lids j 0 low)

  -- a write in the column of the LID
  pub column_written : {X : Type 0} (switches s : ℕ) (new : X) → IsStrictlyIncreasing lids → WritesTo (cell switches j s) (column_write switches s new (index_of (get_or lids j 0) lids))
  column_written switches s new up = subst (λ (place : Option ℕ). WritesTo (cell switches j s) (column_write switches s new place)) (sym (lid_place up)) (inl refl)
