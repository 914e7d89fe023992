-- The loops that put the lines of numbered rows, a row at a time.
use Rattle.std.proofs.Common.{◌≡◌, ◌<◌, ◌≤◌, ◌+◌, ℕ, List, [], ◌++◌, Option, Ok, Err, length, take, drop, sym, subst, ap, ◌∙◌}
use Rattle.std.specs.Prelude.{slice_get, IfSome}
use Rattle.std.specs.List.{flat_map, enumerate_from}
use Rattle.std.proofs.lemmas.List.{take-append-drop}
use Rattle.std.proofs.lemmas.List.Concat.{flat_map-append}
use Rattle.fab_dump.specs.declared.write.WriteFault.{WriteFault}
use Rattle.fab_dump.specs.declared.write.WriteFault.TheVariants.{Memory}
use Rattle.fab_dump.specs.Writing.{lines_text, PutsText}
use Rattle.fab_dump.proofs.Writing.Puts.{then_put, stopped, no_memory}
use Rattle.fab_dump.proofs.Writing.Rows.{Row, some_row, lines-append, lines_of_row, all_rows}

module _ {X : Type 0} (lines : ℕ × X → List (List ℕ)) (rows : List X) where
  split : (n : ℕ) → lines_text (flat_map lines (take n (enumerate_from 0 rows))) ++ lines_text (flat_map lines (drop n (enumerate_from 0 rows))) ≡ lines_text (flat_map lines (enumerate_from 0 rows))
  split n =
      sym (lines-append (flat_map lines (take n (enumerate_from 0 rows))) (flat_map lines (drop n (enumerate_from 0 rows))))
      ∙ ap lines_text (sym (flat_map-append lines (take n (enumerate_from 0 rows)) (drop n (enumerate_from 0 rows))))
      ∙ ap (λ some. lines_text (flat_map lines some)) (take-append-drop n (enumerate_from 0 rows))

  -- what was pushed into an empty buffer is the next row's lines
  next : (n : ℕ) (cleared pushed piece : List ℕ) → n < length rows → cleared ≡ [] → IfSome (slice_get rows n) (λ row. pushed ≡ cleared ++ lines_text (lines (n, row))) → piece ≡ pushed
      → lines_text (flat_map lines (take n (enumerate_from 0 rows))) ++ piece ≡ lines_text (flat_map lines (take (n + 1) (enumerate_from 0 rows)))
  next n cleared pushed piece h empty told same =
      let here : Row rows n = some_row rows n h in
      let added : pushed ≡ cleared ++ lines_text (lines (n, here.row)) = subst (λ found. IfSome found (λ row. pushed ≡ cleared ++ lines_text (lines (n, row)))) here.found told in
      let is : piece ≡ lines_text (lines (n, here.row)) = same ∙ added ∙ ap (λ (front : List ℕ). front ++ lines_text (lines (n, here.row))) empty in
      ap (λ (last : List ℕ). lines_text (flat_map lines (take n (enumerate_from 0 rows))) ++ last) is ∙ sym (lines_of_row lines rows n here.row here.found)

  module _ (n : ℕ) {before between : Option (List ℕ)} {count counting : ℕ} (so_far : PutsText (lines_text (flat_map lines (take n (enumerate_from 0 rows)))) before between count counting (Ok tt)) where
    -- all rows were put
    pub rows_put : length rows ≤ n → PutsText (lines_text (flat_map lines (enumerate_from 0 rows))) before between count counting (Ok tt)
    rows_put h = subst (λ some. PutsText (lines_text (flat_map lines some)) before between count counting (Ok tt)) (all_rows rows n h) so_far

    -- no memory was left for the next row
    pub row_refused : (refused : _) → PutsText (lines_text (flat_map lines (enumerate_from 0 rows))) before between count counting (Err (Memory refused))
    row_refused refused =
        subst (λ (text : List ℕ). PutsText text before between count counting (Err (Memory refused))) (split n)
        (then_put (lines_text (flat_map lines (take n (enumerate_from 0 rows)))) (lines_text (flat_map lines (drop n (enumerate_from 0 rows)))) (Err (Memory refused)) so_far
        (no_memory (lines_text (flat_map lines (drop n (enumerate_from 0 rows)))) between counting refused))

    module _ (cleared pushed piece : List ℕ) {now : Option (List ℕ)} {counted : ℕ} (h : n < length rows) (empty : cleared ≡ []) (told : IfSome (slice_get rows n) (λ row. pushed ≡ cleared ++ lines_text (lines (n, row)))) (same : piece ≡ pushed) where
      -- the next row was put
      pub row_put : PutsText piece between now counting counted (Ok tt) → PutsText (lines_text (flat_map lines (take (n + 1) (enumerate_from 0 rows)))) before now count counted (Ok tt)
      row_put one =
          subst (λ (text : List ℕ). PutsText text before now count counted (Ok tt)) (next n cleared pushed piece h empty told same)
          (then_put (lines_text (flat_map lines (take n (enumerate_from 0 rows)))) piece (Ok tt) so_far one)

      -- its put stopped
      pub row_stopped : (fault : WriteFault) → PutsText piece between now counting counted (Err fault) → PutsText (lines_text (flat_map lines (enumerate_from 0 rows))) before now count counted (Err fault)
      row_stopped fault one =
          let until : PutsText (lines_text (flat_map lines (take (n + 1) (enumerate_from 0 rows)))) before now count counted (Err fault) =
          subst (λ (text : List ℕ). PutsText text before now count counted (Err fault)) (next n cleared pushed piece h empty told same)
          (then_put (lines_text (flat_map lines (take n (enumerate_from 0 rows)))) piece (Err fault) so_far one) in
          subst (λ (text : List ℕ). PutsText text before now count counted (Err fault)) (split (n + 1))
          (stopped (lines_text (flat_map lines (take (n + 1) (enumerate_from 0 rows)))) (lines_text (flat_map lines (drop (n + 1) (enumerate_from 0 rows)))) fault until)
