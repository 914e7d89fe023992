-- Values in one list, LID by LID or switch by switch.
use Rattle.std.proofs.Common.{◌≡◌, ℕ, zero, suc, ◌+◌, ◌*◌, ◌<◌, List, [], ◌∷◌, ◌++◌, length, sym, ◌∙◌, ap, arith, map, get_or}
use Rattle.std.specs.Prelude.{flat_map}
use Rattle.std.specs.List.{range_with_len}
use Rattle.std.proofs.lemmas.List.{get_or-map, get_or_append_left, get_or-append-add, length-map, length-append}
use Rattle.std.proofs.lemmas.List.FromFn.{get_or-map-range_with_len, length-map-range_with_len}
use Rattle.fab_tables.specs.Entries.{cell}
use Rattle.fab_export.specs.SaidPlan.{by_lid}

-- ---- LID by LID

module _ {A : Type 0} (switches : ℕ) (value : ℕ → ℕ → A) where
  pub length-by_lid : (lids : List ℕ) → length (by_lid switches lids value) ≡ length lids * switches
  length-by_lid [] = omega arith
  length-by_lid (lid ∷ lids) =
      let column : List A = map (λ s. value s lid) (range_with_len 0 switches) in
      let here : length (by_lid switches (lid ∷ lids) value) ≡ length column + length (by_lid switches lids value) = length-append column (by_lid switches lids value) in
      omega (arith, here, length-map-range_with_len (λ s. value s lid) 0 switches, length-by_lid lids)

  pub lid_cell : (lids : List ℕ) (i s d : ℕ) (e : A) → s < switches → i < length lids → get_or (by_lid switches lids value) (cell switches i s) e ≡ value s (get_or lids i d)
  lid_cell [] i s d e low within = absurd (omega (arith, within))
  lid_cell (lid ∷ lids) zero s d e low within =
      let column : List A = map (λ s. value s lid) (range_with_len 0 switches) in
      let size : length column ≡ switches = length-map-range_with_len (λ s. value s lid) 0 switches in
      let place : cell switches 0 s ≡ s = omega arith in
      ap (λ n. get_or (column ++ by_lid switches lids value) n e) place
      ∙ get_or_append_left column (by_lid switches lids value) e s (omega (arith, size, low))
      ∙ get_or-map-range_with_len (λ s. value s lid) 0 switches s s e low (omega arith)
  lid_cell (lid ∷ lids) (suc i) s d e low within =
      let column : List A = map (λ s. value s lid) (range_with_len 0 switches) in
      let size : length column ≡ switches = length-map-range_with_len (λ s. value s lid) 0 switches in
      let place : cell switches (suc i) s ≡ length column + cell switches i s = omega (arith, size) in
      ap (λ n. get_or (column ++ by_lid switches lids value) n e) place
      ∙ get_or-append-add column (by_lid switches lids value) (cell switches i s) e
      ∙ lid_cell lids i s d e low (omega (arith, within))

-- ---- switch by switch

module _ {A : Type 0} (keys : List ℕ) (value : ℕ → ℕ → A) where
  pub row_cell : (from count s i d : ℕ) (e : A) → s < count → i < length keys → get_or (flat_map (λ s. map (value s) keys) (range_with_len from count)) (cell (length keys) s i) e ≡ value (from + s) (get_or keys i d)
  row_cell from zero s i d e low within = absurd (omega arith)
  row_cell from (suc count) zero i d e low within =
      let row : List A = map (value from) keys in
      let behind : List A = flat_map (λ s. map (value s) keys) (range_with_len (from + 1) count) in
      let size : length row ≡ length keys = length-map keys (value from) in
      let place : cell (length keys) 0 i ≡ i = omega arith in
      let same : from + 0 ≡ from = omega arith in
      ap (λ n. get_or (row ++ behind) n e) place
      ∙ get_or_append_left row behind e i (omega (arith, size, within))
      ∙ get_or-map (value from) keys i d e within
      ∙ ap (λ n. value n (get_or keys i d)) (sym same)
  row_cell from (suc count) (suc s) i d e low within =
      let row : List A = map (value from) keys in
      let behind : List A = flat_map (λ s. map (value s) keys) (range_with_len (from + 1) count) in
      let size : length row ≡ length keys = length-map keys (value from) in
      let place : cell (length keys) (suc s) i ≡ length row + cell (length keys) s i = omega (arith, size) in
      let next : (from + 1) + s ≡ from + suc s = omega arith in
      ap (λ n. get_or (row ++ behind) n e) place
      ∙ get_or-append-add row behind (cell (length keys) s i) e
      ∙ row_cell (from + 1) count s i d e (omega arith) within
      ∙ ap (λ n. value n (get_or keys i d)) next
