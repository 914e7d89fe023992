-- A text row by row.
use Rattle.std.proofs.Common.{◌≡◌, ◌<◌, ◌≤◌, ◌+◌, ℕ, zero, suc, List, [], ◌∷◌, ◌++◌, Some, length, take, refl, sym, subst, ap, ◌∙◌, arith, add-one}
use Rattle.std.specs.Prelude.{slice_get, IfSome}
use Rattle.std.specs.List.{flat_map, enumerate_from}
use Rattle.std.proofs.lemmas.List.{flat_map_more, take_all}
use Rattle.std.proofs.lemmas.List.FromFn.{length-enumerate_from}
use Rattle.fab_netdiscover.proofs.OnAdapters.{take_one_more}

pub record Row {X : Type 0} (xs : List X) (n : ℕ) : Type 0 where
  pub row : X
  pub found : slice_get xs n ≡ Some row

pub some_row : {X : Type 0} (xs : List X) (n : ℕ) → n < length xs → Row xs n
some_row [] n h = absurd (omega (arith, h))
some_row (x ∷ xs) zero h = record { row = x; found = refl }
some_row (x ∷ xs) (suc n) h =
    let later : Row xs n = some_row xs n (omega (arith, h)) in
    record { row = later.row; found = later.found }

numbered : {X : Type 0} (xs : List X) (from n : ℕ) (x : X) → slice_get xs n ≡ Some x → slice_get (enumerate_from from xs) n ≡ Some (from + n, x)
numbered [] from n x e = cc
numbered (y ∷ xs) from zero x e = let same : from + 0 ≡ from = omega arith in cc
numbered (y ∷ xs) from (suc n) x e = numbered xs (from + 1) n x e ∙ ap (λ (m : ℕ). Some (m, x)) (omega arith)

-- one row more
pub row_added : {X : Type 0} (piece : ℕ × X → List ℕ) (rows : List X) (before old now : List ℕ) (n : ℕ) → n < length rows → old ≡ before ++ flat_map piece (take n (enumerate_from 0 rows))
    → IfSome (slice_get rows n) (λ row. now ≡ old ++ piece (n, row)) → now ≡ before ++ flat_map piece (take (n + 1) (enumerate_from 0 rows))
row_added piece rows before old now n h e k =
    let here : Row rows n = some_row rows n h in
    let added : now ≡ old ++ piece (n, here.row) = subst (λ found. IfSome found (λ row. now ≡ old ++ piece (n, row))) here.found k in
    let place : slice_get (enumerate_from 0 rows) n ≡ Some (n, here.row) = numbered rows 0 n here.row here.found ∙ ap (λ (m : ℕ). Some (m, here.row)) (omega arith) in
    let more : take (n + 1) (enumerate_from 0 rows) ≡ take n (enumerate_from 0 rows) ++ (n, here.row) ∷ [] = ap (λ (m : ℕ). take m (enumerate_from 0 rows)) (add-one n) ∙ take_one_more (enumerate_from 0 rows) n (n, here.row) place in
    added ∙ ap (λ (front : List ℕ). front ++ piece (n, here.row)) e ∙ flat_map_more piece before (take n (enumerate_from 0 rows)) (n, here.row)
    ∙ ap (λ rows. before ++ flat_map piece rows) (sym more)

pub all_rows : {X : Type 0} (piece : ℕ × X → List ℕ) (rows : List X) (before now : List ℕ) (n : ℕ) → length rows ≤ n → now ≡ before ++ flat_map piece (take n (enumerate_from 0 rows))
    → now ≡ before ++ flat_map piece (enumerate_from 0 rows)
all_rows piece rows before now n h e =
    let size : length (enumerate_from 0 rows) ≤ n = omega (arith, length-enumerate_from 0 rows, h) in
    e ∙ ap (λ rows. before ++ flat_map piece rows) (take_all n (enumerate_from 0 rows) size)
