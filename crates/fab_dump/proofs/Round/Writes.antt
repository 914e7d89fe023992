-- Writes to the places of a list, one after the other.
use Rattle.std.proofs.Common.{◌≡◌, ℕ, zero, suc, ◌+◌, ◌<◌, ◌≤◌, List, [], ◌∷◌, ◌++◌, length, map, get_or, set, refl, sym, ◌∙◌, ap, subst, arith, ◌⊎◌, inl, inr}
use Rattle.std.specs.Prelude.{All, Some, slice_get, flat_map}
use Rattle.std.specs.List.{enumerate_from, range_with_len}
use Rattle.std.proofs.lemmas.Bool.{cases_eq}
use Rattle.std.proofs.lemmas.List.{length-set, get_or-set_same, get_or-set_other, ext_get_or}
use Rattle.std.proofs.lemmas.List.Elements.{All-nil, All-head, All-tail, All-append}
use Rattle.fab_tables.proofs.Rows.Cells.{unsome}

-- ---- what stands in a list

abbrev pub Has : {A : Type 0} → A → List A → Type 0
Has x [] = ⊥
Has x (y ∷ ys) = (y ≡ x) ⊎ Has x ys

pub Has-left : {A : Type 0} (x : A) (xs ys : List A) → Has x xs → Has x (xs ++ ys)
Has-left x [] ys h = absurd h
Has-left x (z ∷ xs) ys (inl e) = inl e
Has-left x (z ∷ xs) ys (inr h) = inr (Has-left x xs ys h)

pub Has-right : {A : Type 0} (x : A) (xs ys : List A) → Has x ys → Has x (xs ++ ys)
Has-right x [] ys h = h
Has-right x (z ∷ xs) ys h = inr (Has-right x xs ys h)

pub Has-map : {A B : Type 0} (f : A → B) (x : A) (xs : List A) → Has x xs → Has (f x) (map f xs)
Has-map f x [] h = h
Has-map f x (z ∷ xs) (inl e) = inl (ap f e)
Has-map f x (z ∷ xs) (inr h) = inr (Has-map f x xs h)

pub Has-flat_map : {A B : Type 0} (f : A → List B) (x : A) (xs : List A) (y : B) → Has x xs → Has y (f x) → Has y (flat_map f xs)
Has-flat_map f x [] y h k = absurd h
Has-flat_map f x (z ∷ xs) y (inl e) k = Has-left y (f z) (flat_map f xs) (subst (λ a. Has y (f a)) (sym e) k)
Has-flat_map f x (z ∷ xs) y (inr h) k = Has-right y (f z) (flat_map f xs) (Has-flat_map f x xs y h k)

pub Has-at : {A : Type 0} (xs : List A) (i : ℕ) (x : A) → slice_get xs i ≡ Some x → Has x xs
Has-at [] i x e = cc
Has-at (y ∷ xs) zero x e = inl (unsome y x e)
Has-at (y ∷ xs) (suc i) x e = inr (Has-at xs i x e)

pub Has-numbered : {A : Type 0} (from : ℕ) (xs : List A) (i : ℕ) (x : A) → slice_get xs i ≡ Some x → Has (from + i, x) (enumerate_from from xs)
Has-numbered from [] i x e = cc
Has-numbered from (y ∷ xs) zero x e = inl (ap (λ n. (n, y)) start ∙ ap (λ z. (from + 0, z)) (unsome y x e))
  where
    start : from ≡ from + 0
    start = omega arith
Has-numbered from (y ∷ xs) (suc i) x e = inr (subst (λ n. Has (n, x) (enumerate_from (from + 1) xs)) next (Has-numbered (from + 1) xs i x e))
  where
    next : from + 1 + i ≡ from + suc i
    next = omega arith

pub Has-range : (from n i : ℕ) → i < n → Has (from + i) (range_with_len from n)
Has-range from zero i low = absurd (omega (arith, low))
Has-range from (suc n) zero low = inl (omega arith)
Has-range from (suc n) (suc i) low = inr (subst (λ m. Has m (range_with_len (from + 1) n)) next (Has-range (from + 1) n i (omega (arith, low))))
  where
    next : from + 1 + i ≡ from + suc i
    next = omega arith

-- ---- what holds of each part

pub all_flat_map : {A B : Type 0} (P : B → Type 0) (f : A → List B) (xs : List A) → All (λ x. All P (f x)) xs → All P (flat_map f xs)
all_flat_map P f [] h = All-nil P
all_flat_map P f (x ∷ xs) h =
    All-append P (f x) (flat_map f xs) (All-head (λ y. All P (f y)) x xs h) (all_flat_map P f xs (All-tail (λ y. All P (f y)) x xs h))

pub all_parts : {A B : Type 0} (P : B → Type 0) (f : A → List B) (xs : List A) → ((x : A) → All P (f x)) → All P (flat_map f xs)
all_parts P f xs each = all_flat_map P f xs (λ k d low. each (get_or xs k d))

-- of rows that are numbered
numbered_from : {A B : Type 0} (P : B → Type 0) (f : ℕ × A → List B) (from past : ℕ) (rows : List A) → from + length rows ≤ past → ((n : ℕ) (row : A) → n < past → All P (f (n, row))) → All P (flat_map f (enumerate_from from rows))
numbered_from P f from past [] within each = All-nil P
numbered_from P f from past (row ∷ rows) within each =
    All-append P (f (from, row)) (flat_map f (enumerate_from (from + 1) rows)) (each from row (omega (arith, within))) (numbered_from P f (from + 1) past rows (omega (arith, within)) each)

pub all_numbered_parts : {A B : Type 0} (P : B → Type 0) (f : ℕ × A → List B) (rows : List A) → ((n : ℕ) (row : A) → n < length rows → All P (f (n, row))) → All P (flat_map f (enumerate_from 0 rows))
all_numbered_parts P f rows each = numbered_from P f 0 (length rows) rows (omega arith) each

-- parts of which nothing is taken
pub nothing_of : {A B : Type 0} (f : A → List B) (xs : List A) → All (λ x. f x ≡ []) xs → flat_map f xs ≡ []
nothing_of f [] h = refl
nothing_of f (x ∷ xs) h = ap (λ ys. ys ++ flat_map f xs) (All-head (λ y. f y ≡ []) x xs h) ∙ nothing_of f xs (All-tail (λ y. f y ≡ []) x xs h)

-- ---- writes

abbrev pub write_all : {X : Type 0} → List X → List (ℕ × X) → List X
write_all xs [] = xs
write_all xs (w ∷ ws) = write_all (set xs w.0 w.1) ws

pub write_all-append : {X : Type 0} (xs : List X) (ws vs : List (ℕ × X)) → write_all xs (ws ++ vs) ≡ write_all (write_all xs ws) vs
write_all-append xs [] vs = refl
write_all-append xs (w ∷ ws) vs = write_all-append (set xs w.0 w.1) ws vs

length-write_all : {X : Type 0} (xs : List X) (ws : List (ℕ × X)) → length (write_all xs ws) ≡ length xs
length-write_all xs [] = refl
length-write_all xs (w ∷ ws) = length-write_all (set xs w.0 w.1) ws ∙ length-set xs w.0 w.1

-- one of them is to this place
abbrev pub WritesTo : {X : Type 0} → ℕ → List (ℕ × X) → Type 0
WritesTo i [] = ⊥
WritesTo i (w ∷ ws) = (w.0 ≡ i) ⊎ WritesTo i ws

writes_left : {X : Type 0} (i : ℕ) (ws vs : List (ℕ × X)) → WritesTo i ws → WritesTo i (ws ++ vs)
writes_left i [] vs h = absurd h
writes_left i (w ∷ ws) vs (inl e) = inl e
writes_left i (w ∷ ws) vs (inr h) = inr (writes_left i ws vs h)

writes_right : {X : Type 0} (i : ℕ) (ws vs : List (ℕ × X)) → WritesTo i vs → WritesTo i (ws ++ vs)
writes_right i [] vs h = h
writes_right i (w ∷ ws) vs h = inr (writes_right i ws vs h)

-- a part has such a write
pub writes_of : {A X : Type 0} (f : A → List (ℕ × X)) (xs : List A) (x : A) (i : ℕ) → Has x xs → WritesTo i (f x) → WritesTo i (flat_map f xs)
writes_of f [] x i h to = absurd h
writes_of f (y ∷ xs) x i (inl e) to = writes_left i (f y) (flat_map f xs) (subst (λ z. WritesTo i (f z)) (sym e) to)
writes_of f (y ∷ xs) x i (inr h) to = writes_right i (f y) (flat_map f xs) (writes_of f xs x i h to)

-- it writes what stands in the list, at its place
abbrev pub IsRight : {X : Type 0} → List X → X → ℕ × X → Type 0
IsRight ys d w = w.1 ≡ get_or ys w.0 d

module _ {X : Type 0} (ys : List X) (d : X) where
  set_right : (xs : List X) (w : ℕ × X) (i : ℕ) → length xs ≡ length ys → i < length ys → IsRight ys d w → w.0 ≡ i → get_or (set xs w.0 w.1) i d ≡ get_or ys i d
  set_right xs w i long low is here =
      ap (λ k. get_or (set xs w.0 w.1) k d) (sym here) ∙ get_or-set_same xs w.0 w.1 d (omega (arith, long, low, here)) ∙ is ∙ ap (λ k. get_or ys k d) here

  -- a place that is right stays right
  right_stays : (xs : List X) (ws : List (ℕ × X)) (i : ℕ) → length xs ≡ length ys → i < length ys → All (IsRight ys d) ws → get_or xs i d ≡ get_or ys i d → get_or (write_all xs ws) i d ≡ get_or ys i d
  right_stays xs [] i long low all e = e
  right_stays xs (w ∷ ws) i long low all e =
      right_stays (set xs w.0 w.1) ws i (length-set xs w.0 w.1 ∙ long) low (All-tail (IsRight ys d) w ws all) (elim (cases_eq w.0 i) [
        | inl here ↦ set_right xs w i long low (All-head (IsRight ys d) w ws all) here
        | inr other ↦ get_or-set_other xs w.0 i w.1 d (λ same. other (sym same)) ∙ e
      ])

  -- a place that is written becomes right
  becomes_right : (xs : List X) (ws : List (ℕ × X)) (i : ℕ) → length xs ≡ length ys → i < length ys → All (IsRight ys d) ws → WritesTo i ws → get_or (write_all xs ws) i d ≡ get_or ys i d
  becomes_right xs [] i long low all to = absurd to
  becomes_right xs (w ∷ ws) i long low all (inl here) =
      right_stays (set xs w.0 w.1) ws i (length-set xs w.0 w.1 ∙ long) low (All-tail (IsRight ys d) w ws all) (set_right xs w i long low (All-head (IsRight ys d) w ws all) here)
  becomes_right xs (w ∷ ws) i long low all (inr later) =
      becomes_right (set xs w.0 w.1) ws i (length-set xs w.0 w.1 ∙ long) low (All-tail (IsRight ys d) w ws all) later

  -- all places are right or written
  pub all_written : (xs : List X) (ws : List (ℕ × X)) → length xs ≡ length ys → All (IsRight ys d) ws → ((i : ℕ) → i < length ys → (get_or xs i d ≡ get_or ys i d) ⊎ WritesTo i ws) → write_all xs ws ≡ ys
  all_written xs ws long all each = ext_get_or d (write_all xs ws) ys (length-write_all xs ws ∙ long) (λ i low. at i (omega (arith, low, length-write_all xs ws, long)))
    where
      at : (i : ℕ) → i < length ys → get_or (write_all xs ws) i d ≡ get_or ys i d
      at i low = elim (each i low) [
        | inl right ↦ right_stays xs ws i long low all right
        | inr to ↦ becomes_right xs ws i long low all to
      ]
