-- Lists that grow by what the next number gives.
use Rattle.std.proofs.Common.{◌≡◌, ◌<◌, ◌≤◌, ◌+◌, ℕ, suc, List, [], ◌∷◌, ◌++◌, length, map, take, get_or, refl, sym, ap, ◌∙◌, arith, append_assoc}
use Rattle.std.specs.Prelude.{flat_map, sum_by}
use Rattle.std.specs.List.{enumerate_from, range_with_len}
use Rattle.std.proofs.lemmas.List.{append-nil, map_push, map-id, take_more}
use Rattle.std.proofs.lemmas.List.Concat.{flat_map-append, length-flat_map}
use Rattle.std.proofs.lemmas.List.FromFn.{map-range_with_len_more, take-map-range_with_len}
use Rattle.std.proofs.lemmas.List.Sums.{sum_by-take-le}

pub range_more : (from n : ℕ) → range_with_len from (n + 1) ≡ range_with_len from n ++ (from + n) ∷ []
range_more from n =
    sym (map-id (range_with_len from (n + 1))) ∙ map-range_with_len_more (λ (k : ℕ). k) from n (from + n) refl ∙ ap (λ (xs : List ℕ). xs ++ (from + n) ∷ []) (map-id (range_with_len from n))

pub flat_map-one : {X A : Type 0} (f : X → List A) (xs : List X) (x : X) → flat_map f (xs ++ x ∷ []) ≡ flat_map f xs ++ f x
flat_map-one f xs x = flat_map-append f xs (x ∷ []) ∙ ap (λ rest. flat_map f xs ++ rest) (append-nil (f x))

pub flat_range_more : {A : Type 0} (f : ℕ → List A) (n : ℕ) → flat_map f (range_with_len 0 (n + 1)) ≡ flat_map f (range_with_len 0 n) ++ f n
flat_range_more f n = ap (λ (ks : List ℕ). flat_map f ks) (range_more 0 n) ∙ ap (λ (k : ℕ). flat_map f (range_with_len 0 n ++ k ∷ [])) (nothing n) ∙ flat_map-one f (range_with_len 0 n) n
  where
    nothing : (n : ℕ) → 0 + n ≡ n
    nothing n = omega arith

pub grows : {A : Type 0} (f : ℕ → List A) (n : ℕ) (old new : List A) → old ≡ flat_map f (range_with_len 0 n) → new ≡ old ++ f n → new ≡ flat_map f (range_with_len 0 (n + 1))
grows f n old new e g = g ∙ ap (λ xs. xs ++ f n) e ∙ sym (flat_range_more f n)

-- two elements one after the other
pub two_more : {A : Type 0} (xs ys zs : List A) (a b : A) → ys ≡ xs ++ a ∷ [] → zs ≡ ys ++ b ∷ [] → zs ≡ xs ++ a ∷ b ∷ []
two_more xs ys zs a b e f = f ∙ ap (λ xs. xs ++ b ∷ []) e ∙ append_assoc xs (a ∷ []) (b ∷ [])

pub grows_along : {X A : Type 0} (f : X → List A) (xs : List X) (n : ℕ) (d : X) (old new : List A) → n < length xs → old ≡ flat_map f (take n xs) → new ≡ old ++ f (get_or xs n d) → new ≡ flat_map f (take (n + 1) xs)
grows_along f xs n d old new h e g = g ∙ ap (λ ys. ys ++ f (get_or xs n d)) e ∙ sym (ap (λ ys. flat_map f ys) (take_more xs n d h) ∙ flat_map-one f (take n xs) (get_or xs n d))

-- ---- numbered lists

enumerate_push : {X : Type 0} (from : ℕ) (xs : List X) (x : X) → enumerate_from from (xs ++ x ∷ []) ≡ enumerate_from from xs ++ (from + length xs, x) ∷ []
enumerate_push from [] x = ap (λ n. (n, x) ∷ []) (nothing from)
  where
    nothing : (n : ℕ) → n ≡ n + 0
    nothing n = omega arith
enumerate_push from (y ∷ xs) x = ap (λ rest. (from, y) ∷ rest) (enumerate_push (from + 1) xs x ∙ ap (λ n. enumerate_from (from + 1) xs ++ (n, x) ∷ []) (one_on from (length xs)))
  where
    one_on : (n m : ℕ) → n + 1 + m ≡ n + suc m
    one_on n m = omega arith

pub numbered_push : {X Y : Type 0} (f : ℕ × X → Y) (xs : List X) (x : X) → map f (enumerate_from 0 (xs ++ x ∷ [])) ≡ map f (enumerate_from 0 xs) ++ f (length xs, x) ∷ []
numbered_push {X} {Y} f xs x =
    ap (λ ps. map f ps) (enumerate_push 0 xs x) ∙ map_push f (enumerate_from 0 xs) (0 + length xs, x) ∙ ap (λ n. map f (enumerate_from 0 xs) ++ f (n, x) ∷ []) (nothing (length xs))
  where
    nothing : (n : ℕ) → 0 + n ≡ n
    nothing n = omega arith

-- parts of fewer numbers are no longer
pub flat_range_le : {A : Type 0} (f : ℕ → List A) (k n : ℕ) → k ≤ n → length (flat_map f (range_with_len 0 k)) ≤ length (flat_map f (range_with_len 0 n))
flat_range_le f k n h =
    let first : take k (range_with_len 0 n) ≡ range_with_len 0 k =
    ap (λ (xs : List ℕ). take k xs) (sym (map-id (range_with_len 0 n))) ∙ take-map-range_with_len (λ (i : ℕ). i) 0 n k h ∙ map-id (range_with_len 0 k) in
    let sums = ap (λ (xs : List ℕ). sum_by (λ i. length (f i)) xs) first in
    omega (arith, length-flat_map f (range_with_len 0 k), length-flat_map f (range_with_len 0 n), sums, sum_by-take-le (λ i. length (f i)) (range_with_len 0 n) k)
