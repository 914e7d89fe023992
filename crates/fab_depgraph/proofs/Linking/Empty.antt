-- No edge at all.
use Rattle.std.proofs.Common.{◌≡◌, ℕ, zero, suc, List, [], ◌∷◌, length, replicate, slice_index_or, Option, None, refl, ap, arith}
use Rattle.std.specs.List.{sum_by}
use Rattle.fab_depgraph.specs.Edges.{Row, IsChain, AreLinked, rows_in, times_key}
use Rattle.fab_depgraph.proofs.Linking.Sums.{no_terms}

same_length : (n : ℕ) → length (replicate n (let none : List ℕ = [] in none)) ≡ length (replicate n (let none : Option ℕ = None in none))
same_length zero = refl
same_length (suc n) = ap suc (same_length n)

none_at : (n first : ℕ) → IsChain [] (slice_index_or (replicate n None) first None) (slice_index_or (replicate n []) first [])
none_at zero first = refl
none_at (suc n) zero = refl
none_at (suc n) (suc first) = none_at n first

no_sum : (f : List ℕ → ℕ) → f [] ≡ 0 → (n : ℕ) → sum_by f (replicate n []) ≡ 0
no_sum f none n = no_terms f [] none (replicate n []) (each n)
  where
    each : (n i : ℕ) → f (slice_index_or (replicate n []) i []) ≡ 0
    each zero i = none
    each (suc n) zero = none
    each (suc n) (suc i) = each n i

pub none_linked : (n : ℕ) → AreLinked [] (replicate n None) (replicate n [])
none_linked n = record {
  each = same_length n;
  chains = none_at n;
  once = λ key. omega (arith, no_sum (times_key key) refl n);
  all = sym_zero (no_sum (length {A = ℕ}) refl n);
}
  where
    sym_zero : {m : ℕ} → m ≡ 0 → 0 ≡ m
    sym_zero e = omega (arith, e)

pub none_rows : (n : ℕ) → rows_in [] (replicate n None) ≡ replicate n []
none_rows zero = refl
none_rows (suc n) = ap (λ (rows : List Row). [] ∷ rows) (none_rows n)
