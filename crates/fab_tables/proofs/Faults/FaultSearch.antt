-- Where it is decided whether a fault stands at a place, and places with faults are short and of small numbers, there is a first fault or none.
use Rattle.std.proofs.Common.{◌≡◌, ℕ, zero, suc, ◌<◌, ◌⊎◌, inl, inr, List, [], ◌∷◌, None, subst, arith}
use Rattle.std.proofs.lemmas.Bool.{cases_lt}
use Rattle.fab_graph.proofs.Decided.{Decided}
use Rattle.fab_tables.specs.First.{IsFirst, FindsFirst, Beneath}
use Rattle.fab_tables.proofs.Faults.Firsts.{none_beneath, first_beneath}
use Rattle.fab_tables.proofs.Faults.RouteFaults.{none_before}

-- so many numbers at most, each below the bound
abbrev pub IsSmall : ℕ → ℕ → List ℕ → Type 0
IsSmall bound depth [] = Unit {0}
IsSmall bound zero (n ∷ ns) = ⊥
IsSmall bound (suc depth) (n ∷ ns) = (n < bound) × IsSmall bound depth ns

abbrev pub Stands : {F : Type 0} → (List ℕ → F → Type 0) → List ℕ → Type 0
Stands {F} P place = (fault : F) × P place fault

-- there is a first fault, or none
abbrev pub Searched : {F : Type 0} → (List ℕ → F → Type 0) → Type 0
Searched {F} P = ((fault : F) × IsFirst P fault) ⊎ FindsFirst P None

module _ {F : Type 0} (P : List ℕ → F → Type 0) where
  at_root : Stands P [] → Searched P
  at_root s = inl (s.0, ([], s.1, λ earlier other before f. none_before earlier before))

  only_root : ¬ Stands P [] → ((place : List ℕ) (fault : F) → P place fault → IsSmall 0 0 place) → Searched P
  only_root empty small = inr none
    where
      none : (place : List ℕ) (fault : F) → ¬ P place fault
      none [] fault f = empty (fault, f)
      none (n ∷ ns) fault f = small (n ∷ ns) fault f

  -- the least number beneath which there is a fault, or none below a bound has one
  abbrev LeastBeneath : ℕ → Type 0
  LeastBeneath n = ((m : ℕ) × (fault : F) × IsFirst (Beneath (m ∷ []) P) fault × ((k : ℕ) → k < m → FindsFirst (Beneath (k ∷ []) P) None))
      ⊎ ((k : ℕ) → k < n → FindsFirst (Beneath (k ∷ []) P) None)

  next_beneath : (n : ℕ) → Searched (Beneath (n ∷ []) P) → LeastBeneath n → LeastBeneath (suc n)
  next_beneath n here (inl found) = inl found
  next_beneath n (inl here) (inr none) = inl (n, here.0, here.1, none)
  next_beneath n (inr here) (inr none) = inr (λ k h place fault f. elim (cases_lt k n) [
    | inl less ↦ none k less place fault f
    | inr more ↦ (let same : k ≡ n = omega (arith, h, more) in here place fault (subst (λ m. P (m ∷ place) fault) same f))
  ])

  least_beneath : ((n : ℕ) → Searched (Beneath (n ∷ []) P)) → (n : ℕ) → LeastBeneath n
  least_beneath below zero = inr (λ k h place fault f. omega (arith, h))
  least_beneath below (suc n) = next_beneath n (below n) (least_beneath below n)

  from_beneath : (bound : ℕ) → ¬ Stands P [] → ((m : ℕ) (place : List ℕ) (fault : F) → P (m ∷ place) fault → m < bound) → LeastBeneath bound → Searched P
  from_beneath bound empty small (inl found) = inl (found.1, first_beneath P (λ fault f. empty (fault, f)) found.0 found.1 found.2 found.3)
  from_beneath bound empty small (inr none) = inr (none_beneath P (λ fault f. empty (fault, f)) (λ m place fault f. none m (small m place fault f) place fault f))

  by_root : (bound : ℕ) → Decided (Stands P []) → ((m : ℕ) (place : List ℕ) (fault : F) → P (m ∷ place) fault → m < bound) → ((n : ℕ) → Searched (Beneath (n ∷ []) P)) → Searched P
  by_root bound (inl s) small below = at_root s
  by_root bound (inr empty) small below = from_beneath bound empty small (least_beneath below bound)

  leaf : Decided (Stands P []) → ((place : List ℕ) (fault : F) → P place fault → IsSmall 0 0 place) → Searched P
  leaf (inl s) small = at_root s
  leaf (inr empty) small = only_root empty small

pub first_or_none : {F : Type 0} (bound depth : ℕ) (P : List ℕ → F → Type 0) → ((place : List ℕ) → Decided (Stands P place)) →
    ((place : List ℕ) (fault : F) → P place fault → IsSmall bound depth place) → Searched P
first_or_none {F} bound zero P decide small = leaf P (decide []) (λ place fault f. none_longer place (small place fault f))
  where
    none_longer : (place : List ℕ) → IsSmall bound 0 place → IsSmall 0 0 place
    none_longer [] h = tt
    none_longer (n ∷ ns) h = h
first_or_none bound (suc depth) P decide small =
    by_root P bound (decide []) (λ m place fault f. (small (m ∷ place) fault f).0)
    (λ n. first_or_none bound depth (Beneath (n ∷ []) P) (λ place. decide (n ∷ place)) (λ place fault f. (small (n ∷ place) fault f).1))
