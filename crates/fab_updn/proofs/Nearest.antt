-- The least hop count to listed roots.
use Rattle.std.proofs.Common.{◌≡◌, ℕ, zero, suc, ◌≤◌, ◌⊎◌, inl, inr, List, [], ◌∷◌, ◌++◌, refl, sym, ◌∙◌, subst, arith, All, Option, Some, None, MatchOption}
use Rattle.std.specs.Prelude.{IsSome}
use Rattle.std.proofs.lemmas.Option.{same_Some, none-some}
use Rattle.std.proofs.lemmas.List.Elements.{All-append, All-contains, Contains-append_left, Contains-push, Contains-push_cases}
use Rattle.fab_graph.specs.Least.{IsLeast}
use Rattle.fab_model.specs.declared.rows.SwitchId.{SwitchId}
use Rattle.fab_hops.specs.HopCounts.{HopTable, hop_count}
use Rattle.fab_updn.specs.Found.{IsCountToListed}

-- no listed root has a kept count, or this is the least one
abbrev pub IsNearestOf : HopTable → ℕ → List SwitchId → Option ℕ → Type 0
IsNearestOf h s roots least = MatchOption least (All (λ root. hop_count h s root.0 ≡ None) roots) (λ n. IsLeast (IsCountToListed h roots s) n)

All-one : {A : Type 0} (P : A → Type 0) (x : A) → P x → All P (x ∷ [])
All-one P x p zero d h = p
All-one P x p (suc k) d h = absurd (omega (arith, h))

module _ (h : HopTable) (s : ℕ) (xs : List SwitchId) (x : SwitchId) where
  abbrev more : List SwitchId
  more = xs ++ x ∷ []

  either : (n : ℕ) → IsCountToListed h more s n → IsCountToListed h xs s n ⊎ (hop_count h s x.0 ≡ Some n)
  either n c = elim (Contains-push_cases xs x c.0 c.1) [ inl has ↦ inl (c.0, has, c.2) | inr e ↦ inr (subst (λ (y : SwitchId). hop_count h s y.0 ≡ Some n) (sym e) c.2) ]

  still : (n : ℕ) → IsCountToListed h xs s n → IsCountToListed h more s n
  still n c = (c.0, Contains-append_left xs (x ∷ []) c.0 c.1, c.2)

  new : (n : ℕ) → hop_count h s x.0 ≡ Some n → IsCountToListed h more s n
  new n e = (x, Contains-push xs x, e)

  no_count : (n : ℕ) → All (λ (root : SwitchId). hop_count h s root.0 ≡ None) xs → IsCountToListed h xs s n → ⊥
  no_count n none c = none-some n (sym (All-contains (λ (root : SwitchId). hop_count h s root.0 ≡ None) xs c.0 none c.1) ∙ c.2)

  -- the root is in another component
  pub not_there : (o : Option ℕ) → IsNearestOf h s xs o → hop_count h s x.0 ≡ None → IsNearestOf h s more o
  not_there None none e = All-append (λ (root : SwitchId). hop_count h s root.0 ≡ None) xs (x ∷ []) none (All-one (λ (root : SwitchId). hop_count h s root.0 ≡ None) x e)
  not_there (Some n) is e = record {
    holds = still n is.holds;
    least = λ m c. elim (either m c) [ inl old ↦ is.least m old | inr here ↦ absurd (none-some m (sym e ∙ here)) ];
  }

  -- it is the first in this component
  pub first_there : (o : Option ℕ) (n : ℕ) → IsNearestOf h s xs o → o ≡ None → hop_count h s x.0 ≡ Some n → IsNearestOf h s more (Some n)
  first_there (Some k) n is e here = absurd (none-some k (sym e))
  first_there None n none e here = record {
    holds = new n here;
    least = λ m c. elim (either m c) [ inl old ↦ absurd (no_count m none old) | inr there ↦ omega (arith, same_Some n m (sym here ∙ there)) ];
  }

  -- the nearer one counts
  pub another_there : (o : Option ℕ) (k n r : ℕ) → IsNearestOf h s xs o → o ≡ Some k → hop_count h s x.0 ≡ Some n → (r ≡ k) ⊎ (r ≡ n) → r ≤ k → r ≤ n → IsNearestOf h s more (Some r)
  another_there None k n r none e here which a b = absurd (none-some k e)
  another_there (Some j) k n r is e here which a b = record {
    holds = elim which [ inl old ↦ subst (λ i. IsCountToListed h more s i) (same_Some j k e ∙ sym old) (still j is.holds) | inr now ↦ subst (λ i. IsCountToListed h more s i) (sym now) (new n here) ];
    least = λ m c. elim (either m c) [ inl old ↦ omega (arith, is.least m old, same_Some j k e, a) | inr there ↦ omega (arith, same_Some n m (sym here ∙ there), b) ];
  }

-- a count that is there
pub some_there : (o : Option ℕ) → IsSome o → (n : ℕ) × (o ≡ Some n)
some_there None is = absurd (cc)
some_there (Some n) is = (n, refl)
