-- There is one refused pair at most, and no plan beside it.
use Rattle.std.proofs.Common.{◌≡◌, ℕ, ◌<◌, ◌⊎◌, inl, inr, List, sym, subst}
use Rattle.std.proofs.lemmas.Bool.{cases_order}
use Rattle.fab_model.specs.Topology.{Topology}
use Rattle.fab_updn.specs.UpDownPlans.{IsFirstWithoutRoute}
use Rattle.fab_updn.specs.Laws.{OneRefusedPair, PlanOrRefusal}
use Rattle.fab_updn.proofs.Turns.{one_list_of_ranks}

module _ (t : Topology) (ranks : List ℕ) (from to a b : ℕ) (x : IsFirstWithoutRoute t ranks from to) (y : IsFirstWithoutRoute t ranks a b) where
  by_to : from ≡ a → (to ≡ b) ⊎ ((to < b) ⊎ (b < to)) → to ≡ b
  by_to same (inl e) = e
  by_to same (inr (inl less)) = absurd (y.first from to (inr (same, less)) x.lacks)
  by_to same (inr (inr more)) = absurd (x.first a b (inr (sym same, more)) y.lacks)

  by_from : (from ≡ a) ⊎ ((from < a) ⊎ (a < from)) → (from ≡ a) × (to ≡ b)
  by_from (inl same) = (same, by_to same (cases_order to b))
  by_from (inr (inl less)) = absurd (y.first from to (inl less) x.lacks)
  by_from (inr (inr more)) = absurd (x.first a b (inl more) y.lacks)

  pub one_first : (from ≡ a) × (to ≡ b)
  one_first = by_from (cases_order from a)

pub one_refused_pair : OneRefusedPair
one_refused_pair t named from to a b x y =
    let same : y.0 ≡ x.0 = one_list_of_ranks t named y.0 x.0 y.1 x.1 in
    one_first t x.0 from to a b x.2 (subst (λ ranks. IsFirstWithoutRoute t ranks a b) same y.2)

pub plan_or_refusal : PlanOrRefusal
plan_or_refusal t named p from to x y =
    let same : y.0 ≡ x.tables.ranks = one_list_of_ranks t named y.0 x.tables.ranks y.1 x.tables.are_ranks in
    x.tables.legal from to (subst (λ ranks. IsFirstWithoutRoute t ranks from to) same y.2).lacks
