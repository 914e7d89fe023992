-- What stands before a pair is placed, and what a refusal says then.
use Rattle.std.proofs.Common.{◌≡◌, ℕ, zero, suc, ◌⊎◌, inl, inr, List, [], ◌∷◌, length, take, subst, sym, arith}
use Rattle.std.specs.Prelude.{Contains}
use Rattle.fab_graph.specs.Walks.{SameGraph}
use Rattle.fab_graph.proofs.Members.{first, later, first_or_later}
use Rattle.fab_model.specs.Topology.{Topology}
use Rattle.fab_tables.specs.Entries.{Entries}
use Rattle.fab_depgraph.specs.declared.dep.Dep.{Dep}
use Rattle.fab_depgraph.specs.Listed.{Dependencies, IsListed, dep_of}
use Rattle.fab_lash.specs.Pairs.{IsPair, ComesBefore, DependsOnPair}
use Rattle.fab_lash.specs.Followers.{pair_dependencies}
use Rattle.fab_lash.specs.Adding.{with_deps, ListsOnce}
use Rattle.fab_lash.specs.Layerings.{DependsEarlier, FitsLane, HasLayer, NeedsLane}
use Rattle.fab_lash.specs.Placing.{listed_in, Refuses, IsNowhere, IsPlaced}
use Rattle.fab_lash.proofs.Adding.{deps_among, deps_there, old_stay}
use Rattle.fab_lash.proofs.Followers.{lists_pair}
use Rattle.fab_lash.proofs.LaneSteps.{try_fits, try_fails, layer_found}

-- earlier pairs have their layers, and each lane lists the dependencies of those whose layer it is
pub record AreLayersBefore (t : Topology) (e : Entries) (count : ℕ) (layer : ℕ → ℕ → ℕ) (used : List Dependencies) (low high : ℕ) : Type 0 where
  pub lanes : length used ≡ count
  pub earlier : (a b : ℕ) → IsPair t a b → ComesBefore a b low high → HasLayer t e count layer a b
  pub lists : (lane : ℕ) → SameGraph (IsListed (listed_in used lane)) (λ (c d : ℕ). DependsEarlier t e layer lane low high c d)
  pub once : (lane : ℕ) → ListsOnce (listed_in used lane)

of_take : (xs : List Dep) (n : ℕ) (x : Dep) → Contains (take n xs) x → Contains xs x
of_take xs zero x has = absurd (omega (arith, has.1))
of_take [] (suc n) x has = absurd (omega (arith, has.1))
of_take (y ∷ ys) (suc n) x has = elim (first_or_later y (take n ys) x has) [ inl here ↦ subst (λ z. Contains (y ∷ ys) z) here (first y ys) | inr there ↦ later y ys x (of_take ys n x there) ]

module _ (t : Topology) (e : Entries) (count : ℕ) (layer : ℕ → ℕ → ℕ) (used : List Dependencies) (low high : ℕ) (before : AreLayersBefore t e count layer used low high) where
  pub refuses_not_fits : (lane : ℕ) → Refuses (listed_in used lane) (pair_dependencies t e low high) → ¬ FitsLane t e layer low high lane
  refuses_not_fits lane r =
      try_fails t e layer lane low high (IsListed (listed_in used lane)) (before.lists lane) (IsListed (with_deps (listed_in used lane) (take r.0 (pair_dependencies t e low high))))
      (λ c d x. some c d (deps_among (take r.0 (pair_dependencies t e low high)) (listed_in used lane) (dep_of c d) x)) r.1
    where
      some : (c d : ℕ) → Contains (listed_in used lane) (dep_of c d) ⊎ Contains (take r.0 (pair_dependencies t e low high)) (dep_of c d) → DependsOnPair t e low high c d ⊎ IsListed (listed_in used lane) c d
      some c d (inl old) = inr old
      some c d (inr new) = inl ((lists_pair t e low high c d).0 (of_take (pair_dependencies t e low high) r.0 (dep_of c d) new))

  -- so a pair that no lane takes is the first to need another one
  pub nowhere_needs : IsPair t low high → IsNowhere used (pair_dependencies t e low high) → NeedsLane t e count low high
  nowhere_needs pair nowhere = record {
    pair = pair;
    layer = layer;
    earlier = before.earlier;
    none = λ lane less. refuses_not_fits lane (nowhere lane (omega (arith, less, before.lanes)));
  }

  -- a lane that takes a pair lists its dependencies and those that it had
  module _ (new : List Dependencies) (lane : ℕ) (p : IsPlaced used new (pair_dependencies t e low high) lane) where
    abbrev pub old : List Dep
    old = listed_in used lane

    abbrev pub deps : List Dep
    deps = pair_dependencies t e low high

    to : (c d : ℕ) → Contains old (dep_of c d) ⊎ Contains deps (dep_of c d) → DependsOnPair t e low high c d ⊎ IsListed old c d
    to c d (inl x) = inr x
    to c d (inr x) = inl ((lists_pair t e low high c d).0 x)

    from : (c d : ℕ) → DependsOnPair t e low high c d ⊎ IsListed old c d → Contains (with_deps old deps) (dep_of c d)
    from c d (inl x) = deps_there deps old (dep_of c d) ((lists_pair t e low high c d).1 x)
    from c d (inr x) = old_stay deps old (dep_of c d) x

    pub lists_both : SameGraph (IsListed (listed_in new lane)) (λ (c d : ℕ). DependsOnPair t e low high c d ⊎ IsListed old c d)
    lists_both c d = (
      λ x. to c d (deps_among deps old (dep_of c d) (subst (λ xs. Contains xs (dep_of c d)) p.taken.0 x)),
      λ y. subst (λ xs. Contains xs (dep_of c d)) (sym p.taken.0) (from c d y),
    )

    -- and it is the pair's layer
    pub placed_has_layer : layer low high ≡ lane → HasLayer t e count layer low high
    placed_has_layer is =
        layer_found t e count lane low high layer is (omega (arith, p.low, before.lanes))
        (try_fits t e layer lane low high (IsListed (listed_in used lane)) (before.lists lane) (IsListed (listed_in new lane)) lists_both p.taken.1)
        (λ other less. refuses_not_fits other (p.refused other less))
