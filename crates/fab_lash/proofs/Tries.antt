-- A try goes dependency after dependency.
use Rattle.std.proofs.Common.{◌≡◌, ℕ, ◌+◌, ◌<◌, List, length, take, get_or, refl, ap, ◌∙◌, sym, subst}
use Rattle.std.proofs.lemmas.List.Sums.{fold_more}
use Rattle.fab_graph.specs.Walks.{HasClosedWalk}
use Rattle.fab_depgraph.specs.declared.dep.Dep.{Dep}
use Rattle.fab_depgraph.specs.Listed.{IsListed, dep_of}
use Rattle.fab_lash.specs.Adding.{with_dep, with_deps}
use Rattle.fab_lash.proofs.Adding.{cut_back}

pub listed_next : (all old new deps : List Dep) (i : ℕ) → i < length deps → old ≡ with_deps all (take i deps) → new ≡ with_dep old (get_or deps i (dep_of 0 0)) → new ≡ with_deps all (take (i + 1) deps)
listed_next all old new deps i low was added =
    added ∙ ap (λ (xs : List Dep). with_dep xs (get_or deps i (dep_of 0 0))) was ∙ sym (fold_more with_dep all deps i (dep_of 0 0) low)

-- where one closes a walk, all of them are taken back
pub taken_back : (all old kept new deps : List Dep) (i mark : ℕ) → i < length deps → old ≡ with_deps all (take i deps) → mark ≡ length all → kept ≡ old → new ≡ take mark kept →
    HasClosedWalk (IsListed (with_dep old (get_or deps i (dep_of 0 0)))) → (new ≡ all) × ((n : ℕ) × HasClosedWalk (IsListed (with_deps all (take n deps))))
taken_back all old kept new deps i mark low was at same cut closed =
    let P : List Dep → Type 0 = λ xs. HasClosedWalk (IsListed xs) in (
      cut ∙ ap (λ (xs : List Dep). take mark xs) (same ∙ was) ∙ ap (λ n. take n (with_deps all (take i deps))) at ∙ cut_back (take i deps) all,
      (i + 1, subst P (listed_next all old (with_dep old (get_or deps i (dep_of 0 0))) deps i low was refl) closed),
    )
