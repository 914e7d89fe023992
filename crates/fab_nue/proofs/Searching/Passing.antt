-- A way passes a switch where it begins there, or where the rest of it passes it.
use Rattle.std.proofs.Common.{◌≡◌, ◌≢◌, ℕ, suc, ◌<◌, List, [], ◌∷◌, length, Some, None, Option, sym, ap, subst, arith}
use Rattle.std.specs.Prelude.{Contains}
use Rattle.std.proofs.lemmas.Map.Made.{Contains-tail}
use Rattle.fab_model.specs.Topology.{Topology}
use Rattle.fab_tables.specs.Route.{tip, visited}
use Rattle.fab_tables.specs.Trees.{next}
use Rattle.fab_tables.specs.TreeWalks.{IsTree, walk_of}
use Rattle.fab_tables.proofs.Paths.TreeWalks.{walk_of_next, goes_walk_of}
use Rattle.fab_nue.specs.Search.{Passes}

pub passes_here : (t : Topology) (tree : List (Option ℕ)) (s other : ℕ) → s ≡ other → Passes t tree s other
passes_here t tree s other e = (0, omega arith, e)

module _ (t : Topology) (tree : List (Option ℕ)) (is : IsTree t tree) (s other : ℕ) where
  pub passes_later : (c : ℕ) → next tree s ≡ Some c → Passes t tree (tip t c) other → Passes t tree s other
  passes_later c own has =
      subst (λ cs. Contains (visited t s cs) other) (sym (walk_of_next t tree s c is own)) (suc has.0, omega (arith, has.1), has.2)

  pub passes_before : (c : ℕ) → next tree s ≡ Some c → s ≢ other → Passes t tree s other → Passes t tree (tip t c) other
  passes_before c own apart has =
      Contains-tail s (visited t (tip t c) (walk_of t tree (tip t c))) other apart (subst (λ cs. Contains (visited t s cs) other) (walk_of_next t tree s c is own) has)

  pub passes_none : next tree s ≡ None → s ≢ other → ¬ Passes t tree s other
  passes_none none apart has =
      let only : Contains (s ∷ []) other = subst (λ cs. Contains (visited t s cs) other) (goes_walk_of t tree s [] is.each_switch none) has in
      let rest : Contains [] other = Contains-tail s [] other apart only in
      omega (arith, rest.1)

  pub shorter_on : (c : ℕ) → next tree s ≡ Some c → length (walk_of t tree (tip t c)) < length (walk_of t tree s)
  shorter_on c own = omega (arith, ap (λ (cs : List ℕ). length cs) (walk_of_next t tree s c is own))
