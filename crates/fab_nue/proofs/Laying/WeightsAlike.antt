-- What is laid looks at the weights of the fabric's channels alone, and at the graph of what is in use.
use Rattle.std.proofs.Common.{◌≡◌, ℕ, zero, suc, ◌+◌, ◌<◌, ◌⊎◌, inl, inr, List, [], ◌∷◌, length, Option, refl, sym, arith}
use Rattle.std.specs.Prelude.{sum_by}
use Rattle.std.proofs.lemmas.List.Sums.{sum_by-cons}
use Rattle.std.proofs.lemmas.Option.{slice_get_within}
use Rattle.fab_graph.specs.Walks.{SameGraph}
use Rattle.fab_graph.specs.Least.{IsNotAfter}
use Rattle.fab_model.specs.Topology.{Topology}
use Rattle.fab_model.specs.WellFormed.{IsWellFormed}
use Rattle.fab_tables.specs.Route.{tip}
use Rattle.fab_tables.specs.Trees.{LeavesSwitch}
use Rattle.fab_tables.specs.TreeWalks.{IsTree, GoesAlong, walk_of}
use Rattle.fab_tables.proofs.Paths.TreeWalks.{walk_goes}
use Rattle.fab_escape.specs.Forest.{Forest}
use Rattle.fab_nue.specs.Search.{way_weight, Steps, ComesTo, Completes, GetsStuck}
use Rattle.fab_nue.specs.NuePlan.{IsLaidTree}
use Rattle.fab_nue.proofs.Searching.SameSearch.{completes_same, stuck_same}
use Rattle.fab_nue.proofs.Laying.Reaching.{run_is_tree}

module _ (t : Topology) (weight heavy : ℕ → ℕ) (used : ℕ → ℕ → Type 0) (to : ℕ) (good : IsWellFormed t) (equal : (c : ℕ) → c < length t.channels → weight c ≡ heavy c) where
  along_alike : (tree : List (Option ℕ)) → IsTree t tree → (s : ℕ) (cs : List ℕ) → GoesAlong t tree s cs → sum_by weight cs ≡ sum_by heavy cs
  along_alike tree is s [] goes = refl
  along_alike tree is s (c ∷ cs) goes =
      let leaves : LeavesSwitch t c s = is.leaves s c goes.0 in
      omega (arith, sum_by-cons weight c cs, sum_by-cons heavy c cs, equal c (slice_get_within t.channels c leaves.0 leaves.1), along_alike tree is (tip t c) cs goes.1)

  way_alike : (tree : List (Option ℕ)) (c : ℕ) → IsTree t tree → c < length t.channels → way_weight t weight tree c ≡ way_weight t heavy tree c
  way_alike tree c is low = omega (arith, equal c low, along_alike tree is (tip t c) (walk_of t tree (tip t c)) (walk_goes t tree (tip t c) is))

  order_alike : (tree : List (Option ℕ)) (c d : ℕ) → IsTree t tree → c < length t.channels → d < length t.channels → IsNotAfter (λ b. way_weight t weight tree b) c d → IsNotAfter (λ b. way_weight t heavy tree b) c d
  order_alike tree c d is low also (inl x) = inl (omega (arith, x, way_alike tree c is low, way_alike tree d is also))
  order_alike tree c d is low also (inr x) = inr (omega (arith, x.0, way_alike tree c is low, way_alike tree d is also), x.1)

  step_alike : (old new : List (Option ℕ)) → IsTree t old → Steps t weight used to old new → Steps t heavy used to old new
  step_alike old new is (inl step) = inl (record {
    channel = step.channel;
    candidate = step.candidate;
    least = λ d x. order_alike old step.channel d is step.candidate.channel x.channel (step.least d x);
    added = step.added;
  })
  step_alike old new is (inr step) = inr step

  run_alike : (n : ℕ) (tree : List (Option ℕ)) → ComesTo t weight used to n tree → ComesTo t heavy used to n tree
  run_alike zero tree run = run
  run_alike (suc n) tree run = (run.0, run_alike n run.0 run.1, step_alike run.0 tree (run_is_tree t weight used to good n run.0 run.1) run.2)

  pub completes_alike : (tree : List (Option ℕ)) → Completes t weight used to tree → Completes t heavy used to tree
  completes_alike tree x = record { steps = x.steps; run = run_alike x.steps tree x.run; complete = x.complete }

  pub stuck_alike : GetsStuck t weight used to → GetsStuck t heavy used to
  stuck_alike x = record { steps = x.steps; tree = x.tree; run = run_alike x.steps x.tree x.run; impasse = x.impasse }

pub laid_alike : (t : Topology) (weight heavy : ℕ → ℕ) (used other : ℕ → ℕ → Type 0) (f : Forest) (to : ℕ) (tree : List (Option ℕ)) → IsWellFormed t →
    ((c : ℕ) → c < length t.channels → weight c ≡ heavy c) → SameGraph used other → IsLaidTree t weight used f to tree → IsLaidTree t heavy other f to tree
laid_alike t weight heavy used other f to tree good equal same (inl search) =
    inl (completes_same t heavy heavy used other to (λ c. refl) same tree (completes_alike t weight heavy used to good equal tree search))
laid_alike t weight heavy used other f to tree good equal same (inr fallback) =
    inr (stuck_same t heavy heavy used other to (λ c. refl) same (stuck_alike t weight heavy used to good equal fallback.0), fallback.1)
