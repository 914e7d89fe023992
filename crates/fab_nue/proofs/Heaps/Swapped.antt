-- A search under way swaps the least allowed pair, or adds its tree again where there is none.
use Rattle.std.proofs.Common.{◌≡◌, ℕ, suc, ◌+◌, ◌-◌, ◌≤◌, inr, List, [], length, Option, refl, sym, ◌∙◌, ap, subst, arith, length-append}
use Rattle.std.specs.Prelude.{take}
use Rattle.fab_model.specs.Topology.{Topology}
use Rattle.fab_model.specs.WellFormed.{IsWellFormed}
use Rattle.fab_tables.specs.TreeWalks.{IsTree}
use Rattle.fab_depgraph.specs.declared.dep.Added.{Added}
use Rattle.fab_depgraph.specs.declared.dep.Added.TheVariants.{Yes, WouldClose}
use Rattle.fab_depgraph.specs.declared.dep.Dep.{Dep}
use Rattle.fab_depgraph.specs.Listed.{Dependencies, IsListed}
use Rattle.fab_nue.specs.declared.choices.Choice.{Choice}
use Rattle.fab_nue.specs.Search.{ClosesNone, IsAllowed, IsNotAfterPair, Swaps}
use Rattle.fab_nue.specs.Added.{AddsTree}
use Rattle.fab_nue.specs.Laws.{IsSearchTree, settled_count}
use Rattle.fab_nue.specs.Offers.{HoldsOnce}
use Rattle.fab_nue.specs.Turns.{IsSwapped}
use Rattle.fab_nue.specs.UnderWay.{HoldsCandidates, IsUnderWay}
use Rattle.fab_nue.proofs.Searching.Adding.{taken_back}
use Rattle.fab_nue.proofs.Searching.Measure.{step_adds_one}
use Rattle.fab_nue.proofs.Searching.Runs.{run_leads, step_leads}
use Rattle.fab_nue.proofs.Searching.SearchTrees.{LeadsTree, search_tree}
use Rattle.fab_nue.proofs.Searching.Trying.{adds_from}
use Rattle.fab_nue.proofs.Heaps.Heaping.{empty_has_none}

-- what doesn't close is added
added_if : (answer : Added) (closes adds : Type 0) → (answer ≡ WouldClose → ¬ closes) → (answer ≡ Yes → adds) → closes → adds
added_if Yes closes adds refused added none = added refl
added_if WouldClose closes adds refused added none = absurd (refused refl none)

module _ (t : Topology) (weight : ℕ → ℕ) (to : ℕ) (start now : Dependencies) (tree : List (Option ℕ)) (good : IsWellFormed t) (entries : List Choice) (mark : ℕ) (at : mark ≡ length start.listed)
    (u : IsUnderWay t weight to start now tree entries) where
  -- the arena is at least as long as at the start
  pub mark_within : mark ≤ length now.listed
  mark_within = omega (arith, at, ap (λ (xs : List Dep). length xs) u.adds.listed, length-append start.listed u.adds.added)

  leads : LeadsTree t (IsListed start.listed) to tree
  leads = run_leads t weight (IsListed start.listed) to good u.acyclic u.steps tree u.run

  -- cut to its length then, it is as it was
  module _ (cut : Dependencies) (listed : cut.listed ≡ take mark now.listed) (spare : cut.spare ≡ now.spare + (length now.listed - mark)) where
    pub cut_listed : cut.listed ≡ start.listed
    cut_listed = listed ∙ taken_back start.listed u.adds.added now.listed mark at u.adds.listed

    pub cut_spare : cut.spare ≡ start.spare
    cut_spare = omega (arith, spare, at, u.adds.spare, ap (λ (xs : List Dep). length xs) u.adds.listed, length-append start.listed u.adds.added)

    pub cut_room : length t.switches ≤ cut.spare
    cut_room = omega (arith, cut_spare, u.spare)

    pub cut_tree : IsSearchTree t cut.listed to tree
    cut_tree = subst (λ (xs : List Dep). IsSearchTree t xs to tree) (sym cut_listed) (search_tree t start.listed to tree leads)

    -- the least allowed pair is swapped
    module _ (new : Dependencies) (grown : List (Option ℕ)) (added turned : ℕ) (swap : IsSwapped t to tree grown cut new added turned)
        (least : (d b : ℕ) → IsAllowed t (IsListed cut.listed) to tree d b → IsNotAfterPair added turned d b) (empty : entries ≡ []) where
      step : Swaps t (IsListed start.listed) to tree grown
      step = record {
        added = added;
        turned = turned;
        no_candidate = empty_has_none t weight (IsListed start.listed) to tree (subst (HoldsCandidates t weight (IsListed start.listed) to tree) empty u.candidates);
        allowed = subst (λ (xs : List Dep). IsAllowed t (IsListed xs) to tree added turned) cut_listed swap.allowed;
        least = λ d b x. least d b (subst (λ (xs : List Dep). IsAllowed t (IsListed xs) to tree d b) (sym cut_listed) x);
        changed = swap.changed;
      }

      pub grown_tree : IsTree t grown
      grown_tree = (step_leads t weight (IsListed start.listed) to tree grown good leads (inr step)).is_tree

      pub one_settled : settled_count grown ≡ settled_count tree + 1
      one_settled = step_adds_one t weight (IsListed start.listed) to tree grown good leads.is_tree.each_switch (inr step)

      pub swapped_on_way : (held : List Choice) → HoldsCandidates t weight (IsListed start.listed) to grown held → HoldsOnce t held → IsUnderWay t weight to start new grown held
      swapped_on_way held candidates once = record {
        acyclic = u.acyclic;
        spare = u.spare;
        steps = suc u.steps;
        run = (tree, u.run, inr step);
        adds = adds_from t grown cut start new cut_listed cut_spare swap.adds;
        candidates = candidates;
        once = once;
      }

    -- or no pair is allowed, and the tree is added again
    module _ (mid new : Dependencies) (same : List (Option ℕ)) (stays : same ≡ tree) (mid_listed : mid.listed ≡ cut.listed) (mid_spare : mid.spare ≡ cut.spare) where
      pub same_tree : IsTree t same
      same_tree = subst (IsTree t) (sym stays) leads.is_tree

      pub mid_room : length t.switches ≤ mid.spare
      mid_room = omega (arith, mid_spare, cut_room)

      closes_none : ClosesNone t (IsListed mid.listed) same
      closes_none =
          subst (λ (xs : List Dep). ClosesNone t (IsListed xs) same) (sym (mid_listed ∙ cut_listed))
          (subst (λ (y : List (Option ℕ)). ClosesNone t (IsListed start.listed) y) (sym stays) leads.closes_none)

      pub added_again : (answer : Added) → (answer ≡ WouldClose → ¬ ClosesNone t (IsListed mid.listed) same) → (answer ≡ Yes → AddsTree t same mid new) → AddsTree t same start new
      added_again answer refused added = adds_from t same mid start new (mid_listed ∙ cut_listed) (mid_spare ∙ cut_spare)
          (added_if answer (ClosesNone t (IsListed mid.listed) same) (AddsTree t same mid new) refused added closes_none)

      pub none_allowed : ((c d : ℕ) → ¬ IsAllowed t (IsListed cut.listed) to tree c d) → (c d : ℕ) → ¬ IsAllowed t (IsListed start.listed) to same c d
      none_allowed none c d x =
          none c d (subst (λ (xs : List Dep). IsAllowed t (IsListed xs) to tree c d) (sym cut_listed) (subst (λ (y : List (Option ℕ)). IsAllowed t (IsListed start.listed) to y c d) stays x))
