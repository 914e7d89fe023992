-- How a search under way ends: it is complete, or nothing stands in the heap and no pair is allowed.
use Rattle.std.proofs.Common.{◌≡◌, ℕ, ◌≤◌, List, [], length, Option, sym, subst, arith}
use Rattle.std.specs.Prelude.{is_some}
use Rattle.std.proofs.lemmas.List.Sums.{count_by-le-length}
use Rattle.fab_model.specs.Topology.{Topology}
use Rattle.fab_model.specs.Connected.{AreConnected}
use Rattle.fab_model.specs.WellFormed.{IsWellFormed}
use Rattle.fab_tables.specs.TreeWalks.{walk_of}
use Rattle.fab_depgraph.specs.Listed.{Dependencies, IsListed}
use Rattle.fab_nue.specs.declared.choices.Choice.{Choice}
use Rattle.fab_nue.specs.Search.{IsSettled, HasNoCandidate, IsAllowed, ComesTo, IsComplete, IsImpasse, Completes, GetsStuck}
use Rattle.fab_nue.specs.Added.{AddsTree}
use Rattle.fab_nue.specs.Laws.{settled_count}
use Rattle.fab_nue.specs.UnderWay.{HoldsCandidates, IsUnderWay}
use Rattle.fab_nue.proofs.Searching.SearchTrees.{LeadsTree, along_connected}
use Rattle.fab_nue.proofs.Searching.Runs.{run_leads}
use Rattle.fab_nue.proofs.Heaps.Heaping.{empty_has_none}
use Rattle.fab_nue.proofs.Heaps.Beginning.{nothing_held_once}

module _ (t : Topology) (weight : ℕ → ℕ) (to : ℕ) (start now : Dependencies) (tree : List (Option ℕ)) (entries : List Choice) (u : IsUnderWay t weight to start now tree entries) where
  module _ (good : IsWellFormed t) where
    leads : LeadsTree t (IsListed start.listed) to tree
    leads = run_leads t weight (IsListed start.listed) to good u.acyclic u.steps tree u.run

    pub each_switch : length tree ≡ length t.switches
    each_switch = leads.is_tree.each_switch

    pub settled_joined : (s : ℕ) → IsSettled to tree s → AreConnected t s to
    settled_joined s settled = along_connected t s to (walk_of t tree s) (leads.leads s settled)

    pub few_settled : settled_count tree ≤ length t.switches
    few_settled = omega (arith, each_switch, count_by-le-length is_some tree)

  -- ---- the ends

  pub completed : IsComplete t to tree → Completes t weight (IsListed start.listed) to tree
  completed complete = record { steps = u.steps; run = u.run; complete = complete }

  pub got_stuck : IsImpasse t (IsListed start.listed) to tree → GetsStuck t weight (IsListed start.listed) to
  got_stuck impasse = record { steps = u.steps; tree = tree; run = u.run; impasse = impasse }

  -- a swap was looked for in vain
  module _ (none : entries ≡ []) (after : List (Option ℕ)) (same : after ≡ tree) where
    held : HoldsCandidates t weight (IsListed start.listed) to tree []
    held = subst (λ (ms : List Choice). HoldsCandidates t weight (IsListed start.listed) to tree ms) none u.candidates

    pub under_way_still : (new : Dependencies) (left_over : List Choice) → AddsTree t after start new → left_over ≡ [] → IsUnderWay t weight to start new after left_over
    under_way_still new left_over adds nothing = record {
      acyclic = u.acyclic;
      spare = u.spare;
      steps = u.steps;
      run = subst (λ x. ComesTo t weight (IsListed start.listed) to u.steps x) (sym same) u.run;
      adds = adds;
      candidates = subst (λ (ms : List Choice). HoldsCandidates t weight (IsListed start.listed) to after ms) (sym nothing)
          (subst (λ x. HoldsCandidates t weight (IsListed start.listed) to x []) (sym same) held);
      once = nothing_held_once t left_over nothing;
    }

    pub impasse_here : ((c a : ℕ) → ¬ IsAllowed t (IsListed start.listed) to after c a) → ((s : ℕ) × AreConnected t s to × (¬ IsSettled to tree s)) →
        IsImpasse t (IsListed start.listed) to after
    impasse_here no_swap left = record {
      no_candidate = subst (λ x. HasNoCandidate t (IsListed start.listed) to x) (sym same) (empty_has_none t weight (IsListed start.listed) to tree held);
      no_swap = no_swap;
      left = left.0;
      connected = left.1;
      unsettled = subst (λ x. ¬ IsSettled to x left.0) (sym same) left.2;
    }
