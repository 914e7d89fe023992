-- What is in use on a lane is listed, so a search beside it ends: each LID has a tree to be laid.
use Rattle.std.proofs.Common.{◌≡◌, ◌≢◌, ℕ, ◌<◌, ◌≤◌, ◌⊎◌, inl, inr, List, length, map, Option, Some, None, refl, sym, ◌∙◌, subst, arith, Contains}
use Rattle.std.proofs.lemmas.Bool.{cases_lt}
use Rattle.std.proofs.lemmas.List.{get_or_past}
use Rattle.std.proofs.lemmas.Option.{none-some, same_Some}
use Rattle.fab_graph.specs.Walks.{IsAcyclic}
use Rattle.fab_graph.proofs.Decided.{Decided, equal, both, below_decided, not_decided}
use Rattle.fab_model.specs.declared.rows.Place.{Place}
use Rattle.fab_model.specs.Topology.{Topology, lids_of, place_of}
use Rattle.fab_model.specs.Connected.{AreConnected}
use Rattle.fab_model.specs.WellFormed.{IsWellFormed}
use Rattle.fab_tables.specs.declared.plan.Plan.{Plan}
use Rattle.fab_tables.specs.Trees.{next}
use Rattle.fab_tables.specs.TreeWalks.{IsTree, DependsInTree}
use Rattle.fab_tables.proofs.Joined.Lids.{lid_in_use}
use Rattle.fab_tables.proofs.Joined.Walks.{connected_back}
use Rattle.fab_depgraph.specs.declared.dep.Dep.{Dep}
use Rattle.fab_hops.proofs.HopWalks.{connected_within}
use Rattle.fab_escape.specs.Forest.{Forest, escape_tree}
use Rattle.fab_escape.specs.Trees.{IsEscapeForest}
use Rattle.fab_escape.specs.EscapeSet.{home, DependsToEscape}
use Rattle.fab_escape.proofs.EndsOfRoutes.{no_next_channel}
use Rattle.fab_escape.proofs.EscapeTrees.{escape_tree_is_tree}
use Rattle.fab_escape.proofs.WholeTree.{tree_length, next_in_tree}
use Rattle.fab_nue.specs.Added.{deps_of_tree}
use Rattle.fab_nue.specs.Search.{ClosesNone, Completes, GetsStuck}
use Rattle.fab_nue.specs.NuePlan.{DependsToEscapeIn, DependsOnOld, DependsOnLaid, IsLaid, IsInUse, IsLaidTree}
use Rattle.fab_nue.proofs.Searching.Choosing.{contains_decided, same_edges}
use Rattle.fab_nue.proofs.Searching.Ending.{search_ends_of}
use Rattle.fab_nue.proofs.Searching.Listing.{tree_listed}
use Rattle.fab_nue.proofs.Searching.Runs.{run_leads}
use Rattle.fab_nue.proofs.Searching.SearchTrees.{LeadsTree, settled_or_not, settled_has, unsettled_none, along_connected}
use Rattle.fab_nue.proofs.Laying.LaidRoutes.{escape_none_there}
use Rattle.fab_nue.proofs.Exists.ListedGraphs.{HasEdges, alike, no_edge, joined, where_holds, some_of, acyclic_decided}

module _ (t : Topology) where
  abbrev edge_of : Dep → ℕ × ℕ
  edge_of d = (d.first.0, d.second.0)

  tree_edges : (tree : List (Option ℕ)) → length tree ≡ length t.switches → HasEdges (λ c d. DependsInTree t tree c d)
  tree_edges tree each = record {
    edges = map edge_of (deps_of_tree t tree);
    to = λ a b e. (tree_listed t tree each a b).0 ((same_edges (deps_of_tree t tree) a b).0 e);
    from = λ a b d. (same_edges (deps_of_tree t tree) a b).1 ((tree_listed t tree each a b).1 d);
  }

  -- to one LID
  abbrev EscapesTo : ℕ → Forest → ℕ → ℕ → ℕ → ℕ → Type 0
  EscapesTo lanes f on_lane lid c d = (place : Place) × (place_of t lid ≡ Some place) × (home t lid lanes ≡ on_lane) × DependsInTree t (escape_tree f place.switch.0) c d

  escape_to : (lanes : ℕ) (f : Forest) (on_lane lid : ℕ) → length f.links ≡ length t.switches → HasEdges (λ c d. EscapesTo lanes f on_lane lid c d)
  escape_to lanes f on_lane lid each = go (place_of t lid) refl
    where
      there : (place : Place) → place_of t lid ≡ Some place → (c d : ℕ) → EscapesTo lanes f on_lane lid c d → (home t lid lanes ≡ on_lane) × DependsInTree t (escape_tree f place.switch.0) c d
      there place is c d x = (x.2, (let P : Place → Type 0 = λ q. DependsInTree t (escape_tree f q.switch.0) c d in subst P (same_Some x.0 place (sym x.1 ∙ is)) x.3))

      go : (o : Option Place) → place_of t lid ≡ o → HasEdges (λ c d. EscapesTo lanes f on_lane lid c d)
      go None is = no_edge (λ c d. EscapesTo lanes f on_lane lid c d) (λ c d x. none-some x.0 (sym is ∙ x.1))
      go (Some place) is =
          alike (λ c d. (home t lid lanes ≡ on_lane) × DependsInTree t (escape_tree f place.switch.0) c d) (λ c d. EscapesTo lanes f on_lane lid c d)
          (λ c d x. (place, is, x.0, x.1)) (there place is)
          (where_holds (home t lid lanes ≡ on_lane) (λ c d. DependsInTree t (escape_tree f place.switch.0) c d) (equal (home t lid lanes) on_lane)
          (λ at. tree_edges (escape_tree f place.switch.0) (tree_length f place.switch.0 ∙ each)))

  pub escape_edges : (lanes : ℕ) (f : Forest) (on_lane : ℕ) → length f.links ≡ length t.switches → HasEdges (λ c d. DependsToEscape t lanes f on_lane c d)
  escape_edges lanes f on_lane each =
      alike (λ c d. (lid : ℕ) × Contains (lids_of t) lid × EscapesTo lanes f on_lane lid c d) (λ c d. DependsToEscape t lanes f on_lane c d)
      (λ c d x. (x.0, x.2.0, x.2.1, x.2.2, x.2.3)) (λ c d x. (x.0, lid_in_use t x.0 x.1 x.2, (x.1, x.2, x.3, x.4)))
      (some_of (lids_of t) (λ lid c d. EscapesTo lanes f on_lane lid c d) (λ lid has. escape_to lanes f on_lane lid each))

  module _ (lanes : ℕ) (old : Option Plan) (kept : List ℕ) (forest : ℕ → Forest) (laid : ℕ → List (Option ℕ)) (before on_lane : ℕ) where
    -- a LID is laid before on this lane
    abbrev IsLaidHere : ℕ → Type 0
    IsLaidHere lid = (¬ Contains kept lid) × ((lid < before) × (home t lid lanes ≡ on_lane))

    here_decided : (lid : ℕ) → Decided (IsLaidHere lid)
    here_decided lid =
        both (¬ Contains kept lid) ((lid < before) × (home t lid lanes ≡ on_lane)) (not_decided (Contains kept lid) (contains_decided kept lid))
        (both (lid < before) (home t lid lanes ≡ on_lane) (below_decided lid before) (equal (home t lid lanes) on_lane))

    laid_edges : ((lid : ℕ) → lid < before → IsLaid t kept lid → length (laid lid) ≡ length t.switches) → HasEdges (λ c d. DependsOnLaid t lanes kept laid (λ other. other < before) on_lane c d)
    laid_edges whole =
        alike (λ c d. (lid : ℕ) × Contains (lids_of t) lid × (IsLaidHere lid × DependsInTree t (laid lid) c d)) (λ c d. DependsOnLaid t lanes kept laid (λ other. other < before) on_lane c d)
        (λ c d x. (x.0, (x.1, x.2.0.0), x.2.0.1.0, x.2.0.1.1, x.2.1)) (λ c d x. (x.0, x.1.0, ((x.1.1, (x.2, x.3)), x.4)))
        (some_of (lids_of t) (λ lid c d. IsLaidHere lid × DependsInTree t (laid lid) c d)
        (λ lid has. where_holds (IsLaidHere lid) (λ c d. DependsInTree t (laid lid) c d) (here_decided lid) (λ here. tree_edges (laid lid) (whole lid here.1.0 (has, here.0)))))

    pub in_use_edges : HasEdges (λ c d. DependsToEscapeIn t lanes forest on_lane c d) → HasEdges (λ c d. DependsOnOld t old kept on_lane c d) →
        ((lid : ℕ) → lid < before → IsLaid t kept lid → length (laid lid) ≡ length t.switches) → HasEdges (λ c d. IsInUse t lanes old kept forest laid (λ other. other < before) on_lane c d)
    in_use_edges escape of_old whole =
        joined (λ c d. DependsToEscapeIn t lanes forest on_lane c d) (λ c d. DependsOnOld t old kept on_lane c d ⊎ DependsOnLaid t lanes kept laid (λ other. other < before) on_lane c d) escape
        (joined (λ c d. DependsOnOld t old kept on_lane c d) (λ c d. DependsOnLaid t lanes kept laid (λ other. other < before) on_lane c d) of_old (laid_edges whole))

-- ---- the tree

-- A tree to be laid: it has a channel for every other switch that is connected to the destination, and for none else.
pub record IsTreeTo (t : Topology) (to : ℕ) (tree : List (Option ℕ)) : Type 0 where
  pub is_tree : IsTree t tree
  pub none_there : next tree to ≡ None
  pub none_apart : (s : ℕ) → ¬ AreConnected t s to → next tree s ≡ None
  pub some_else : (s : ℕ) → AreConnected t s to → s ≢ to → (c : ℕ) × (next tree s ≡ Some c)

has_channel : (o : Option ℕ) → (o ≡ None → ⊥) → (c : ℕ) × (o ≡ Some c)
has_channel None other = absurd (other refl)
has_channel (Some c) other = (c, refl)

module _ (t : Topology) (good : IsWellFormed t) (weight : ℕ → ℕ) (used : ℕ → ℕ → Type 0) (to : ℕ) (low : to < length t.switches) where
  completed_to : (acyclic : IsAcyclic used) (tree : List (Option ℕ)) → Completes t weight used to tree → IsTreeTo t to tree
  completed_to acyclic tree x = record {
    is_tree = leads.is_tree;
    none_there = leads.none_there;
    none_apart = λ s apart. elim (settled_or_not to tree s) [ inl settled ↦ absurd (apart (along_connected t s to _ (leads.leads s settled))) | inr not ↦ unsettled_none to tree s not ];
    some_else = λ s connected other. settled_has to tree s other (x.complete s connected);
  }
    where
      leads : LeadsTree t used to tree
      leads = run_leads t weight used to good acyclic x.steps tree x.run

  escape_to_switch : (on_lane : ℕ) (f : Forest) → IsEscapeForest t on_lane f → IsTreeTo t to (escape_tree f to)
  escape_to_switch on_lane f forest = record {
    is_tree = is_tree;
    none_there = escape_none_there f to;
    none_apart = none_apart;
    some_else = λ s connected other. has_channel (next (escape_tree f to) s) (some_next s connected other);
  }
    where
      is_tree : IsTree t (escape_tree f to)
      is_tree = escape_tree_is_tree t on_lane f to good forest low

      none_apart : (s : ℕ) → ¬ AreConnected t s to → next (escape_tree f to) s ≡ None
      none_apart s apart = elim (cases_lt s (length f.links)) [
        | inl less ↦ next_in_tree f s to less ∙ (no_next_channel t on_lane f good forest s to (omega (arith, less, forest.each_link)) low).1 (inr apart)
        | inr past ↦ past_none s past
      ]
        where
          past_none : (s : ℕ) → length f.links ≤ s → next (escape_tree f to) s ≡ None
          past_none s past = get_or_past (escape_tree f to) s None (omega (arith, past, tree_length f to))

      some_next : (s : ℕ) → AreConnected t s to → s ≢ to → next (escape_tree f to) s ≡ None → ⊥
      some_next s connected other none =
          let less : s < length t.switches = connected_low s connected in
          elim ((no_next_channel t on_lane f good forest s to less low).0 (sym (next_in_tree f s to (omega (arith, less, forest.each_link))) ∙ none)) [
            | inl same ↦ other same
            | inr apart ↦ apart connected
          ]
        where
          connected_low : (s : ℕ) → AreConnected t s to → s < length t.switches
          connected_low s connected = connected_within t good to s (connected_back t good s to connected) low

  -- beside a listed graph without closed walks there is a tree to be laid
  pub laid_tree_exists : IsAcyclic used → HasEdges used → (on_lane : ℕ) (f : Forest) → IsEscapeForest t on_lane f → (tree : List (Option ℕ)) × IsLaidTree t weight used f to tree × IsTreeTo t to tree
  laid_tree_exists acyclic listed on_lane f forest = go (search_ends_of t weight used to decide good acyclic)
    where
      decide : (tree : List (Option ℕ)) → length tree ≡ length t.switches → Decided (ClosesNone t used tree)
      decide tree each = acyclic_decided (λ c d. used c d ⊎ DependsInTree t tree c d) (joined used (λ c d. DependsInTree t tree c d) listed (tree_edges t tree each))

      go : ((tree : List (Option ℕ)) × Completes t weight used to tree) ⊎ GetsStuck t weight used to → (tree : List (Option ℕ)) × IsLaidTree t weight used f to tree × IsTreeTo t to tree
      go (inl x) = (x.0, inl x.1, completed_to acyclic x.0 x.1)
      go (inr stuck) = (escape_tree f to, inr (stuck, refl), escape_to_switch on_lane f forest)
