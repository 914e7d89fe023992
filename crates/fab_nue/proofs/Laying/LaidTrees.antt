-- A laid tree leads to its LID from every connected switch, whether its search completes or the escape tree stands in.
use Rattle.std.proofs.Common.{◌≡◌, ◌≢◌, ℕ, zero, suc, ◌+◌, ◌<◌, ◌≤◌, ◌⊎◌, inl, inr, List, ◌++◌, length, Option, Some, None, refl, sym, ◌∙◌, ap, subst, arith, length-append}
use Rattle.std.specs.Prelude.{IsSome, slice_get, slice_set}
use Rattle.std.proofs.lemmas.Option.{none-some}
use Rattle.std.proofs.lemmas.List.Sorted.{length_permutation}
use Rattle.fab_graph.specs.Walks.{SameGraph}
use Rattle.fab_graph.proofs.Decided.{Decided}
use Rattle.fab_graph.proofs.Same.{swapped}
use Rattle.fab_model.specs.declared.rows.Place.{Place}
use Rattle.fab_model.specs.Topology.{Topology, place_of}
use Rattle.fab_model.specs.Connected.{AreConnected, IsConnectedTo, LeadsAlong}
use Rattle.fab_model.specs.WellFormed.{IsWellFormed}
use Rattle.fab_tables.specs.FixedEntries.{IsChosen}
use Rattle.fab_tables.specs.Trees.{next}
use Rattle.fab_tables.specs.TreeWalks.{IsTree, walk_of, DependsInTree}
use Rattle.fab_tables.proofs.Joined.ConnectedDecided.{connected_decided}
use Rattle.fab_tables.proofs.Paths.FallingRoutes.{place_below, connected_below}
use Rattle.fab_tables.proofs.Paths.TreeWalks.{next_below}
use Rattle.fab_depgraph.specs.declared.dep.Dep.{Dep}
use Rattle.fab_depgraph.specs.Listed.{Dependencies, IsListed}
use Rattle.fab_escape.specs.Forest.{Forest, escape_next, escape_tree}
use Rattle.fab_escape.specs.Trees.{IsEscapeForest}
use Rattle.fab_escape.specs.Laws.{EndsWhereItShould}
use Rattle.fab_escape.proofs.EscapeTrees.{escape_tree_is_tree}
use Rattle.fab_escape.proofs.EndsOfRoutes.{no_next_channel}
use Rattle.fab_nue.specs.Search.{IsSettled, ComesTo, Completes, GetsStuck}
use Rattle.fab_nue.specs.Added.{deps_of_tree, AddsTree}
use Rattle.fab_nue.specs.NuePlan.{IsLaidTree}
use Rattle.fab_nue.specs.Arenas.{listed_in, spare_in, ChangesLane}
use Rattle.fab_nue.specs.Laying.{IsTreeToward, IsLaidIn}
use Rattle.fab_nue.proofs.Searching.Growing.{same_or_other}
use Rattle.fab_nue.proofs.Searching.Listing.{union_listed, few_deps}
use Rattle.fab_nue.proofs.Searching.SearchTrees.{LeadsTree, is_there, settled_has, along_connected, empty_leads_tree}
use Rattle.fab_nue.proofs.Searching.Runs.{run_leads, step_acyclic}
use Rattle.fab_nue.proofs.Lanes.LaneLists.{changed, listed_here, listed_at, spare_here, spare_at}
use Rattle.fab_nue.proofs.Lanes.Forests.{next_of}

-- what every tree of a run is, whatever is in use
record IsRunTree (t : Topology) (to : ℕ) (tree : List (Option ℕ)) : Type 0 where
  is_tree : IsTree t tree
  none_there : next tree to ≡ None
  leads : (s : ℕ) → IsSettled to tree s → LeadsAlong t s (walk_of t tree s) to

of_leads : (t : Topology) (used : ℕ → ℕ → Type 0) (to : ℕ) (tree : List (Option ℕ)) → LeadsTree t used to tree → IsRunTree t to tree
of_leads t used to tree x = record { is_tree = x.is_tree; none_there = x.none_there; leads = x.leads }

run_tree : (t : Topology) (weight : ℕ → ℕ) (used : ℕ → ℕ → Type 0) (to : ℕ) → IsWellFormed t → (n : ℕ) (tree : List (Option ℕ)) → ComesTo t weight used to n tree → IsRunTree t to tree
run_tree t weight used to good zero tree run = subst (IsRunTree t to) (sym run) (of_leads t (λ (a b : ℕ). ⊥) to _ (empty_leads_tree t (λ (a b : ℕ). ⊥) to (λ a w. w.1.1)))
run_tree t weight used to good (suc n) tree run = of_leads t used to tree (run_leads t weight used to good (step_acyclic t weight used to run.0 tree run.2) (suc n) tree run)

module _ (t : Topology) (lid : ℕ) (place : Place) (good : IsWellFormed t) (at : place_of t lid ≡ Some place) where
  completed_toward : (weight : ℕ → ℕ) (used : ℕ → ℕ → Type 0) (tree : List (Option ℕ)) → Completes t weight used place.switch.0 tree → IsTreeToward t lid tree
  completed_toward weight used tree search =
      let x : IsRunTree t place.switch.0 tree = run_tree t weight used place.switch.0 good search.steps tree search.run in
      record {
        is_tree = x.is_tree;
        place = place;
        in_use = at;
        chosen = λ s c own. record {
          place = place;
          in_use = at;
          at_switch = refl;
          connected = along_connected t s place.switch.0 (walk_of t tree s) (x.leads s (inr (is_there (next tree s) c own)));
          other = λ same. none-some c (sym x.none_there ∙ ap (λ k. next tree k) (sym same) ∙ own);
        };
        every = λ s chosen.
            let has : (c : ℕ) × (next tree s ≡ Some c) = settled_has place.switch.0 tree s chosen.other (search.complete s chosen.connected) in
            is_there (next tree s) has.0 has.1;
      }

  escape_toward : (lane : ℕ) (f : Forest) → IsEscapeForest t lane f → IsTreeToward t lid (escape_tree f place.switch.0)
  escape_toward lane f forest = record { is_tree = is_tree; place = place; in_use = at; chosen = chosen; every = every }
    where
      to : ℕ
      to = place.switch.0

      low : to < length t.switches
      low = place_below t good lid place at

      is_tree : IsTree t (escape_tree f to)
      is_tree = escape_tree_is_tree t lane f to good forest low

      ends : EndsWhereItShould t f
      ends = no_next_channel t lane f good forest

      chosen : (s c : ℕ) → next (escape_tree f to) s ≡ Some c → IsChosen t s lid to
      chosen s c own = record {
        place = place;
        in_use = at;
        at_switch = refl;
        connected = elim (connected_decided t s to) [ inl joined ↦ joined | inr apart ↦ absurd (not_none (inr apart)) ];
        other = λ same. not_none (inl same);
      }
        where
          here : s < length t.switches
          here = omega (arith, next_below (escape_tree f to) s c own, is_tree.each_switch)

          not_none : (s ≡ to) ⊎ (¬ AreConnected t s to) → ⊥
          not_none x = none-some c (sym ((ends s to here low).1 x) ∙ sym (next_of f to s (omega (arith, here, forest.each_link))) ∙ own)

      every : (s : ℕ) → IsChosen t s lid to → IsSome (next (escape_tree f to) s)
      every s is = go (escape_next f s to) refl
        where
          here : s < length t.switches
          here = connected_below t good s lid (place, at, is.connected)

          go : (o : Option ℕ) → escape_next f s to ≡ o → IsSome (next (escape_tree f to) s)
          go None none = elim ((ends s to here low).0 none) [ inl same ↦ absurd (is.other same) | inr apart ↦ absurd (apart is.connected) ]
          go (Some c) some = is_there (next (escape_tree f to) s) c (next_of f to s (omega (arith, here, forest.each_link)) ∙ some)

  pub laid_toward : (weight : ℕ → ℕ) (used : ℕ → ℕ → Type 0) (lane : ℕ) (f : Forest) (tree : List (Option ℕ)) → IsEscapeForest t lane f → IsLaidTree t weight used f place.switch.0 tree → IsTreeToward t lid tree
  laid_toward weight used lane f tree forest (inl search) = completed_toward weight used tree search
  laid_toward weight used lane f tree forest (inr fallback) = subst (IsTreeToward t lid) (sym fallback.1) (escape_toward lane f forest)

-- ---- what laying leaves of the arenas

module _ (t : Topology) (weight : ℕ → ℕ) (f : Forest) (lid lane : ℕ) (place : Place) (old : List Dependencies) (g h : Dependencies) (at : place_of t lid ≡ Some place) (is : slice_get old lane ≡ Some g) (kept : h.channels ≡ g.channels) where
  before : listed_in old lane ≡ g.listed
  before = listed_at old lane g is

  after : listed_in (slice_set old lane h) lane ≡ h.listed
  after = listed_here old lane g h is

  pub laid_by_search : (tree : List (Option ℕ)) → length tree ≡ length t.switches → Completes t weight (IsListed g.listed) place.switch.0 tree → AddsTree t tree g h → IsLaidIn t weight f lid lane old (slice_set old lane h) tree
  laid_by_search tree each search adds = record {
    changes = changed lane old g h is kept;
    place = place;
    in_use = at;
    laid = inl (subst (λ xs. Completes t weight (IsListed xs) place.switch.0 tree) (sym before) search);
    union = subst (λ ys. SameGraph (λ (c d : ℕ). IsListed (listed_in old lane) c d ⊎ DependsInTree t tree c d) (IsListed ys))
        (ap (λ xs. xs ++ adds.added) before ∙ sym adds.listed ∙ sym after)
        (swapped (IsListed (listed_in old lane ++ adds.added)) (λ (c d : ℕ). IsListed (listed_in old lane) c d ⊎ DependsInTree t tree c d) (union_listed t (listed_in old lane) adds.added tree each adds.once));
    spare = omega (arith, spare_at old lane g is, spare_here old lane g h is, adds.spare, length_permutation adds.added (deps_of_tree t tree) adds.once, few_deps t tree);
  }

  pub laid_by_escape : GetsStuck t weight (IsListed g.listed) place.switch.0 → h.listed ≡ g.listed → h.spare ≡ g.spare →
      ((c d : ℕ) → DependsInTree t (escape_tree f place.switch.0) c d → IsListed (listed_in old lane) c d) → IsLaidIn t weight f lid lane old (slice_set old lane h) (escape_tree f place.switch.0)
  laid_by_escape stuck listed spare escapes = record {
    changes = changed lane old g h is kept;
    place = place;
    in_use = at;
    laid = inr (subst (λ xs. GetsStuck t weight (IsListed xs) place.switch.0) (sym before) stuck, refl);
    union = λ c d. (
      (λ x. subst (λ ys. IsListed ys c d) (before ∙ sym listed ∙ sym after) (elim x [ inl l ↦ l | inr own ↦ escapes c d own ])),
      (λ l. inl (subst (λ ys. IsListed ys c d) (after ∙ listed ∙ sym before) l)),
    );
    spare = omega (arith, spare_at old lane g is, spare_here old lane g h is, spare);
  }
