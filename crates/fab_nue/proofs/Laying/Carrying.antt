-- What a laid tree carries is what the finished tables carry for its LID.
use Rattle.std.proofs.Common.{◌≡◌, ◌≢◌, ℕ, zero, suc, ◌<◌, ◌⊎◌, inl, inr, List, [], ◌∷◌, length, None, Option, refl, sym, ◌∙◌, ap, arith, cond}
use Rattle.std.specs.Prelude.{◌==◌}
use Rattle.std.specs.List.{list_any}
use Rattle.std.proofs.lemmas.Bool.{cases_lt, cases_eq}
use Rattle.std.proofs.lemmas.List.{get_or_past}
use Rattle.std.proofs.lemmas.List.FromFn.{get_or-map-range_with_len, length-map-range_with_len}
use Rattle.fab_model.specs.declared.rows.TerminalRow.{TerminalRow}
use Rattle.fab_model.specs.Topology.{Topology}
use Rattle.fab_model.specs.Connected.{AreConnected, IsConnectedTo}
use Rattle.fab_model.specs.WellFormed.{IsWellFormed}
use Rattle.fab_tables.specs.declared.plan.Plan.{Plan}
use Rattle.fab_tables.specs.Entries.{Entries, entry}
use Rattle.fab_tables.specs.Route.{hop_by, after_hop, route_within, route}
use Rattle.fab_tables.specs.Trees.{next}
use Rattle.fab_tables.specs.TreeWalks.{walk_of, terminals_through}
use Rattle.fab_tables.proofs.Paths.FallingRoutes.{place_below}
use Rattle.fab_sssp.specs.Carried.{terminals_carried}
use Rattle.fab_escape.specs.Forest.{Forest, escape_next, escape_tree}
use Rattle.fab_escape.specs.EscapeSet.{home}
use Rattle.fab_escape.specs.Laws.{EndsWhereItShould}
use Rattle.fab_nue.specs.Search.{ComesTo}
use Rattle.fab_nue.specs.NuePlan.{IsLaid, IsLaidTree}
use Rattle.fab_nue.specs.Laying.{AreLaid}
use Rattle.fab_tables.proofs.Paths.TreeWalks.{goes_walk_of}
use Rattle.fab_nue.proofs.Searching.SearchTrees.{LeadsTree, empty_next, settled_or_not, unsettled_none, along_connected}
use Rattle.fab_nue.proofs.Searching.Runs.{run_leads, step_acyclic}
use Rattle.fab_nue.proofs.Laying.Reaching.{EscapeTreesAre, home_below, laid_is_tree}
use Rattle.fab_nue.proofs.Laying.LaidRoutes.{laid_route}
use Rattle.fab_nue.proofs.Searching.SameSearch.{sum_same}
use Rattle.fab_nue.proofs.Laying.LidPlaces.{has_place}

same_or_other : (xs ys : List ℕ) → (xs ≡ ys) ⊎ (xs ≢ ys)
same_or_other [] [] = inl refl
same_or_other [] (y ∷ ys) = inr (λ e. cc)
same_or_other (x ∷ xs) [] = inr (λ e. cc)
same_or_other (x ∷ xs) (y ∷ ys) = both (cases_eq x y) (same_or_other xs ys)
  where
    both : (x ≡ y) ⊎ (x ≢ y) → (xs ≡ ys) ⊎ (xs ≢ ys) → ((x ∷ xs) ≡ (y ∷ ys)) ⊎ ((x ∷ xs) ≢ (y ∷ ys))
    both (inl a) (inl b) = inl cc
    both (inr a) b = inr (λ e. a cc)
    both (inl a) (inr b) = inr (λ e. b cc)

-- a switch that isn't connected to the destination has no channel
run_apart : (t : Topology) (weight : ℕ → ℕ) (used : ℕ → ℕ → Type 0) (to : ℕ) → IsWellFormed t → (n : ℕ) (tree : List (Option ℕ)) → ComesTo t weight used to n tree → (s : ℕ) →
    ¬ AreConnected t s to → next tree s ≡ None
run_apart t weight used to good zero tree run s apart = ap (λ z. next z s) run ∙ empty_next t s
run_apart t weight used to good (suc n) tree run s apart =
    let x : LeadsTree t used to tree = run_leads t weight used to good (step_acyclic t weight used to run.0 tree run.2) (suc n) tree run in
    elim (settled_or_not to tree s) [ inl settled ↦ absurd (apart (along_connected t s to (walk_of t tree s) (x.leads s settled))) | inr not ↦ unsettled_none to tree s not ]

escape_apart : (t : Topology) (f : Forest) (to s : ℕ) → length f.links ≡ length t.switches → EndsWhereItShould t f → to < length t.switches → ¬ AreConnected t s to → next (escape_tree f to) s ≡ None
escape_apart t f to s whole ends low apart = elim (cases_lt s (length f.links)) [
  | inl less ↦ get_or-map-range_with_len (λ z. escape_next f z to) 0 (length f.links) s s None less (omega arith) ∙ (ends s to (omega (arith, less, whole)) low).1 (inr apart)
  | inr past ↦ (let each : length (escape_tree f to) ≡ length f.links = length-map-range_with_len (λ z. escape_next f z to) 0 (length f.links) in get_or_past (escape_tree f to) s None (omega (arith, past, each)))
]

-- its route has no channel
pub apart_route : (t : Topology) (e : Entries) (lid s : ℕ) → entry e s lid ≡ 255 → (route t e s lid).channels ≡ []
apart_route t e lid s none = within (length t.switches)
  where
    within : (n : ℕ) → (route_within t e lid n s).channels ≡ []
    within zero = refl
    within (suc n) = ap (λ port. (after_hop t (λ z. route_within t e lid n z) (hop_by t lid s port)).channels) none

module _ (t : Topology) (lanes : ℕ) (old : Option Plan) (kept : List ℕ) (forest : ℕ → Forest) (laid : ℕ → List (Option ℕ)) (e : Entries) (good : IsWellFormed t) (some : 0 < lanes)
    (laying : AreLaid t lanes old kept forest laid e) (trees : EscapeTreesAre t lanes forest) (ends : (on_lane : ℕ) → on_lane < lanes → EndsWhereItShould t (forest on_lane)) (lid : ℕ) (is : IsLaid t kept lid) where
  apart_next : (s : ℕ) → ¬ AreConnected t s (has_place t lid is.0).0.switch.0 → next (laid lid) s ≡ None
  apart_next s apart = by_kind (laying.trees lid (has_place t lid is.0).0 is (has_place t lid is.0).1)
    where
      low : home t lid lanes < lanes
      low = home_below t lid lanes (has_place t lid is.0).0 some (has_place t lid is.0).1

      by_kind : {weight : ℕ → ℕ} {used : ℕ → ℕ → Type 0} → IsLaidTree t weight used (forest (home t lid lanes)) (has_place t lid is.0).0.switch.0 (laid lid) → next (laid lid) s ≡ None
      by_kind {weight} {used} (inl search) = run_apart t weight used (has_place t lid is.0).0.switch.0 good search.steps (laid lid) search.run s apart
      by_kind (inr fallback) = ap (λ z. next z s) fallback.1
          ∙ escape_apart t (forest (home t lid lanes)) (has_place t lid is.0).0.switch.0 s (laying.forests (home t lid lanes) low).each_link (ends (home t lid lanes) low)
          (place_below t good lid (has_place t lid is.0).0 (has_place t lid is.0).1) apart

  -- from every switch the route is the tree's walk
  pub every_route : (s : ℕ) → (route t e s lid).channels ≡ walk_of t (laid lid) s
  every_route s = elim (same_or_other (route t e s lid).channels (walk_of t (laid lid) s)) [
    | inl same ↦ same
    | inr other ↦ apart_both other
  ]
    where
      apart_both : (route t e s lid).channels ≢ walk_of t (laid lid) s → (route t e s lid).channels ≡ walk_of t (laid lid) s
      apart_both other =
          let apart : ¬ IsConnectedTo t s lid = λ c. other (laid_route t lanes old kept forest laid e good some laying trees lid is s c) in
          apart_route t e lid s (laying.tables.fixed.apart s lid apart)
          ∙ sym (goes_walk_of t (laid lid) s [] (laid_is_tree t lanes old kept forest laid e good some laying trees lid (has_place t lid is.0).0 is (has_place t lid is.0).1).each_switch
          (apart_next s (λ c. apart ((has_place t lid is.0).0, (has_place t lid is.0).1, c))))

  pub carried_is_through : (c : ℕ) → terminals_carried t e lid c ≡ terminals_through t (laid lid) c
  carried_is_through c = sum_same (λ (r : TerminalRow). cond {A = ℕ} (list_any (λ d. d == c) ((route t e r.switch.0 lid).channels)) 1 0)
      (λ (r : TerminalRow). cond {A = ℕ} (list_any (λ d. d == c) (walk_of t (laid lid) r.switch.0)) 1 0) t.terminals
      (λ r. ap (λ cs. cond {A = ℕ} (list_any (λ d. d == c) cs) 1 0) (every_route r.switch.0))
