-- Routes to laid LIDs are the walks of their trees, and their dependencies are those of the trees.
use Rattle.std.proofs.Common.{◌≡◌, ◌≢◌, ℕ, zero, suc, ◌<◌, ◌⊎◌, inl, inr, Bool, true, false, List, ◌||◌, eqb, length, Some, None, Option, refl, sym, ◌∙◌, ap, subst, arith}
use Rattle.std.specs.Prelude.{if◌then◌else◌, ◌==◌, not}
use Rattle.std.proofs.lemmas.Bool.{cases_lt, eq-eqb}
use Rattle.std.proofs.lemmas.List.{get_or_past}
use Rattle.std.proofs.lemmas.List.FromFn.{get_or-map-range_with_len, length-map-range_with_len}
use Rattle.std.proofs.lemmas.Option.{same_Some}
use Rattle.fab_model.specs.declared.rows.Place.{Place}
use Rattle.fab_model.specs.Topology.{Topology, place_of}
use Rattle.fab_model.specs.Connected.{AreConnected, IsConnectedTo}
use Rattle.fab_model.specs.WellFormed.{IsWellFormed}
use Rattle.fab_tables.specs.declared.end.End.TheVariants.{Delivered, Loop}
use Rattle.fab_tables.specs.declared.plan.Plan.{Plan}
use Rattle.fab_tables.specs.Entries.{Entries, entry}
use Rattle.fab_tables.specs.Route.{Route, Hop, hop_by, tip, after_hop, route_within, route}
use Rattle.fab_tables.specs.Route.Hop.{Along, Stop}
use Rattle.fab_tables.specs.Trees.{next}
use Rattle.fab_tables.specs.TreeWalks.{GoesAlong, IsTree, DependsInTree, walk_of}
use Rattle.fab_tables.specs.VirtualChannels.{Follow}
use Rattle.fab_tables.proofs.Paths.FallingRoutes.{own_delivers, goes_along, tip_connected}
use Rattle.fab_tables.proofs.Paths.RouteTurns.{along_channel, TurnsAt, follow_turns}
use Rattle.fab_escape.specs.Forest.{Forest, root_of, link_of, link_into, down_or_up, escape_next, escape_tree}
use Rattle.fab_escape.specs.EscapeSet.{home}
use Rattle.fab_nue.specs.Search.{ComesTo}
use Rattle.fab_nue.specs.NuePlan.{IsLaid, IsLaidTree, IsPortInTree}
use Rattle.fab_nue.specs.Laying.{AreLaid}
use Rattle.fab_nue.proofs.Searching.Growing.{same_or_other}
use Rattle.fab_tables.proofs.Paths.TreeWalks.{goes_walk_of}
use Rattle.fab_nue.proofs.Searching.SearchTrees.{empty_next}
use Rattle.fab_nue.proofs.Searching.Runs.{run_leads, step_acyclic}
use Rattle.fab_nue.proofs.Laying.Reaching.{EscapeTreesAre, port_of_tree, laid_is_tree, laid_reaches}

stops_otherwise : (c : ℕ) → Stop Delivered ≡ Along c → ⊥
stops_otherwise c e = cc

module _ (t : Topology) (e : Entries) (lid : ℕ) (place : Place) (tree : List (Option ℕ)) (good : IsWellFormed t) (is : place_of t lid ≡ Some place) (tree_is : IsTree t tree)
    (own : hop_by t lid place.switch.0 (entry e place.switch.0 lid) ≡ Stop Delivered)
    (ports : (s : ℕ) → AreConnected t s place.switch.0 → s ≢ place.switch.0 → IsPortInTree t tree s (entry e s lid)) where
  joined : (s : ℕ) → IsConnectedTo t s lid → AreConnected t s place.switch.0
  joined s c = let P : Place → Type 0 = λ q. AreConnected t s q.switch.0 in subst P (same_Some c.0 place (sym c.1 ∙ is)) c.2

  -- an entry that goes along a channel goes along the tree's
  pub along_tree : (s c : ℕ) → IsConnectedTo t s lid → hop_by t lid s (entry e s lid) ≡ Along c → next tree s ≡ Some c
  along_tree s c connected along = elim (same_or_other s place.switch.0) [
    | inl same ↦ absurd (stops_otherwise c (sym own ∙ (let P : ℕ → Type 0 = λ x. hop_by t lid x (entry e x lid) ≡ Along c in subst P same along)))
    | inr other ↦
        (let q : IsPortInTree t tree s (entry e s lid) = ports s (joined s connected) other in
        q.2 ∙ sym (port_of_tree t tree s (entry e s lid) good tree_is q) ∙ along_channel t lid s (entry e s lid) c along)
  ]

  on : (s c : ℕ) → IsConnectedTo t s lid → hop_by t lid s (entry e s lid) ≡ Along c → IsConnectedTo t (tip t c) lid
  on s c connected along = (connected.0, connected.1, tip_connected t good s (entry e s lid) c connected.0.switch.0 (along_channel t lid s (entry e s lid) c along) connected.2)

  -- channels that follow each other on a route depend in the tree
  pub route_depends : (s c d : ℕ) → IsConnectedTo t s lid → Follow (route t e s lid).channels c d → DependsInTree t tree c d
  route_depends s c d connected follow =
      let turn : TurnsAt t e lid (λ x. IsConnectedTo t x lid) c d = follow_turns t e lid (λ x. IsConnectedTo t x lid) on s c d connected follow in
      (turn.0, along_tree turn.0 c turn.1 turn.2, along_tree (tip t c) d (on turn.0 c turn.1 turn.2) turn.3)

  module _ (root : next tree place.switch.0 ≡ None) where
    goes_along_tree : (n s : ℕ) → IsConnectedTo t s lid → (route_within t e lid n s).end ≡ Delivered → GoesAlong t tree s (route_within t e lid n s).channels
    goes_along_tree zero s connected delivered = absurd (loops delivered)
      where
        loops : Loop ≡ Delivered → ⊥
        loops x = cc
    goes_along_tree (suc n) s connected delivered = go (λ c k x. goes_along_tree n (tip t c) k x) (hop_by t lid s (entry e s lid)) refl delivered
      where
        rest : ℕ → Route
        rest x = route_within t e lid n x

        ends_here : (end : Hop) → hop_by t lid s (entry e s lid) ≡ end → (s ≡ place.switch.0) ⊎ (s ≢ place.switch.0) → ((c : ℕ) → end ≡ Along c → ⊥) → next tree s ≡ None
        ends_here end at (inl same) none = subst (λ x. next tree x ≡ None) (sym same) root
        ends_here end at (inr other) none =
            let q : IsPortInTree t tree s (entry e s lid) = ports s (joined s connected) other in
            absurd (none q.0 (sym at ∙ goes_along t lid s (entry e s lid) q.0 place good is other (port_of_tree t tree s (entry e s lid) good tree_is q)))

        go : ((c : ℕ) → IsConnectedTo t (tip t c) lid → (rest (tip t c)).end ≡ Delivered → GoesAlong t tree (tip t c) (rest (tip t c)).channels) → (h : Hop) →
            hop_by t lid s (entry e s lid) ≡ h → (after_hop t rest h).end ≡ Delivered → GoesAlong t tree s (after_hop t rest h).channels
        go more (Stop end) at x = ends_here (Stop end) at (same_or_other s place.switch.0) (λ c y. cc)
        go more (Along c) at x = (along_tree s c connected at, more c (on s c connected at) x)

    -- the route is the tree's walk
    pub route_is_walk : (s : ℕ) → IsConnectedTo t s lid → (route t e s lid).end ≡ Delivered → (route t e s lid).channels ≡ walk_of t tree s
    route_is_walk s connected delivered =
        sym (goes_walk_of t tree s (route t e s lid).channels tree_is.each_switch
        (goes_along_tree (length t.switches) s connected delivered))

-- ---- no channel at the destination

run_none_there : (t : Topology) (weight : ℕ → ℕ) (used : ℕ → ℕ → Type 0) (to : ℕ) → IsWellFormed t → (n : ℕ) (tree : List (Option ℕ)) → ComesTo t weight used to n tree → next tree to ≡ None
run_none_there t weight used to good zero tree run = ap (λ x. next x to) run ∙ empty_next t to
run_none_there t weight used to good (suc n) tree run = (run_leads t weight used to good (step_acyclic t weight used to run.0 tree run.2) (suc n) tree run).none_there

pub escape_none_there : (f : Forest) (to : ℕ) → next (escape_tree f to) to ≡ None
escape_none_there f to = elim (cases_lt to (length f.links)) [
  | inl less ↦
      get_or-map-range_with_len (λ s. escape_next f s to) 0 (length f.links) to to None less (omega arith)
      ∙ there (eqb to to) (not (root_of f to == root_of f to)) (down_or_up (link_into f to to) (link_of f to)) (eq-eqb to to refl)
  | inr past ↦ (let whole : length (escape_tree f to) ≡ length f.links = length-map-range_with_len (λ s. escape_next f s to) 0 (length f.links) in get_or_past (escape_tree f to) to None (omega (arith, past, whole)))
]
  where
    there : (a b : Bool) (o : Option ℕ) → a ≡ true → (if a || b then None else o) ≡ None
    there true b o h = refl
    there false b o h = cc

-- ---- the plan

module _ (t : Topology) (lanes : ℕ) (old : Option Plan) (kept : List ℕ) (forest : ℕ → Forest) (laid : ℕ → List (Option ℕ)) (e : Entries) (good : IsWellFormed t) (some : 0 < lanes)
    (laying : AreLaid t lanes old kept forest laid e) (trees : EscapeTreesAre t lanes forest) (lid : ℕ) (is : IsLaid t kept lid) where
  none_there : (place : Place) → place_of t lid ≡ Some place → next (laid lid) place.switch.0 ≡ None
  none_there place at = by_kind (laying.trees lid place is at)
    where
      by_kind : {weight : ℕ → ℕ} {used : ℕ → ℕ → Type 0} → IsLaidTree t weight used (forest (home t lid lanes)) place.switch.0 (laid lid) → next (laid lid) place.switch.0 ≡ None
      by_kind {weight} {used} (inl search) = run_none_there t weight used place.switch.0 good search.steps (laid lid) search.run
      by_kind (inr fallback) = ap (λ x. next x place.switch.0) fallback.1 ∙ escape_none_there (forest (home t lid lanes)) place.switch.0

  ports_at : (place : Place) → place_of t lid ≡ Some place → (s : ℕ) → AreConnected t s place.switch.0 → s ≢ place.switch.0 → IsPortInTree t (laid lid) s (entry e s lid)
  ports_at place at s connected other = laying.tables.of_laid s lid place.switch.0 is (record { place = place; in_use = at; at_switch = refl; connected = connected; other = other })

  pub laid_depends : (s c d : ℕ) → IsConnectedTo t s lid → Follow (route t e s lid).channels c d → DependsInTree t (laid lid) c d
  laid_depends s c d connected follow =
      route_depends t e lid connected.0 (laid lid) good connected.1 (laid_is_tree t lanes old kept forest laid e good some laying trees lid connected.0 is connected.1)
      (own_delivers t e lid connected.0 good laying.tables.fixed connected.1) (ports_at connected.0 connected.1) s c d connected follow

  pub laid_route : (s : ℕ) → IsConnectedTo t s lid → (route t e s lid).channels ≡ walk_of t (laid lid) s
  laid_route s connected =
      route_is_walk t e lid connected.0 (laid lid) good connected.1 (laid_is_tree t lanes old kept forest laid e good some laying trees lid connected.0 is connected.1)
      (own_delivers t e lid connected.0 good laying.tables.fixed connected.1) (ports_at connected.0 connected.1) (none_there connected.0 connected.1) s connected
      (laid_reaches t lanes old kept forest laid e good some laying trees lid s is connected)
