-- Tables of Nue reach: kept LIDs have the old routes, and to laid LIDs the walk along the tree becomes shorter at each switch.
use Rattle.std.proofs.Common.{◌≡◌, ◌≢◌, ℕ, zero, suc, ◌%◌, ◌<◌, ◌⊎◌, inl, inr, List, [], length, Some, None, Option, option_map, unwrap_or, refl, sym, ◌∙◌, ap, subst, arith}
use Rattle.std.specs.Prelude.{Contains, IfSome}
use Rattle.std.proofs.lemmas.Option.{same_Some}
use Rattle.fab_model.specs.declared.rows.ChannelRow.{ChannelRow}
use Rattle.fab_model.specs.declared.rows.Place.{Place}
use Rattle.fab_model.specs.Topology.{Topology, place_of, channel_at}
use Rattle.fab_model.specs.Connected.{AreConnected, IsConnectedTo}
use Rattle.fab_model.specs.WellFormed.{IsWellFormed}
use Rattle.fab_model.proofs.Finds.{channels_are_found}
use Rattle.fab_tables.specs.declared.end.End.TheVariants.{Delivered}
use Rattle.fab_tables.specs.declared.plan.Plan.{Plan}
use Rattle.fab_tables.specs.Certified.{Reaches}
use Rattle.fab_tables.specs.Entries.{Entries, entry}
use Rattle.fab_tables.specs.Route.{Route, hop_by, tip, route}
use Rattle.fab_tables.specs.Route.Hop.{Stop}
use Rattle.fab_tables.specs.Trees.{LeavesSwitch}
use Rattle.fab_tables.specs.TreeWalks.{IsTree, walk_of}
use Rattle.fab_tables.proofs.Paths.FallingRoutes.{GoesNearer, falling_reaches, own_delivers, goes_along, place_below, tip_connected}
use Rattle.fab_tables.proofs.Joined.Lids.{connected_in_use}
use Rattle.fab_escape.specs.Forest.{Forest, escape_tree}
use Rattle.fab_escape.specs.EscapeSet.{home}
use Rattle.fab_nue.specs.Search.{ComesTo}
use Rattle.fab_nue.specs.Kept.{AreKept, CanStay, smaller}
use Rattle.fab_nue.specs.NuePlan.{DependsToEscapeIn, IsLaid, IsLaidTree, IsPortInTree}
use Rattle.fab_nue.specs.Laying.{AreLaid}
use Rattle.fab_nue.proofs.Searching.Growing.{same_or_other}
use Rattle.fab_nue.proofs.Searching.Choosing.{contains_decided}
use Rattle.fab_tables.proofs.Paths.TreeWalks.{walk_of_next}
use Rattle.fab_nue.proofs.Searching.SearchTrees.{empty_leads_tree}
use Rattle.fab_nue.proofs.Searching.Runs.{run_leads, step_acyclic}
use Rattle.fab_tables.proofs.Paths.SameRoutes.{connected_routes_same}

-- whatever is in use, the trees of a run are trees
pub run_is_tree : (t : Topology) (weight : ℕ → ℕ) (used : ℕ → ℕ → Type 0) (to : ℕ) → IsWellFormed t → (n : ℕ) (tree : List (Option ℕ)) → ComesTo t weight used to n tree → IsTree t tree
run_is_tree t weight used to good zero tree run = subst (IsTree t) (sym run) (empty_leads_tree t (λ (a b : ℕ). ⊥) to (λ a w. w.1.1)).is_tree
run_is_tree t weight used to good (suc n) tree run = (run_leads t weight used to good (step_acyclic t weight used to run.0 tree run.2) (suc n) tree run).is_tree

-- a home lane is below the count
pub home_below : (t : Topology) (lid lanes : ℕ) (place : Place) → 0 < lanes → place_of t lid ≡ Some place → home t lid lanes < lanes
home_below t lid lanes place some is =
    let same : home t lid lanes ≡ place.switch.0 % lanes = ap (λ o. unwrap_or (option_map (λ (q : Place). q.switch.0 % lanes) o) 0) is in
    omega (arith, same, some)

-- a tree's channel stands at the switch by its port
pub port_of_tree : (t : Topology) (tree : List (Option ℕ)) (s port : ℕ) → IsWellFormed t → IsTree t tree → (q : IsPortInTree t tree s port) → channel_at t s port ≡ Some q.0
port_of_tree t tree s port good tree_is q =
    let leaves : LeavesSwitch t q.0 s = tree_is.leaves s q.0 q.2 in
    let tail : q.1.tail.0 ≡ s = ap (λ (r : ChannelRow). r.tail.0) (same_Some q.1 leaves.0 (sym q.3 ∙ leaves.1)) ∙ leaves.2 in
    subst (λ x. channel_at t s x ≡ Some q.0) (sym q.4) (subst (λ x. channel_at t x q.1.port ≡ Some q.0) tail (channels_are_found t q.0 q.1 good q.3))

module _ (t : Topology) (e : Entries) (lid : ℕ) (place : Place) (tree : List (Option ℕ)) (good : IsWellFormed t) (is : place_of t lid ≡ Some place) (tree_is : IsTree t tree)
    (own : hop_by t lid place.switch.0 (entry e place.switch.0 lid) ≡ Stop Delivered)
    (ports : (s : ℕ) → AreConnected t s place.switch.0 → s ≢ place.switch.0 → IsPortInTree t tree s (entry e s lid)) where
  -- the measure of a switch is the number of channels of its walk
  abbrev Walks : ℕ → ℕ → Type 0
  Walks s n = length (walk_of t tree s) ≡ n

  joined : (s : ℕ) → IsConnectedTo t s lid → AreConnected t s place.switch.0
  joined s c = let P : Place → Type 0 = λ q. AreConnected t s q.switch.0 in subst P (same_Some c.0 place (sym c.1 ∙ is)) c.2

  nearer : (s : ℕ) → IsConnectedTo t s lid → s ≢ place.switch.0 → GoesNearer t e lid Walks s
  nearer s c other = (
    q.0,
    length (walk_of t tree s),
    length (walk_of t tree (tip t q.0)),
    goes_along t lid s (entry e s lid) q.0 place good is other at,
    (place, is, tip_connected t good s (entry e s lid) q.0 place.switch.0 at (joined s c)),
    refl,
    refl,
    omega (arith, ap length (walk_of_next t tree s q.0 tree_is q.2)),
  )
    where
      q : IsPortInTree t tree s (entry e s lid)
      q = ports s (joined s c) other

      at : channel_at t s (entry e s lid) ≡ Some q.0
      at = port_of_tree t tree s (entry e s lid) good tree_is q

  goes : (s : ℕ) → IsConnectedTo t s lid → (hop_by t lid s (entry e s lid) ≡ Stop Delivered) ⊎ GoesNearer t e lid Walks s
  goes s c = elim (same_or_other s place.switch.0) [
    | inl same ↦ inl (let P : ℕ → Type 0 = λ x. hop_by t lid x (entry e x lid) ≡ Stop Delivered in subst P (sym same) own)
    | inr other ↦ inr (nearer s c other)
  ]

  -- entries along a tree deliver
  pub tree_reaches : (s : ℕ) → IsConnectedTo t s lid → (route t e s lid).end ≡ Delivered
  tree_reaches s c = falling_reaches t e lid Walks good (record { one = λ x m n a b. sym a ∙ b; goes = goes }) s c

-- ---- the plan

-- the escape trees of each lane are trees
abbrev pub EscapeTreesAre : Topology → ℕ → (ℕ → Forest) → Type 0
EscapeTreesAre t lanes forest = (on_lane to : ℕ) → on_lane < lanes → to < length t.switches → IsTree t (escape_tree (forest on_lane) to)

-- what it says of a kept LID
pub kept_stays : (t : Topology) (lanes : ℕ) (escape : ℕ → ℕ → ℕ → Type 0) (old : Option Plan) (kept : List ℕ) (lid : ℕ) → AreKept t lanes escape old kept → Contains kept lid →
    (q : Plan) × (before : List ℕ) × (old ≡ Some q) × CanStay t lanes escape q before lid
kept_stays t lanes escape None kept lid are has = let none : Contains [] lid = subst (λ xs. Contains xs lid) are has in absurd (omega (arith, none.1))
kept_stays t lanes escape (Some q) kept lid are has = (q, smaller kept lid, refl, (are.each lid (are.in_use lid has)).0 has)

module _ (t : Topology) (lanes : ℕ) (old : Option Plan) (kept : List ℕ) (forest : ℕ → Forest) (laid : ℕ → List (Option ℕ)) (e : Entries) (good : IsWellFormed t) (some : 0 < lanes)
    (laying : AreLaid t lanes old kept forest laid e) (trees : EscapeTreesAre t lanes forest) where
  pub laid_is_tree : (lid : ℕ) (place : Place) → IsLaid t kept lid → place_of t lid ≡ Some place → IsTree t (laid lid)
  laid_is_tree lid place is at = by_kind (laying.trees lid place is at)
    where
      by_kind : {weight : ℕ → ℕ} {used : ℕ → ℕ → Type 0} → IsLaidTree t weight used (forest (home t lid lanes)) place.switch.0 (laid lid) → IsTree t (laid lid)
      by_kind {weight} {used} (inl search) = run_is_tree t weight used place.switch.0 good search.steps (laid lid) search.run
      by_kind (inr fallback) = subst (IsTree t) (sym fallback.1) (trees (home t lid lanes) place.switch.0 (home_below t lid lanes place some at) (place_below t good lid place at))

  pub laid_reaches : (lid s : ℕ) → IsLaid t kept lid → IsConnectedTo t s lid → (route t e s lid).end ≡ Delivered
  laid_reaches lid s is c =
      tree_reaches t e lid c.0 (laid lid) good c.1 (laid_is_tree lid c.0 is c.1) (own_delivers t e lid c.0 good laying.tables.fixed c.1)
      (λ x joined other. laying.tables.of_laid x lid c.0.switch.0 is (record { place = c.0; in_use = c.1; at_switch = refl; connected = joined; other = other })) s c

  -- kept LIDs have the old routes
  pub kept_route : (q : Plan) (lid s : ℕ) → old ≡ Some q → Contains kept lid → IsConnectedTo t s lid → route t e s lid ≡ route t q.tables s lid
  kept_route q lid s is has c =
      connected_routes_same t e q.tables lid good (λ x joined. subst (λ o. IfSome o (λ r. entry e x lid ≡ entry r.tables x lid)) is (laying.tables.of_kept x lid has joined)) s c

  pub kept_reaches : (lid s : ℕ) → Contains kept lid → IsConnectedTo t s lid → (route t e s lid).end ≡ Delivered
  kept_reaches lid s has c =
      let k : (q : Plan) × (before : List ℕ) × (old ≡ Some q) × CanStay t lanes (λ on_lane x y. DependsToEscapeIn t lanes forest on_lane x y) q before lid
      = kept_stays t lanes (λ on_lane x y. DependsToEscapeIn t lanes forest on_lane x y) old kept lid laying.keeps has in
      ap (λ (r : Route). r.end) (kept_route k.0 lid s k.2 has c) ∙ k.3.delivered s c

  pub laying_reaches : Reaches t e
  laying_reaches s lid c = elim (contains_decided kept lid) [
    | inl has ↦ kept_reaches lid s has c
    | inr not ↦ laid_reaches lid s (connected_in_use t s lid c, not) c
  ]
