-- Each fabric has a plan of Nue, whatever it keeps of an old plan: LID after LID has its tree, and the finished tables have their numbers.
use Rattle.std.proofs.Common.{◌≡◌, ◌≢◌, ℕ, zero, suc, ◌+◌, ◌^◌, ◌<◌, ◌≤◌, ◌⊎◌, inl, inr, Bool, true, false, List, [], ◌∷◌, cond, length, Option, Some, None, refl, sym, ◌∙◌, ap, subst, arith, Contains, IfSome}
use Rattle.std.specs.Prelude.{◌==◌, ◌||◌, nat_lt, slice_get}
use Rattle.std.specs.List.{list_any}
use Rattle.std.proofs.lemmas.Bool.{eq-eqb, ne_eqb, cond-true, cond-false, ltb-true}
use Rattle.std.proofs.lemmas.List.Elements.{All-contains}
use Rattle.std.proofs.lemmas.Option.{same_Some}
use Rattle.fab_graph.specs.Walks.{IsAcyclic, SameGraph}
use Rattle.fab_graph.proofs.Decided.{Decided, equal, both, not_decided}
use Rattle.fab_graph.proofs.Graphs.{rising_is_acyclic}
use Rattle.fab_graph.proofs.Parts.{part_acyclic}
use Rattle.fab_model.specs.declared.rows.ChannelRow.{ChannelRow}
use Rattle.fab_model.specs.declared.rows.Place.{Place}
use Rattle.fab_model.specs.Topology.{Topology, lids_of, place_of, is_source}
use Rattle.fab_model.specs.Connected.{AreConnected, IsConnectedTo}
use Rattle.fab_model.specs.WellFormed.{IsFabric}
use Rattle.fab_model.proofs.Finds.{channels_are_found}
use Rattle.fab_tables.specs.declared.plan.Plan.{Plan}
use Rattle.fab_tables.specs.Certified.{Reaches}
use Rattle.fab_tables.specs.Entries.{Entries, entry}
use Rattle.fab_tables.specs.FixedEntries.{HasFixedEntries, IsChosen}
use Rattle.fab_tables.specs.Fit.{IsSource, LanesFit}
use Rattle.fab_tables.specs.LaneTables.{LaneTables, HasLanePerLevel}
use Rattle.fab_tables.specs.Plain.{DependsPlainly}
use Rattle.fab_tables.specs.Route.{Route, route}
use Rattle.fab_tables.specs.Trees.{next}
use Rattle.fab_tables.specs.TreeWalks.{IsTree, DependsInTree}
use Rattle.fab_tables.specs.VirtualChannels.{Follow}
use Rattle.fab_tables.proofs.Joined.Ascending.{lids_fit}
use Rattle.fab_tables.proofs.Joined.ConnectedDecided.{connected_to_decided}
use Rattle.fab_tables.proofs.Joined.Lids.{connected_in_use}
use Rattle.fab_tables.proofs.Paths.FallingRoutes.{place_below, own_delivers, channel_port_small, connected_below}
use Rattle.fab_tables.proofs.Paths.SameRoutes.{connected_routes_same}
use Rattle.fab_certify.specs.EnginePlans.{HasLevels, IsEnginePlan}
use Rattle.fab_certify.specs.Numbered.{IsPlainlySound}
use Rattle.fab_certify.proofs.Engines.EngineLanes.{FollowsAtLevel, engine_sound, levelwise_acyclic}
use Rattle.fab_sssp.specs.Carried.{weight_after, terminals_carried}
use Rattle.fab_sssp.specs.WeightTables.{start_weight}
use Rattle.fab_sssp.specs.LeastWeightTables.{AreLeastWeightTables}
use Rattle.fab_sssp.proofs.Tables.TablesExist.{least_weight_tables_exist}
use Rattle.fab_escape.specs.Forest.{Forest}
use Rattle.fab_escape.specs.Trees.{IsEscapeForest}
use Rattle.fab_escape.specs.EscapeSet.{home, escape_number}
use Rattle.fab_escape.proofs.ForestExists.{forest_exists}
use Rattle.fab_escape.proofs.Numbers.{escape_numbers_rise}
use Rattle.fab_nue.specs.Kept.{HasSwitchesAndLids, old_level, DependsOnKept, KeepsLevel, CanStay, smaller, AreKept}
use Rattle.fab_nue.specs.NuePlan.{DependsToEscapeIn, DependsOnOld, IsLaid, IsInUse, laid_before, IsLaidTree, IsPortInTree, HasNueEntries, IsNueLevel, IsLaying, IsNuePlan}
use Rattle.fab_nue.specs.Laws.{NuePlanExists}
use Rattle.fab_nue.proofs.Searching.Choosing.{contains_decided}
use Rattle.fab_nue.proofs.Searching.Growing.{same_or_other}
use Rattle.fab_nue.proofs.Searching.SameSearch.{completes_same, stuck_same}
use Rattle.fab_nue.proofs.Laying.InUse.{InUseBelow, contains_tree, one_laid, laid_closes_none}
use Rattle.fab_nue.proofs.Laying.KeptLists.{kept_acyclic}
use Rattle.fab_nue.proofs.Laying.LidPlaces.{has_place}
use Rattle.fab_nue.proofs.Laying.Members.{from_filter, first, later, first_or_later}
use Rattle.fab_nue.proofs.Laying.Reaching.{home_below, kept_stays, tree_reaches}
use Rattle.fab_nue.proofs.Laying.LaidRoutes.{route_depends}
use Rattle.fab_nue.proofs.Laying.Weighing.{carried_same}
use Rattle.fab_nue.proofs.Laying.Members.{sum_members, found}
use Rattle.fab_nue.proofs.Exists.Deciding.{is_true}
use Rattle.fab_nue.proofs.Exists.Columns.{HasColumn, entry_low, column_set, fixed_after, delivered_own}
use Rattle.fab_nue.proofs.Exists.KeptExist.{old_edges, kept_exist}
use Rattle.fab_nue.proofs.Exists.LaidTrees.{IsTreeTo, escape_edges, in_use_edges, laid_tree_exists}
use Rattle.fab_nue.proofs.Exists.LevelsExist.{IsLevelFor, levels_exist}
use Rattle.fab_nue.proofs.Exists.ListedGraphs.{HasEdges}
use Rattle.fab_nue.proofs.Exists.NumberedPlans.{engine_plan_exists}

-- ---- small facts

-- what comes before a LID is kept or smaller
came_before : (t : Topology) (kept : List ℕ) (n lid : ℕ) → Contains (laid_before t kept n) lid → Contains kept lid ⊎ (lid < n)
came_before t kept n lid has = go (nat_lt lid n) refl (from_filter (λ z. nat_lt z n || list_any (λ one. one == z) kept) (lids_of t) lid has).1
  where
    go : (b : Bool) → nat_lt lid n ≡ b → (b || list_any (λ one. one == lid) kept) ≡ true → Contains kept lid ⊎ (lid < n)
    go true is h = inr (ltb-true lid n is)
    go false is h = inl (found kept lid h)

-- the weights look at what was laid before alone
weights_kept : (t : Topology) (kept : List ℕ) (n : ℕ) (e f : Entries) → ((lid : ℕ) → Contains kept lid ⊎ (lid < n) → (s : ℕ) → entry e s lid ≡ entry f s lid) → (c : ℕ) →
    weight_after t e (laid_before t kept n) c ≡ weight_after t f (laid_before t kept n) c
weights_kept t kept n e f same c = ap (λ m. start_weight t + m)
    (sum_members (λ lid. terminals_carried t e lid c) (λ lid. terminals_carried t f lid c) (laid_before t kept n) (λ lid has. carried_same t e f lid c (same lid (came_before t kept n lid has))))

-- and a tree is laid by weights and graph alone
laid_same : (t : Topology) (weight heavy : ℕ → ℕ) (used other : ℕ → ℕ → Type 0) (f : Forest) (to : ℕ) (tree : List (Option ℕ)) → ((c : ℕ) → weight c ≡ heavy c) → SameGraph used other →
    IsLaidTree t weight used f to tree → IsLaidTree t heavy other f to tree
laid_same t weight heavy used other f to tree equal same (inl x) = inl (completes_same t weight heavy used other to equal same tree x)
laid_same t weight heavy used other f to tree equal same (inr x) = inr (stuck_same t weight heavy used other to equal same x.0, x.1)

-- the port of a switch's channel in a tree, or an entry that is given
port_or : ℕ → Option ChannelRow → ℕ
port_or given None = given
port_or given (Some row) = row.port

row_of : Topology → Option ℕ → Option ChannelRow
row_of t None = None
row_of t (Some c) = slice_get t.channels c

module _ (t : Topology) (fabric : IsFabric t) (lanes : ℕ) (some : 0 < lanes) (old : Option Plan) (kept : List ℕ) (forest : ℕ → Forest)
    (forests : (on_lane : ℕ) → IsEscapeForest t on_lane (forest on_lane)) (keeps : AreKept t lanes (λ on_lane c d. DependsToEscapeIn t lanes forest on_lane c d) old kept) where
  -- the LIDs below a number are laid
  record LaidBelow (n : ℕ) : Type 0 where
    tables : Entries
    laid : ℕ → List (Option ℕ)
    fixed : HasFixedEntries t tables
    of_kept : (s lid : ℕ) → Contains kept lid → IsConnectedTo t s lid → IfSome old (λ p. entry tables s lid ≡ entry p.tables s lid)
    of_laid : (s lid to : ℕ) → lid < n → IsLaid t kept lid → IsChosen t s lid to → IsPortInTree t (laid lid) s (entry tables s lid)
    trees : (lid : ℕ) (place : Place) → lid < n → IsLaid t kept lid → place_of t lid ≡ Some place →
        IsLaidTree t (λ c. weight_after t tables (laid_before t kept lid) c)
        (λ c d. IsInUse t lanes old kept forest laid (λ other. other < lid) (home t lid lanes) c d)
        (forest (home t lid lanes)) place.switch.0 (laid lid)
    are_trees : (lid : ℕ) → lid < n → IsLaid t kept lid → IsTree t (laid lid)
    acyclic : (on_lane : ℕ) → on_lane < lanes → IsAcyclic (λ (c d : ℕ). InUseBelow t lanes old kept forest laid n on_lane c d)

  escape_acyclic : (on_lane : ℕ) → IsAcyclic (λ (c d : ℕ). DependsToEscapeIn t lanes forest on_lane c d)
  escape_acyclic on_lane = rising_is_acyclic (λ (c d : ℕ). DependsToEscapeIn t lanes forest on_lane c d) (escape_number t (forest on_lane)) (escape_numbers_rise t lanes on_lane (forest on_lane) fabric.rows (forests on_lane))

  -- ---- a LID that isn't laid

  passed_over : (n : ℕ) → ¬ IsLaid t kept n → LaidBelow n → LaidBelow (suc n)
  passed_over n not x = record {
    tables = x.tables;
    laid = x.laid;
    fixed = x.fixed;
    of_kept = x.of_kept;
    of_laid = λ s lid to low is chosen. x.of_laid s lid to (below lid low is) is chosen;
    trees = λ lid place low is at. x.trees lid place (below lid low is) is at;
    are_trees = λ lid low is. x.are_trees lid (below lid low is) is;
    acyclic = λ on_lane low. part_acyclic (λ (c d : ℕ). InUseBelow t lanes old kept forest x.laid (suc n) on_lane c d) (λ (c d : ℕ). InUseBelow t lanes old kept forest x.laid n on_lane c d)
        (λ c d u. elim (one_laid t lanes old kept forest x.laid n on_lane c d u) [ inl before ↦ before | inr own ↦ absurd (not own.0) ]) (x.acyclic on_lane low);
  }
    where
      below : (lid : ℕ) → lid < suc n → IsLaid t kept lid → lid < n
      below lid low is = elim (same_or_other lid n) [
        | inl same ↦ absurd (not (subst (λ m. IsLaid t kept m) same is))
        | inr other ↦ omega (arith, low, other)
      ]

  -- ---- a LID that is laid

  module _ (n : ℕ) (is : IsLaid t kept n) (x : LaidBelow n) (place : Place) (at : place_of t n ≡ Some place) where
    abbrev Used : ℕ → ℕ → Type 0
    Used c d = InUseBelow t lanes old kept forest x.laid n (home t n lanes) c d

    lane_low : home t n lanes < lanes
    lane_low = home_below t n lanes place some at

    used_edges : HasEdges (λ c d. IsInUse t lanes old kept forest x.laid (λ other. other < n) (home t n lanes) c d)
    used_edges = in_use_edges t lanes old kept forest x.laid n (home t n lanes) (escape_edges t lanes (forest (home t n lanes)) (home t n lanes) (forests (home t n lanes)).each_link)
        (old_edges t fabric.rows old kept (home t n lanes)) (λ lid low laid. (x.are_trees lid low laid).each_switch)

    -- with a tree of the search, or the escape tree
    module _ (tree : List (Option ℕ)) (laid_tree : IsLaidTree t (λ c. weight_after t x.tables (laid_before t kept n) c) (λ c d. Used c d) (forest (home t n lanes)) place.switch.0 tree) (towards : IsTreeTo t place.switch.0 tree) where
      port : ℕ → ℕ
      port s = port_or (entry x.tables s n) (row_of t (next tree s))

      own_port : (s : ℕ) → next tree s ≡ None → port s ≡ entry x.tables s n
      unfolding port port_or row_of
      own_port s none = ap (λ o. port_or (entry x.tables s n) (row_of t o)) none

      tree_port : (s c : ℕ) (row : ChannelRow) → next tree s ≡ Some c → slice_get t.channels c ≡ Some row → port s ≡ row.port
      unfolding port port_or row_of
      tree_port s c row channel there = ap (λ o. port_or (entry x.tables s n) (row_of t o)) channel ∙ ap (λ o. port_or (entry x.tables s n) o) there

      leaves : (s c : ℕ) → next tree s ≡ Some c → (row : ChannelRow) × (slice_get t.channels c ≡ Some row)
      leaves s c channel = let y = towards.is_tree.leaves s c channel in (y.0, y.1)

      port_small : (s : ℕ) → port s < 256
      port_small s = go (next tree s) refl
        where
          go : (o : Option ℕ) → next tree s ≡ o → port s < 256
          go None none = omega (arith, own_port s none, entry_low x.tables s n x.fixed.fits.whole)
          go (Some c) channel =
              let row : (row : ChannelRow) × (slice_get t.channels c ≡ Some row) = leaves s c channel in
              omega (arith, tree_port s c row.0 channel row.1, channel_port_small t fabric.rows row.0.tail.0 row.0.port c (channels_are_found t c row.0 fabric.rows row.1))

      column : (new : Entries) × HasColumn t x.tables n port new
      column = column_set t x.tables x.fixed.fits n is.0 port port_small

      new : Entries
      new = column.0

      has : HasColumn t x.tables n port new
      unfolding new
      has = column.1

      laid : ℕ → List (Option ℕ)
      laid lid = cond (lid == n) tree (x.laid lid)

      laid_here : laid n ≡ tree
      unfolding laid
      laid_here = cond-true (n == n) tree (x.laid n) (eq-eqb n n refl)

      laid_other : (lid : ℕ) → lid ≢ n → laid lid ≡ x.laid lid
      unfolding laid
      laid_other lid other = cond-false (lid == n) tree (x.laid lid) (ne_eqb lid n other)

      fixed : HasFixedEntries t new
      fixed = fixed_after t fabric.rows x.tables n port new x.fixed has own apart
        where
          own : (q : Place) → place_of t n ≡ Some q → port q.switch.0 ≡ q.port
          own q there =
              let same : place ≡ q = same_Some place q (sym at ∙ there) in
              let P : Place → Type 0 = λ r. port r.switch.0 ≡ r.port in
              subst P same (own_port place.switch.0 towards.none_there ∙ x.fixed.own n place at)

          apart : (s : ℕ) → ¬ IsConnectedTo t s n → port s ≡ 255
          apart s none = own_port s (towards.none_apart s (λ joined. none (place, at, joined))) ∙ x.fixed.apart s n none

      of_kept : (s lid : ℕ) → Contains kept lid → IsConnectedTo t s lid → IfSome old (λ p. entry new s lid ≡ entry p.tables s lid)
      of_kept s lid stays joined = go old (x.of_kept s lid stays joined)
        where
          other : lid ≢ n
          other same = is.1 (subst (λ m. Contains kept m) same stays)

          go : (o : Option Plan) → IfSome o (λ p. entry x.tables s lid ≡ entry p.tables s lid) → IfSome o (λ p. entry new s lid ≡ entry p.tables s lid)
          go None given = tt
          go (Some p) given = has.others s lid other ∙ given

      here_laid : (s to : ℕ) → IsChosen t s n to → IsPortInTree t tree s (entry new s n)
      here_laid s to chosen = (channel.0, row.0, channel.1, row.1, has.here s (connected_below t fabric.rows s n joined) ∙ tree_port s channel.0 row.0 channel.1 row.1)
        where
          same : chosen.place ≡ place
          same = same_Some chosen.place place (sym chosen.in_use ∙ at)

          to_is : to ≡ place.switch.0
          to_is = sym chosen.at_switch ∙ ap (λ (q : Place). q.switch.0) same

          connected : AreConnected t s place.switch.0
          connected = subst (λ z. AreConnected t s z) to_is chosen.connected

          joined : IsConnectedTo t s n
          joined = (place, at, connected)

          channel : (c : ℕ) × (next tree s ≡ Some c)
          channel = towards.some_else s connected (λ e. chosen.other (e ∙ sym to_is))

          row : (row : ChannelRow) × (slice_get t.channels channel.0 ≡ Some row)
          row = leaves s channel.0 channel.1

      of_laid : (s lid to : ℕ) → lid < suc n → IsLaid t kept lid → IsChosen t s lid to → IsPortInTree t (laid lid) s (entry new s lid)
      of_laid s lid to low laid_lid chosen = elim (same_or_other lid n) [
        | inl same ↦
            (let P : ℕ → Type 0 = λ m. IsChosen t s m to → IsPortInTree t (laid m) s (entry new s m) in
            subst P (sym same) (λ c. subst (λ tr. IsPortInTree t tr s (entry new s n)) (sym laid_here) (here_laid s to c)) chosen)
        | inr other ↦
            (let before : IsPortInTree t (x.laid lid) s (entry x.tables s lid) = x.of_laid s lid to (omega (arith, low, other)) laid_lid chosen in
            subst (λ tr. IsPortInTree t tr s (entry new s lid)) (sym (laid_other lid other)) (subst (λ m. IsPortInTree t (x.laid lid) s m) (sym (has.others s lid other)) before))
      ]

      -- up to this LID the same is in use
      in_use_same : (upto on_lane : ℕ) → upto ≤ n → SameGraph (λ (c d : ℕ). IsInUse t lanes old kept forest x.laid (λ other. other < upto) on_lane c d)
          (λ (c d : ℕ). IsInUse t lanes old kept forest laid (λ other. other < upto) on_lane c d)
      in_use_same upto on_lane few c d = (to, from)
        where
          to : IsInUse t lanes old kept forest x.laid (λ other. other < upto) on_lane c d → IsInUse t lanes old kept forest laid (λ other. other < upto) on_lane c d
          to (inl e) = inl e
          to (inr (inl o)) = inr (inl o)
          to (inr (inr l)) = inr (inr (l.0, l.1, l.2, l.3, subst (λ tr. DependsInTree t tr c d) (sym (laid_other l.0 (λ same. omega (arith, same, l.2, few)))) l.4))

          from : IsInUse t lanes old kept forest laid (λ other. other < upto) on_lane c d → IsInUse t lanes old kept forest x.laid (λ other. other < upto) on_lane c d
          from (inl e) = inl e
          from (inr (inl o)) = inr (inl o)
          from (inr (inr l)) = inr (inr (l.0, l.1, l.2, l.3, subst (λ tr. DependsInTree t tr c d) (laid_other l.0 (λ same. omega (arith, same, l.2, few))) l.4))

      weights_same : (upto : ℕ) → upto ≤ n → (c : ℕ) → weight_after t x.tables (laid_before t kept upto) c ≡ weight_after t new (laid_before t kept upto) c
      weights_same upto few c = weights_kept t kept upto x.tables new entries c
        where
          entries : (lid : ℕ) → Contains kept lid ⊎ (lid < upto) → (s : ℕ) → entry x.tables s lid ≡ entry new s lid
          entries lid (inl stays) s = sym (has.others s lid (λ same. is.1 (subst (λ m. Contains kept m) same stays)))
          entries lid (inr less) s = sym (has.others s lid (λ same. omega (arith, same, less, few)))

      abbrev LaidAs : ℕ → Place → Type 0
      LaidAs lid q = IsLaidTree t (λ c. weight_after t new (laid_before t kept lid) c) (λ c d. IsInUse t lanes old kept forest laid (λ other. other < lid) (home t lid lanes) c d)
          (forest (home t lid lanes)) q.switch.0 (laid lid)

      here_tree : (q : Place) → place_of t n ≡ Some q → LaidAs n q
      here_tree q there =
          let same : place ≡ q = same_Some place q (sym at ∙ there) in
          subst (λ (r : Place). LaidAs n r) same
          (subst (λ tr. IsLaidTree t (λ c. weight_after t new (laid_before t kept n) c) (λ c d. IsInUse t lanes old kept forest laid (λ other. other < n) (home t n lanes) c d) (forest (home t n lanes)) place.switch.0 tr)
          (sym laid_here)
          (laid_same t (λ c. weight_after t x.tables (laid_before t kept n) c) (λ c. weight_after t new (laid_before t kept n) c)
          (λ c d. IsInUse t lanes old kept forest x.laid (λ other. other < n) (home t n lanes) c d) (λ c d. IsInUse t lanes old kept forest laid (λ other. other < n) (home t n lanes) c d)
          (forest (home t n lanes)) place.switch.0 tree (weights_same n (omega arith)) (in_use_same n (home t n lanes) (omega arith)) laid_tree))

      other_tree : (lid : ℕ) (q : Place) → lid < n → IsLaid t kept lid → place_of t lid ≡ Some q → LaidAs lid q
      other_tree lid q low laid_lid there =
          subst (λ tr. IsLaidTree t (λ c. weight_after t new (laid_before t kept lid) c) (λ c d. IsInUse t lanes old kept forest laid (λ other. other < lid) (home t lid lanes) c d) (forest (home t lid lanes)) q.switch.0 tr)
          (sym (laid_other lid (λ same. omega (arith, same, low))))
          (laid_same t (λ c. weight_after t x.tables (laid_before t kept lid) c) (λ c. weight_after t new (laid_before t kept lid) c)
          (λ c d. IsInUse t lanes old kept forest x.laid (λ other. other < lid) (home t lid lanes) c d) (λ c d. IsInUse t lanes old kept forest laid (λ other. other < lid) (home t lid lanes) c d)
          (forest (home t lid lanes)) q.switch.0 (x.laid lid) (weights_same lid (omega (arith, low))) (in_use_same lid (home t lid lanes) (omega (arith, low))) (x.trees lid q low laid_lid there))

      trees : (lid : ℕ) (q : Place) → lid < suc n → IsLaid t kept lid → place_of t lid ≡ Some q → LaidAs lid q
      trees lid q low laid_lid there = elim (same_or_other lid n) [
        | inl same ↦ (let P : ℕ → Type 0 = λ m. place_of t m ≡ Some q → LaidAs m q in subst P (sym same) (here_tree q) there)
        | inr other ↦ other_tree lid q (omega (arith, low, other)) laid_lid there
      ]

      are_trees : (lid : ℕ) → lid < suc n → IsLaid t kept lid → IsTree t (laid lid)
      are_trees lid low laid_lid = elim (same_or_other lid n) [
        | inl same ↦ (let P : ℕ → Type 0 = λ m. IsTree t (laid m) in subst P (sym same) (subst (IsTree t) (sym laid_here) towards.is_tree))
        | inr other ↦ subst (IsTree t) (sym (laid_other lid other)) (x.are_trees lid (omega (arith, low, other)) laid_lid)
      ]

      -- what is in use was before, or is of this tree
      split : (on_lane c d : ℕ) → InUseBelow t lanes old kept forest laid (suc n) on_lane c d →
          InUseBelow t lanes old kept forest x.laid n on_lane c d ⊎ ((home t n lanes ≡ on_lane) × DependsInTree t tree c d)
      split on_lane c d u = elim (one_laid t lanes old kept forest laid n on_lane c d u) [
        | inl before ↦ inl ((in_use_same n on_lane (omega arith) c d).1 before)
        | inr own ↦ inr (own.1.0, subst (λ tr. DependsInTree t tr c d) laid_here own.1.1)
      ]

      acyclic : (on_lane : ℕ) → on_lane < lanes → IsAcyclic (λ (c d : ℕ). InUseBelow t lanes old kept forest laid (suc n) on_lane c d)
      acyclic on_lane low = elim (same_or_other (home t n lanes) on_lane) [
        | inl same ↦ subst (λ lane. IsAcyclic (λ (c d : ℕ). InUseBelow t lanes old kept forest laid (suc n) lane c d)) same here
        | inr other ↦
            part_acyclic (λ (c d : ℕ). InUseBelow t lanes old kept forest laid (suc n) on_lane c d) (λ (c d : ℕ). InUseBelow t lanes old kept forest x.laid n on_lane c d)
            (λ c d u. elim (split on_lane c d u) [ inl before ↦ before | inr own ↦ absurd (other own.0) ]) (x.acyclic on_lane low)
      ]
        where
          here : IsAcyclic (λ (c d : ℕ). InUseBelow t lanes old kept forest laid (suc n) (home t n lanes) c d)
          here = part_acyclic (λ (c d : ℕ). InUseBelow t lanes old kept forest laid (suc n) (home t n lanes) c d) (λ (c d : ℕ). Used c d ⊎ DependsInTree t tree c d)
              (λ c d u. elim (split (home t n lanes) c d u) [ inl before ↦ inl before | inr own ↦ inr own.1 ])
              (laid_closes_none t (λ c. weight_after t x.tables (laid_before t kept n) c) (λ (c d : ℕ). Used c d) (forest (home t n lanes)) place.switch.0 tree fabric.rows (x.acyclic (home t n lanes) lane_low)
              (λ c d own. contains_tree t lanes old kept forest x.laid n n place c d at own) laid_tree)

      laid_more : LaidBelow (suc n)
      laid_more = record { tables = new; laid = laid; fixed = fixed; of_kept = of_kept; of_laid = of_laid; trees = trees; are_trees = are_trees; acyclic = acyclic }

    one_more : LaidBelow (suc n)
    one_more = go (laid_tree_exists t fabric.rows (λ c. weight_after t x.tables (laid_before t kept n) c) (λ c d. Used c d) place.switch.0 (place_below t fabric.rows n place at)
        (x.acyclic (home t n lanes) lane_low) used_edges (home t n lanes) (forest (home t n lanes)) (forests (home t n lanes)))
      where
        go : (tree : List (Option ℕ)) × IsLaidTree t (λ c. weight_after t x.tables (laid_before t kept n) c) (λ c d. Used c d) (forest (home t n lanes)) place.switch.0 tree × IsTreeTo t place.switch.0 tree → LaidBelow (suc n)
        go found = laid_more found.0 found.1 found.2

  -- ---- at first

  begins : (e : Entries) → HasFixedEntries t e → ((s lid : ℕ) → Contains kept lid → IsConnectedTo t s lid → IfSome old (λ p. entry e s lid ≡ entry p.tables s lid)) → LaidBelow 0
  begins e fixed of_kept = record {
    tables = e;
    laid = λ lid. [];
    fixed = fixed;
    of_kept = of_kept;
    of_laid = λ s lid to low. absurd (omega (arith, low));
    trees = λ lid place low. absurd (omega (arith, low));
    are_trees = λ lid low. absurd (omega (arith, low));
    acyclic = λ on_lane low. part_acyclic (λ (c d : ℕ). InUseBelow t lanes old kept forest (λ lid. []) 0 on_lane c d)
        (λ (c d : ℕ). DependsToEscapeIn t lanes forest on_lane c d ⊎ DependsOnOld t old kept on_lane c d)
        (λ c d u. elim u [ inl e ↦ inl e | inr (inl o) ↦ inr o | inr (inr own) ↦ absurd (omega (arith, own.2)) ])
        (kept_acyclic t lanes (λ lane c d. DependsToEscapeIn t lanes forest lane c d) old kept on_lane low (escape_acyclic on_lane) keeps);
  }

  all_laid : LaidBelow 0 → (n : ℕ) → LaidBelow n
  all_laid first zero = first
  all_laid first (suc n) = go (all_laid first n) (both (Contains (lids_of t) n) (¬ Contains kept n) (contains_decided (lids_of t) n) (not_decided (Contains kept n) (contains_decided kept n)))
    where
      go : LaidBelow n → Decided (IsLaid t kept n) → LaidBelow (suc n)
      go x (inl is) = let place : (place : Place) × (place_of t n ≡ Some place) = has_place t n is.0 in one_more n is x place.0 place.1
      go x (inr not) = passed_over n not x

  -- ---- the plan

  module _ (few : lanes ≤ 15) (n : ℕ) (all : (lid : ℕ) → Contains (lids_of t) lid → lid < n) (x : LaidBelow n) where
    abbrev Given : ℕ → ℕ → ℕ → Type 0
    Given s lid m = IsNueLevel t lanes old kept s lid m

    abbrev Stays : ℕ → Type 0
    Stays lid = (q : Plan) × (before : List ℕ) × (old ≡ Some q) × CanStay t lanes (λ on_lane c d. DependsToEscapeIn t lanes forest on_lane c d) q before lid

    stays : (lid : ℕ) → Contains kept lid → Stays lid
    stays lid has = kept_stays t lanes (λ on_lane c d. DependsToEscapeIn t lanes forest on_lane c d) old kept lid keeps has

    kept_level : (s lid m : ℕ) (y : Stays lid) → IfSome old (λ p. old_level p.lanes s lid ≡ Some m) → old_level y.0.lanes s lid ≡ Some m
    kept_level s lid m y given = subst (λ o. IfSome o (λ p. old_level p.lanes s lid ≡ Some m)) y.2 given

    level_low : (s lid m : ℕ) → IsSource t s → IsConnectedTo t s lid → Given s lid m → m < lanes
    level_low s lid m source joined (inr own) = omega (arith, own.1, home_below t lid lanes joined.0 some joined.1)
    level_low s lid m source joined (inl own) =
        let y : Stays lid = stays lid own.0 in
        let k : KeepsLevel t lanes y.0 s lid = y.3.levels s source joined in
        omega (arith, k.below, same_Some k.level m (sym k.is ∙ kept_level s lid m y own.1))

    one_level : (s lid m k : ℕ) → IsSource t s → IsConnectedTo t s lid → Given s lid m → Given s lid k → m ≡ k
    one_level s lid m k source joined (inl a) (inr b) = absurd (b.0 a.0)
    one_level s lid m k source joined (inr a) (inl b) = absurd (a.0 b.0)
    one_level s lid m k source joined (inr a) (inr b) = a.1 ∙ sym b.1
    one_level s lid m k source joined (inl a) (inl b) =
        let y : Stays lid = stays lid a.0 in same_Some m k (sym (kept_level s lid m y a.1) ∙ kept_level s lid k y b.1)

    wanted : (s lid : ℕ) → (o : Option ℕ) × IsLevelFor t (λ s lid m. Given s lid m) s lid o
    wanted s lid = elim (both (IsSource t s) (IsConnectedTo t s lid) (is_true (is_source t s)) (connected_to_decided t s lid)) [
      | inl goes ↦ (Some (level goes).0, (goes, ((level goes).1, omega (arith, level_low s lid (level goes).0 goes.0 goes.1 (level goes).1, few))))
      | inr not ↦ (None, not)
    ]
      where
        level : IsSource t s × IsConnectedTo t s lid → (m : ℕ) × Given s lid m
        level goes = elim (contains_decided kept lid) [
          | inl has ↦
              (let y : Stays lid = stays lid has in
              let k : KeepsLevel t lanes y.0 s lid = y.3.levels s goes.0 goes.1 in
              (k.level, inl (has, subst (λ o. IfSome o (λ p. old_level p.lanes s lid ≡ Some k.level)) (sym y.2) k.is)))
          | inr not ↦ (home t lid lanes, inr (not, refl))
        ]

    -- routes

    kept_route : (lid s : ℕ) (y : Stays lid) → Contains kept lid → IsConnectedTo t s lid → route t x.tables s lid ≡ route t y.0.tables s lid
    kept_route lid s y has joined =
        connected_routes_same t x.tables y.0.tables lid fabric.rows
        (λ z also. subst (λ o. IfSome o (λ p. entry x.tables z lid ≡ entry p.tables z lid)) y.2 (x.of_kept z lid has also)) s joined

    ports : (lid : ℕ) (place : Place) → IsLaid t kept lid → place_of t lid ≡ Some place → (s : ℕ) → AreConnected t s place.switch.0 → s ≢ place.switch.0 → IsPortInTree t (x.laid lid) s (entry x.tables s lid)
    ports lid place is at s connected other = x.of_laid s lid place.switch.0 (all lid is.0) is (record { place = place; in_use = at; at_switch = refl; connected = connected; other = other })

    reaches : Reaches t x.tables
    reaches s lid joined = elim (contains_decided kept lid) [
      | inl has ↦ (let y : Stays lid = stays lid has in ap (λ (r : Route). r.end) (kept_route lid s y has joined) ∙ y.3.delivered s joined)
      | inr not ↦
          (let is : IsLaid t kept lid = (connected_in_use t s lid joined, not) in
          tree_reaches t x.tables lid joined.0 (x.laid lid) fabric.rows joined.1 (x.are_trees lid (all lid is.0) is) (own_delivers t x.tables lid joined.0 fabric.rows x.fixed joined.1) (ports lid joined.0 is joined.1) s joined)
    ]

    follows_in_use : (on_lane c d : ℕ) → FollowsAtLevel t x.tables (λ s lid m. Given s lid m) on_lane c d → InUseBelow t lanes old kept forest x.laid n on_lane c d
    follows_in_use on_lane c d f = go f.4
      where
        go : Given f.0 f.1 on_lane → InUseBelow t lanes old kept forest x.laid n on_lane c d
        go (inl own) =
            let y : Stays f.1 = stays f.1 own.0 in
            let follow : Follow (route t y.0.tables f.0 f.1).channels c d = subst (λ (r : Route). Follow r.channels c d) (kept_route f.1 f.0 y own.0 f.3) f.5 in
            let depends : DependsOnKept t y.0 kept on_lane c d = (f.1, own.0, (f.0, f.2, f.3, kept_level f.0 f.1 on_lane y own.1, follow)) in
            inr (inl (subst (λ o. DependsOnOld t o kept on_lane c d) (sym y.2) depends))
        go (inr own) =
            let is : IsLaid t kept f.1 = (connected_in_use t f.0 f.1 f.3, own.0) in
            inr (inr (
              f.1,
              is,
              all f.1 is.0,
              sym own.1,
              route_depends t x.tables f.1 f.3.0 (x.laid f.1) fabric.rows f.3.1 (x.are_trees f.1 (all f.1 is.0) is) (own_delivers t x.tables f.1 f.3.0 fabric.rows x.fixed f.3.1) (ports f.1 f.3.0 is f.3.1) f.0 c d f.3 f.5,
            ))

    module _ (l : LaneTables) (fits : LanesFit t l) (count : l.count ≡ lanes) (maps : HasLanePerLevel l) (levels : HasLevels t l (λ s lid m. Given s lid m)) where
      low : (s lid m : ℕ) → IsSource t s → IsConnectedTo t s lid → Given s lid m → m < l.count
      low s lid m source joined given = omega (arith, count, level_low s lid m source joined given)

      sound : IsPlainlySound t x.tables l
      sound = engine_sound t x.tables l (λ s lid m. Given s lid m) fabric.rows fits maps levels low reaches

      each_lane : (on_lane : ℕ) → IsAcyclic (λ (c d : ℕ). FollowsAtLevel t x.tables (λ s lid m. Given s lid m) on_lane c d)
      each_lane on_lane a w =
          let first : FollowsAtLevel t x.tables (λ s lid m. Given s lid m) on_lane a w.1.0 = w.1.1 in
          part_acyclic (λ (c d : ℕ). FollowsAtLevel t x.tables (λ s lid m. Given s lid m) on_lane c d) (λ (c d : ℕ). InUseBelow t lanes old kept forest x.laid n on_lane c d) (follows_in_use on_lane)
          (x.acyclic on_lane (level_low first.0 first.1 on_lane first.2 first.3 first.4)) a w

      dependencies_acyclic : IsAcyclic (DependsPlainly t x.tables l)
      dependencies_acyclic = levelwise_acyclic t x.tables l (λ s lid m. Given s lid m) fabric.rows fits maps levels low one_level each_lane

      made : (p : Plan) × (p.tables ≡ x.tables) × IsEnginePlan t lanes (λ s lid m. Given s lid m) p
      made = engine_plan_exists t fabric lanes (λ s lid m. Given s lid m) x.tables x.fixed.fits l fits count maps levels sound dependencies_acyclic

    laying_of : (p : Plan) → p.tables ≡ x.tables → IsEnginePlan t lanes (λ s lid m. Given s lid m) p → IsLaying t lanes old kept forest x.laid p
    laying_of p same plan = record {
      forests = λ on_lane low. forests on_lane;
      keeps = keeps;
      trees = λ lid place is at. subst (λ e. IsLaidTree t (λ c. weight_after t e (laid_before t kept lid) c)
          (λ c d. IsInUse t lanes old kept forest x.laid (λ other. other < lid) (home t lid lanes) c d)
          (forest (home t lid lanes)) place.switch.0 (x.laid lid)) (sym same) (x.trees lid place (all lid is.0) is at);
      tables = subst (λ e. HasNueEntries t old kept x.laid e) (sym same) (record { fixed = x.fixed; of_kept = x.of_kept; of_laid = λ s lid to is chosen. x.of_laid s lid to (all lid is.0) is chosen });
      plan = plan;
    }

    plan_exists : (p : Plan) × IsNuePlan t lanes old kept p
    plan_exists = go (levels_exist t (λ s lid m. Given s lid m) wanted fabric lanes (some, few))
      where
        finish : (p : Plan) × (p.tables ≡ x.tables) × IsEnginePlan t lanes (λ s lid m. Given s lid m) p → (p : Plan) × IsNuePlan t lanes old kept p
        finish y = (y.0, (forest, x.laid, laying_of y.0 y.1 y.2))

        go : (l : LaneTables) × LanesFit t l × (l.count ≡ lanes) × HasLanePerLevel l × HasLevels t l (λ s lid m. Given s lid m) → (p : Plan) × IsNuePlan t lanes old kept p
        go l = finish (made l.0 l.1 l.2 l.3 l.4)

-- ---- the entries of kept LIDs

module _ (t : Topology) (fabric : IsFabric t) (lanes : ℕ) (escape : ℕ → ℕ → ℕ → Type 0) (old : Plan) (has : HasSwitchesAndLids t old) where
  record KeptSet (lids : List ℕ) : Type 0 where
    tables : Entries
    fixed : HasFixedEntries t tables
    old_entries : (s lid : ℕ) → Contains lids lid → IsConnectedTo t s lid → entry tables s lid ≡ entry old.tables s lid

  one_set : (lid : ℕ) (lids before : List ℕ) → Contains (lids_of t) lid → CanStay t lanes escape old before lid → KeptSet lids → KeptSet (lid ∷ lids)
  one_set lid lids before in_use stays x = go (column_set t x.tables x.fixed.fits lid in_use port small)
    where
      chosen : (s : ℕ) → Decided (IsConnectedTo t s lid) → ℕ
      chosen s (inl joined) = entry old.tables s lid
      chosen s (inr apart) = entry x.tables s lid

      port : ℕ → ℕ
      port s = chosen s (connected_to_decided t s lid)

      small : (s : ℕ) → port s < 256
      small s = by_case (connected_to_decided t s lid)
        where
          by_case : (d : Decided (IsConnectedTo t s lid)) → chosen s d < 256
          by_case (inl joined) = entry_low old.tables s lid has.tables.whole
          by_case (inr apart) = entry_low x.tables s lid x.fixed.fits.whole

      port_joined : (s : ℕ) → IsConnectedTo t s lid → port s ≡ entry old.tables s lid
      port_joined s joined = by_case (connected_to_decided t s lid)
        where
          by_case : (d : Decided (IsConnectedTo t s lid)) → chosen s d ≡ entry old.tables s lid
          by_case (inl also) = refl
          by_case (inr apart) = absurd (apart joined)

      port_apart : (s : ℕ) → ¬ IsConnectedTo t s lid → port s ≡ entry x.tables s lid
      port_apart s apart = by_case (connected_to_decided t s lid)
        where
          by_case : (d : Decided (IsConnectedTo t s lid)) → chosen s d ≡ entry x.tables s lid
          by_case (inl joined) = absurd (apart joined)
          by_case (inr also) = refl

      own : (place : Place) → place_of t lid ≡ Some place → port place.switch.0 ≡ place.port
      own place at =
          let joined : IsConnectedTo t place.switch.0 lid = (place, at, (0, refl)) in
          port_joined place.switch.0 joined ∙ delivered_own t old.tables lid place at (length t.switches) place.switch.0 (stays.delivered place.switch.0 joined)

      go : (new : Entries) × HasColumn t x.tables lid port new → KeptSet (lid ∷ lids)
      go column = record {
        tables = column.0;
        fixed = fixed_after t fabric.rows x.tables lid port column.0 x.fixed column.1 own (λ s apart. port_apart s apart ∙ x.fixed.apart s lid apart);
        old_entries = λ s n of joined. elim (same_or_other n lid) [
          | inl same ↦
              (let P : ℕ → Type 0 = λ m. IsConnectedTo t s m → entry column.0 s m ≡ entry old.tables s m in
              subst P (sym same) (λ here. column.1.here s (connected_below t fabric.rows s lid here) ∙ port_joined s here) joined)
          | inr other ↦ column.1.others s n other ∙ x.old_entries s n (elim (first_or_later lid n lids of) [ inl e ↦ absurd (other (sym e)) | inr there ↦ there ]) joined
        ];
      }

  all_set : (first_tables : Entries) → HasFixedEntries t first_tables → (lids : List ℕ) → ((lid : ℕ) → Contains lids lid → Contains (lids_of t) lid × ((before : List ℕ) × CanStay t lanes escape old before lid)) → KeptSet lids
  all_set e fixed [] stays = record { tables = e; fixed = fixed; old_entries = λ s lid none. absurd (omega (arith, none.1)) }
  all_set e fixed (lid ∷ lids) stays =
      let here : Contains (lids_of t) lid × ((before : List ℕ) × CanStay t lanes escape old before lid) = stays lid (first lid lid lids refl) in
      one_set lid lids here.1.0 here.0 here.1.1 (all_set e fixed lids (λ n has_n. stays n (later lid n lids has_n)))

kept_tables : (t : Topology) → IsFabric t → (lanes : ℕ) (escape : ℕ → ℕ → ℕ → Type 0) (old : Option Plan) (kept : List ℕ) → IfSome old (λ p. HasSwitchesAndLids t p) → AreKept t lanes escape old kept →
    (e : Entries) × HasFixedEntries t e × ((s lid : ℕ) → Contains kept lid → IsConnectedTo t s lid → IfSome old (λ p. entry e s lid ≡ entry p.tables s lid))
kept_tables t fabric lanes escape None kept over are = let made : (e : Entries) × AreLeastWeightTables t e = least_weight_tables_exist t fabric in (made.0, made.1.fixed, λ s lid stays joined. tt)
kept_tables t fabric lanes escape (Some old) kept over are =
    let made : (e : Entries) × AreLeastWeightTables t e = least_weight_tables_exist t fabric in
    let set : KeptSet t fabric lanes escape old over kept = all_set t fabric lanes escape old over made.0 made.1.fixed kept
    (λ lid stays. let used : Contains (lids_of t) lid = are.in_use lid stays in (used, (smaller kept lid, (are.each lid used).0 stays))) in
    (set.tables, set.fixed, set.old_entries)

pub nue_plan_exists : NuePlanExists
nue_plan_exists t lanes old fabric some few over = go (kept_exist t fabric.rows lanes (λ on_lane c d. DependsToEscapeIn t lanes forest on_lane c d) listed old 65536 all)
  where
    forest : ℕ → Forest
    forest on_lane = (forest_exists t on_lane fabric.rows).0

    forests : (on_lane : ℕ) → IsEscapeForest t on_lane (forest on_lane)
    forests on_lane = (forest_exists t on_lane fabric.rows).1

    listed : (on_lane : ℕ) → HasEdges (λ c d. DependsToEscapeIn t lanes forest on_lane c d)
    listed on_lane = escape_edges t lanes (forest on_lane) on_lane (forests on_lane).each_link

    all : (lid : ℕ) → Contains (lids_of t) lid → lid < 65536
    all lid used = All-contains (λ m. m < 2 ^ 16) (lids_of t) lid (lids_fit t fabric) used

    go : (kept : List ℕ) × AreKept t lanes (λ on_lane c d. DependsToEscapeIn t lanes forest on_lane c d) old kept → (kept : List ℕ) × (p : Plan) × IsNuePlan t lanes old kept p
    go kept = finish (kept_tables t fabric lanes (λ on_lane c d. DependsToEscapeIn t lanes forest on_lane c d) old kept.0 over kept.1)
      where
        finish : (e : Entries) × HasFixedEntries t e × ((s lid : ℕ) → Contains kept.0 lid → IsConnectedTo t s lid → IfSome old (λ p. entry e s lid ≡ entry p.tables s lid)) →
            (kept : List ℕ) × (p : Plan) × IsNuePlan t lanes old kept p
        finish e =
            let first : LaidBelow t fabric lanes some old kept.0 forest forests kept.1 0 = begins t fabric lanes some old kept.0 forest forests kept.1 e.0 e.1 e.2 in
            let last : LaidBelow t fabric lanes some old kept.0 forest forests kept.1 65536 = all_laid t fabric lanes some old kept.0 forest forests kept.1 first 65536 in
            let plan : (p : Plan) × IsNuePlan t lanes old kept.0 p = plan_exists t fabric lanes some old kept.0 forest forests kept.1 few 65536 all last in
            (kept.0, plan.0, plan.1)
