-- The plan of Nue is one: LID by LID the weights, what is in use, and so the trees and the entries are the same.
use Rattle.std.proofs.Common.{◌≡◌, ℕ, zero, suc, ◌+◌, ◌<◌, ◌⊎◌, inl, inr, Bool, true, false, List, [], ◌∷◌, ◌||◌, Some, Option, refl, sym, ◌∙◌, ap, subst, arith, cond}
use Rattle.std.specs.Prelude.{Contains, IfSome, sum_by, nat_lt, slice_get, ◌==◌}
use Rattle.std.specs.List.{list_any}
use Rattle.std.proofs.lemmas.Bool.{cases_eq, ltb-true, eqb-true}
use Rattle.std.proofs.lemmas.Option.{same_Some}
use Rattle.std.proofs.lemmas.List.Sums.{sum_by-cons}
use Rattle.fab_graph.specs.Walks.{SameGraph}
use Rattle.fab_model.specs.declared.rows.ChannelRow.{ChannelRow}
use Rattle.fab_model.specs.declared.rows.TerminalRow.{TerminalRow}
use Rattle.fab_model.specs.declared.rows.Place.{Place}
use Rattle.fab_model.specs.Topology.{Topology, lids_of, place_of}
use Rattle.fab_model.specs.Connected.{IsConnectedTo}
use Rattle.fab_model.specs.WellFormed.{IsWellFormed}
use Rattle.fab_tables.specs.declared.plan.Plan.{Plan}
use Rattle.fab_tables.specs.Entries.{entry}
use Rattle.fab_tables.specs.Route.{Route, route}
use Rattle.fab_tables.specs.TreeWalks.{DependsInTree}
use Rattle.fab_tables.specs.FixedEntries.{IsChosen}
use Rattle.fab_tables.proofs.Joined.Lids.{connected_in_use}
use Rattle.fab_tables.proofs.Paths.SameRoutes.{routes_same}
use Rattle.fab_tables.proofs.Rows.SameTables.{entries_same}
use Rattle.fab_certify.proofs.Engines.OneEnginePlan.{one_engine_plan}
use Rattle.fab_sssp.specs.WeightTables.{start_weight}
use Rattle.fab_sssp.specs.Carried.{terminals_carried, weight_after}
use Rattle.fab_escape.specs.Forest.{Forest}
use Rattle.fab_escape.specs.EscapeSet.{home, DependsToEscape}
use Rattle.fab_escape.specs.Laws.{OneForest, EscapeTreeIsTree}
use Rattle.fab_nue.specs.NuePlan.{DependsToEscapeIn, IsLaid, IsInUse, laid_before, IsPortInTree, IsNueLevel, IsLaying}
use Rattle.fab_nue.specs.Laws.{OneNuePlan}
use Rattle.fab_nue.proofs.Searching.Growing.{same_or_other}
use Rattle.fab_nue.proofs.Searching.Choosing.{contains_decided}
use Rattle.fab_nue.proofs.Laying.Members.{from_filter, sum_members, found}
use Rattle.fab_nue.proofs.Laying.LidPlaces.{has_place}
use Rattle.fab_nue.proofs.Laying.KeptLists.{one_kept}
use Rattle.fab_nue.proofs.Searching.SameSearch.{sum_same, one_laid_tree}
use Rattle.fab_nue.proofs.Laying.InUse.{laid_out}
use Rattle.fab_nue.proofs.Laying.Reaching.{EscapeTreesAre, kept_stays, home_below}
use Rattle.fab_nue.proofs.Plans.CertifiedPlan.{one_nue_level}

module _ (t : Topology) (lanes : ℕ) (old : Option Plan) (kept : List ℕ) (good : IsWellFormed t) (some : 0 < lanes)
    (forest other : ℕ → Forest) (laid also : ℕ → List (Option ℕ)) (p q : Plan) (x : IsLaying t lanes old kept forest laid p) (y : IsLaying t lanes old kept other also q)
    (trees : EscapeTreesAre t lanes forest) (same_forest : (on_lane : ℕ) → on_lane < lanes → forest on_lane ≡ other on_lane) where
  -- the entries for a LID are the same at every switch
  abbrev SameEntries : ℕ → Type 0
  SameEntries lid = (s : ℕ) → entry p.tables s lid ≡ entry q.tables s lid

  by_connected : (lid : ℕ) → ((s : ℕ) → IsConnectedTo t s lid → entry p.tables s lid ≡ entry q.tables s lid) → SameEntries lid
  by_connected lid same s = elim (cases_eq (entry p.tables s lid) (entry q.tables s lid)) [
    | inl e ↦ e
    | inr differ ↦ (let apart : ¬ IsConnectedTo t s lid = λ c. differ (same s c) in x.tables.fixed.apart s lid apart ∙ sym (y.tables.fixed.apart s lid apart))
  ]

  kept_entries : (lid : ℕ) → Contains kept lid → SameEntries lid
  kept_entries lid has = by_connected lid (λ s c. of_old (kept_stays t lanes (λ lane a b. DependsToEscapeIn t lanes forest lane a b) old kept lid x.keeps has).0
      (kept_stays t lanes (λ lane a b. DependsToEscapeIn t lanes forest lane a b) old kept lid x.keeps has).2 s c)
    where
      of_old : (r : Plan) → old ≡ Some r → (s : ℕ) → IsConnectedTo t s lid → entry p.tables s lid ≡ entry q.tables s lid
      of_old r is s c =
          let a : entry p.tables s lid ≡ entry r.tables s lid = subst (λ o. IfSome o (λ z. entry p.tables s lid ≡ entry z.tables s lid)) is (x.tables.of_kept s lid has c) in
          let b : entry q.tables s lid ≡ entry r.tables s lid = subst (λ o. IfSome o (λ z. entry q.tables s lid ≡ entry z.tables s lid)) is (y.tables.of_kept s lid has c) in
          a ∙ sym b

  one_port : (tree : List (Option ℕ)) (s m n : ℕ) → IsPortInTree t tree s m → IsPortInTree t tree s n → m ≡ n
  one_port tree s m n a b =
      let channel : a.0 ≡ b.0 = same_Some a.0 b.0 (sym a.2 ∙ b.2) in
      let row : a.1 ≡ b.1 = same_Some a.1 b.1 (sym a.3 ∙ ap (λ c. slice_get t.channels c) channel ∙ b.3) in
      a.4 ∙ ap (λ (r : ChannelRow). r.port) row ∙ sym b.4

  laid_entries : (lid : ℕ) → IsLaid t kept lid → laid lid ≡ also lid → SameEntries lid
  laid_entries lid is tree = by_connected lid by_place
    where
      by_place : (s : ℕ) → IsConnectedTo t s lid → entry p.tables s lid ≡ entry q.tables s lid
      by_place s c = elim (same_or_other s c.0.switch.0) [
        | inl e ↦ subst (λ z. entry p.tables z lid ≡ entry q.tables z lid) (sym e) (x.tables.fixed.own lid c.0 c.1 ∙ sym (y.tables.fixed.own lid c.0 c.1))
        | inr differ ↦
            (let chosen : IsChosen t s lid c.0.switch.0 = record { place = c.0; in_use = c.1; at_switch = refl; connected = c.2; other = differ } in
            one_port (also lid) s (entry p.tables s lid) (entry q.tables s lid)
            (subst (λ z. IsPortInTree t z s (entry p.tables s lid)) tree (x.tables.of_laid s lid c.0.switch.0 is chosen)) (y.tables.of_laid s lid c.0.switch.0 is chosen))
      ]

  -- ---- LID by LID

  abbrev SameTrees : ℕ → Type 0
  SameTrees n = (lid : ℕ) → lid < n → IsLaid t kept lid → laid lid ≡ also lid

  entries_before : (n : ℕ) → SameTrees n → (lid : ℕ) → Contains (laid_before t kept n) lid → SameEntries lid
  entries_before n same lid has = go (contains_decided kept lid)
    where
      in_it : Contains (lids_of t) lid × ((nat_lt lid n || list_any (λ one. one == lid) kept) ≡ true)
      in_it = from_filter (λ z. nat_lt z n || list_any (λ one. one == z) kept) (lids_of t) lid has

      smaller_one : ¬ Contains kept lid → (b : Bool) → nat_lt lid n ≡ b → (b || list_any (λ one. one == lid) kept) ≡ true → lid < n
      smaller_one not true is h = ltb-true lid n is
      smaller_one not false is h = absurd (not (found kept lid h))

      go : Contains kept lid ⊎ (¬ Contains kept lid) → SameEntries lid
      go (inl k) = kept_entries lid k
      go (inr not) = laid_entries lid (in_it.0, not) (same lid (smaller_one not (nat_lt lid n) refl in_it.1) (in_it.0, not))

  weights_same : (n : ℕ) → SameTrees n → (c : ℕ) → weight_after t p.tables (laid_before t kept n) c ≡ weight_after t q.tables (laid_before t kept n) c
  weights_same n same c = ap (λ m. start_weight t + m) (sum_members (λ lid. terminals_carried t p.tables lid c) (λ lid. terminals_carried t q.tables lid c) (laid_before t kept n) carried)
    where
      carried : (lid : ℕ) → Contains (laid_before t kept n) lid → terminals_carried t p.tables lid c ≡ terminals_carried t q.tables lid c
      carried lid has = sum_same (λ (r : TerminalRow). cond {A = ℕ} (list_any (λ d. d == c) ((route t p.tables r.switch.0 lid).channels)) 1 0)
          (λ (r : TerminalRow). cond {A = ℕ} (list_any (λ d. d == c) ((route t q.tables r.switch.0 lid).channels)) 1 0) t.terminals
          (λ r. ap (λ (z : Route). cond {A = ℕ} (list_any (λ d. d == c) z.channels) 1 0) (routes_same t p.tables q.tables lid (entries_before n same lid has) r.switch.0))

  in_use_same : (n on_lane : ℕ) → on_lane < lanes → SameTrees n →
      SameGraph (λ (c d : ℕ). IsInUse t lanes old kept forest laid (λ o. o < n) on_lane c d) (λ (c d : ℕ). IsInUse t lanes old kept other also (λ o. o < n) on_lane c d)
  in_use_same n on_lane below same c d = (to, from)
    where
      to : IsInUse t lanes old kept forest laid (λ o. o < n) on_lane c d → IsInUse t lanes old kept other also (λ o. o < n) on_lane c d
      to (inl e) = inl (subst (λ f. DependsToEscape t lanes f on_lane c d) (same_forest on_lane below) e)
      to (inr (inl o)) = inr (inl o)
      to (inr (inr l)) = inr (inr (l.0, l.1, l.2, l.3, subst (λ tree. DependsInTree t tree c d) (same l.0 l.2 l.1) l.4))

      from : IsInUse t lanes old kept other also (λ o. o < n) on_lane c d → IsInUse t lanes old kept forest laid (λ o. o < n) on_lane c d
      from (inl e) = inl (subst (λ f. DependsToEscape t lanes f on_lane c d) (sym (same_forest on_lane below)) e)
      from (inr (inl o)) = inr (inl o)
      from (inr (inr l)) = inr (inr (l.0, l.1, l.2, l.3, subst (λ tree. DependsInTree t tree c d) (sym (same l.0 l.2 l.1)) l.4))

  tree_at : (lid : ℕ) → SameTrees lid → IsLaid t kept lid → laid lid ≡ also lid
  tree_at lid same is =
      let place : (place : Place) × (place_of t lid ≡ Some place) = has_place t lid is.0 in
      let low : home t lid lanes < lanes = home_below t lid lanes place.0 some place.1 in
      one_laid_tree t (λ c. weight_after t p.tables (laid_before t kept lid) c) (λ c. weight_after t q.tables (laid_before t kept lid) c)
      (λ (c d : ℕ). IsInUse t lanes old kept forest laid (λ o. o < lid) (home t lid lanes) c d) (λ (c d : ℕ). IsInUse t lanes old kept other also (λ o. o < lid) (home t lid lanes) c d)
      (forest (home t lid lanes)) (other (home t lid lanes)) place.0.switch.0 (laid lid) (also lid) good (weights_same lid same) (in_use_same lid (home t lid lanes) low same)
      (same_forest (home t lid lanes) low) (x.trees lid place.0 is place.1) (y.trees lid place.0 is place.1)

  trees_below : (n : ℕ) → SameTrees n
  trees_below zero lid h is = absurd (omega (arith, h))
  trees_below (suc n) lid h is = elim (same_or_other lid n) [
    | inl e ↦ (let P : ℕ → Type 0 = λ z. IsLaid t kept z → laid z ≡ also z in subst P (sym e) (tree_at n (trees_below n)) is)
    | inr differ ↦ trees_below n lid (omega (arith, h, differ)) is
  ]

  pub one_tree : (lid : ℕ) → IsLaid t kept lid → laid lid ≡ also lid
  one_tree lid is = trees_below (suc lid) lid (omega arith) is

  all_entries : (s lid : ℕ) → entry q.tables s lid ≡ entry p.tables s lid
  all_entries s lid = sym (by_connected lid (λ z c. in_use_entries (connected_in_use t z lid c) z) s)
    where
      in_use_entries : Contains (lids_of t) lid → SameEntries lid
      in_use_entries used = elim (contains_decided kept lid) [ inl has ↦ kept_entries lid has | inr not ↦ laid_entries lid (used, not) (one_tree lid (used, not)) ]

  pub same_plan : p ≡ q
  same_plan =
      one_engine_plan t lanes (λ s lid n. IsNueLevel t lanes old kept s lid n) (λ s lid n. IsNueLevel t lanes old kept s lid n) p q
      (entries_same t p.tables q.tables x.tables.fixed.fits y.tables.fixed.fits (λ s lid. sym (all_entries s lid)))
      (λ s lid m n source c. one_nue_level t lanes old kept forest laid p.tables (laid_out t lanes old kept forest laid p x) s lid m n) x.plan y.plan

-- what escape trees owe: a lane has one forest, and its trees are trees
pub one_nue_plan : OneForest → EscapeTreeIsTree → OneNuePlan
one_nue_plan one trees t lanes old kept others p q good some x y = (same_kept, same_plan t lanes old kept good some x.0 y.0 x.1 y.1 p q x.2 moved are_trees same)
  where
    same : (on_lane : ℕ) → on_lane < lanes → x.0 on_lane ≡ y.0 on_lane
    same on_lane below = one t on_lane (x.0 on_lane) (y.0 on_lane) good (x.2.forests on_lane below) (y.2.forests on_lane below)

    are_trees : EscapeTreesAre t lanes x.0
    are_trees on_lane to below low = trees t on_lane (x.0 on_lane) to good (x.2.forests on_lane below) low

    same_kept : kept ≡ others
    same_kept = one_kept t lanes (λ lane c d. DependsToEscapeIn t lanes x.0 lane c d) (λ lane c d. DependsToEscapeIn t lanes y.0 lane c d) old kept others
        (λ lane below c d. (subst (λ f. DependsToEscape t lanes f lane c d) (same lane below), subst (λ f. DependsToEscape t lanes f lane c d) (sym (same lane below)))) x.2.keeps y.2.keeps

    moved : IsLaying t lanes old kept y.0 y.1 q
    moved = subst (λ ks. IsLaying t lanes old ks y.0 y.1 q) (sym same_kept) y.2
