-- It is decided whether a LID can stay, so each old plan has its kept LIDs.
use Rattle.std.proofs.Common.{◌≡◌, ℕ, zero, suc, ◌<◌, ◌⊎◌, inl, inr, List, [], ◌∷◌, ◌++◌, length, Option, Some, None, refl, sym, ◌∙◌, subst, arith, Contains}
use Rattle.std.proofs.lemmas.Option.{none-some, same_Some}
use Rattle.fab_graph.specs.Walks.{IsAcyclic}
use Rattle.fab_graph.proofs.Decided.{Decided, equal, equivalent, both, below_decided}
use Rattle.fab_model.specs.Topology.{Topology, lids_of}
use Rattle.fab_model.specs.Connected.{IsConnectedTo}
use Rattle.fab_model.specs.WellFormed.{IsWellFormed}
use Rattle.fab_tables.specs.declared.end.End.TheVariants.{Delivered}
use Rattle.fab_tables.specs.declared.plan.Plan.{Plan}
use Rattle.fab_tables.specs.Fit.{IsSource}
use Rattle.fab_tables.specs.Route.{route, visited}
use Rattle.fab_tables.specs.VirtualChannels.{Follow}
use Rattle.fab_model.specs.Topology.{is_source}
use Rattle.fab_tables.proofs.Joined.ConnectedDecided.{connected_to_decided}
use Rattle.fab_tables.proofs.Paths.FallingRoutes.{connected_below}
use Rattle.fab_nue.specs.Kept.{old_level, old_lane, DependsOnOldRoute, DependsOnKept, KeepsLevel, CanStay, AreKeptOf, AreKept}
use Rattle.fab_nue.specs.NuePlan.{DependsOnOld}
use Rattle.fab_nue.proofs.Searching.Choosing.{contains_decided}
use Rattle.fab_nue.proofs.Laying.KeepingLids.{KeptBelow, none_kept, passes_unused, not_kept, one_kept_more, all_looked_at}
use Rattle.fab_nue.proofs.Exists.ListedGraphs.{HasEdges, alike, no_edge, joined, where_holds, some_of, some_below, followers, acyclic_decided}
use Rattle.fab_nue.proofs.Exists.Deciding.{implies, all_below, all_in, is_true, is_number, is_delivered}

-- ---- old dependencies are listed

module _ (t : Topology) (good : IsWellFormed t) (old : Plan) where
  -- the switch is a source that is connected to the LID, with this level
  abbrev GoesOn : ℕ → ℕ → ℕ → Type 0
  GoesOn lid on_lane s = IsSource t s × (IsConnectedTo t s lid × (old_level old.lanes s lid ≡ Some on_lane))

  goes_on : (lid on_lane s : ℕ) → Decided (GoesOn lid on_lane s)
  goes_on lid on_lane s =
      both (IsSource t s) (IsConnectedTo t s lid × (old_level old.lanes s lid ≡ Some on_lane)) (is_true (is_source t s))
      (both (IsConnectedTo t s lid) (old_level old.lanes s lid ≡ Some on_lane) (connected_to_decided t s lid) (is_number (old_level old.lanes s lid) on_lane))

  pub route_edges : (lid on_lane : ℕ) → HasEdges (λ c d. DependsOnOldRoute t old lid on_lane c d)
  route_edges lid on_lane =
      alike (λ c d. (s : ℕ) × (s < length t.switches) × (GoesOn lid on_lane s × Follow (route t old.tables s lid).channels c d)) (λ c d. DependsOnOldRoute t old lid on_lane c d)
      (λ c d x. (x.0, x.2.0.0, x.2.0.1.0, x.2.0.1.1, x.2.1)) (λ c d x. (x.0, connected_below t good x.0 lid x.2, ((x.1, (x.2, x.3)), x.4)))
      (some_below (length t.switches) (λ s c d. GoesOn lid on_lane s × Follow (route t old.tables s lid).channels c d)
      (λ s low. where_holds (GoesOn lid on_lane s) (λ c d. Follow (route t old.tables s lid).channels c d) (goes_on lid on_lane s) (λ is. followers (route t old.tables s lid).channels)))

  pub kept_edges : (kept : List ℕ) (on_lane : ℕ) → HasEdges (λ c d. DependsOnKept t old kept on_lane c d)
  kept_edges kept on_lane = some_of kept (λ lid c d. DependsOnOldRoute t old lid on_lane c d) (λ lid has. route_edges lid on_lane)

pub old_edges : (t : Topology) → IsWellFormed t → (old : Option Plan) (kept : List ℕ) (on_lane : ℕ) → HasEdges (λ c d. DependsOnOld t old kept on_lane c d)
old_edges t good None kept on_lane = no_edge (λ c d. DependsOnOld t None kept on_lane c d) (λ c d none. none)
old_edges t good (Some old) kept on_lane = kept_edges t good old kept on_lane

-- ---- what a LID needs to stay

module _ (t : Topology) (good : IsWellFormed t) (lanes : ℕ) (escape : ℕ → ℕ → ℕ → Type 0) (listed : (on_lane : ℕ) → HasEdges (λ c d. escape on_lane c d)) (old : Plan) where
  abbrev Keeps : ℕ → ℕ → ℕ → Type 0
  Keeps s lid n = (n < lanes) × ((at : ℕ) → Contains (visited t s (route t old.tables s lid).channels) at → old_lane old.lanes at n ≡ n)

  level_decided : (s lid : ℕ) → Decided (KeepsLevel t lanes old s lid)
  level_decided s lid = go (old_level old.lanes s lid) refl
    where
      back : (n : ℕ) (k : KeepsLevel t lanes old s lid) → k.level ≡ n → Keeps s lid n
      back n k same = (omega (arith, k.below, same), λ at has. subst (λ m. old_lane old.lanes at m ≡ m) same (k.same_lane at has))

      go : (o : Option ℕ) → old_level old.lanes s lid ≡ o → Decided (KeepsLevel t lanes old s lid)
      go None is = inr (λ k. none-some k.level (sym is ∙ k.is))
      go (Some n) is =
          equivalent (Keeps s lid n) (KeepsLevel t lanes old s lid) (λ p. record { level = n; is = is; below = p.0; same_lane = p.1 }) (λ k. back n k (same_Some k.level n (sym k.is ∙ is)))
          (both (n < lanes) ((at : ℕ) → Contains (visited t s (route t old.tables s lid).channels) at → old_lane old.lanes at n ≡ n) (below_decided n lanes)
          (all_in (λ at. old_lane old.lanes at n ≡ n) (λ at. equal (old_lane old.lanes at n) n) (visited t s (route t old.tables s lid).channels)))

  abbrev AllDelivered : ℕ → Type 0
  AllDelivered lid = (s : ℕ) → IsConnectedTo t s lid → (route t old.tables s lid).end ≡ Delivered

  delivered_decided : (lid : ℕ) → Decided (AllDelivered lid)
  delivered_decided lid =
      equivalent ((s : ℕ) → s < length t.switches → IsConnectedTo t s lid → (route t old.tables s lid).end ≡ Delivered) (AllDelivered lid)
      (λ f s joined. f s (connected_below t good s lid joined) joined) (λ f s low joined. f s joined)
      (all_below (λ s. IsConnectedTo t s lid → (route t old.tables s lid).end ≡ Delivered)
      (λ s. implies (IsConnectedTo t s lid) ((route t old.tables s lid).end ≡ Delivered) (connected_to_decided t s lid) (is_delivered (route t old.tables s lid).end)) (length t.switches))

  abbrev AllKeep : ℕ → Type 0
  AllKeep lid = (s : ℕ) → IsSource t s → IsConnectedTo t s lid → KeepsLevel t lanes old s lid

  levels_decided : (lid : ℕ) → Decided (AllKeep lid)
  levels_decided lid =
      equivalent ((s : ℕ) → s < length t.switches → IsSource t s → IsConnectedTo t s lid → KeepsLevel t lanes old s lid) (AllKeep lid)
      (λ f s source joined. f s (connected_below t good s lid joined) source joined) (λ f s low source joined. f s source joined)
      (all_below (λ s. IsSource t s → IsConnectedTo t s lid → KeepsLevel t lanes old s lid)
      (λ s. implies (IsSource t s) (IsConnectedTo t s lid → KeepsLevel t lanes old s lid) (is_true (is_source t s))
      (implies (IsConnectedTo t s lid) (KeepsLevel t lanes old s lid) (connected_to_decided t s lid) (level_decided s lid))) (length t.switches))

  abbrev ClosesNoneWith : List ℕ → ℕ → ℕ → Type 0
  ClosesNoneWith before lid on_lane = IsAcyclic (λ (c d : ℕ). escape on_lane c d ⊎ DependsOnKept t old before on_lane c d ⊎ DependsOnOldRoute t old lid on_lane c d)

  closes_decided : (before : List ℕ) (lid on_lane : ℕ) → Decided (ClosesNoneWith before lid on_lane)
  closes_decided before lid on_lane =
      acyclic_decided (λ c d. escape on_lane c d ⊎ DependsOnKept t old before on_lane c d ⊎ DependsOnOldRoute t old lid on_lane c d)
      (joined (λ c d. escape on_lane c d) (λ c d. DependsOnKept t old before on_lane c d ⊎ DependsOnOldRoute t old lid on_lane c d) (listed on_lane)
      (joined (λ c d. DependsOnKept t old before on_lane c d) (λ c d. DependsOnOldRoute t old lid on_lane c d) (kept_edges t good old before on_lane) (route_edges t good old lid on_lane)))

  abbrev ClosesNoneAnywhere : List ℕ → ℕ → Type 0
  ClosesNoneAnywhere before lid = (on_lane : ℕ) → on_lane < lanes → ClosesNoneWith before lid on_lane

  pub stay_decided : (before : List ℕ) (lid : ℕ) → Decided (CanStay t lanes escape old before lid)
  stay_decided before lid =
      equivalent (AllDelivered lid × (AllKeep lid × ClosesNoneAnywhere before lid)) (CanStay t lanes escape old before lid)
      (λ p. record { delivered = p.0; levels = p.1.0; closes_none = p.1.1 }) (λ s. (s.delivered, (s.levels, s.closes_none)))
      (both (AllDelivered lid) (AllKeep lid × ClosesNoneAnywhere before lid) (delivered_decided lid)
      (both (AllKeep lid) (ClosesNoneAnywhere before lid) (levels_decided lid) (all_below (ClosesNoneWith before lid) (closes_decided before lid) lanes)))

  -- ---- LID by LID

  kept_below : (n : ℕ) → (kept : List ℕ) × KeptBelow t lanes escape old kept n
  kept_below zero = ([], none_kept t lanes escape old)
  kept_below (suc n) = go (kept_below n)
    where
      go : (kept : List ℕ) × KeptBelow t lanes escape old kept n → (kept : List ℕ) × KeptBelow t lanes escape old kept (suc n)
      go x = elim (contains_decided (lids_of t) n) [
        | inl used ↦ (elim (stay_decided x.0 n) [
          | inl stays ↦ (x.0 ++ n ∷ [], one_kept_more t lanes escape old x.0 n used stays x.1)
          | inr refused ↦ (x.0, not_kept t lanes escape old x.0 n refused x.1)
        ])
        | inr unused ↦ (x.0, passes_unused t lanes escape old x.0 n (suc n) (omega arith) (λ lid low high used. unused (let same : lid ≡ n = omega (arith, low, high) in subst (λ z. Contains (lids_of t) z) same used)) x.1)
      ]

  pub kept_of_exist : (n : ℕ) → ((lid : ℕ) → Contains (lids_of t) lid → lid < n) → (kept : List ℕ) × AreKeptOf t lanes escape old kept
  kept_of_exist n all = let x : (kept : List ℕ) × KeptBelow t lanes escape old kept n = kept_below n in (x.0, all_looked_at t lanes escape old x.0 n all x.1)

pub kept_exist : (t : Topology) → IsWellFormed t → (lanes : ℕ) (escape : ℕ → ℕ → ℕ → Type 0) → ((on_lane : ℕ) → HasEdges (λ c d. escape on_lane c d)) → (old : Option Plan) (n : ℕ) →
    ((lid : ℕ) → Contains (lids_of t) lid → lid < n) → (kept : List ℕ) × AreKept t lanes escape old kept
kept_exist t good lanes escape listed None n all = ([], refl)
kept_exist t good lanes escape listed (Some old) n all = kept_of_exist t good lanes escape listed old n all
