-- From each switch that is connected to another one there is a distance, and a channel of the least port along which it falls.
use Rattle.std.proofs.Common.{◌≡◌, ◌≢◌, ℕ, zero, suc, ◌+◌, ◌-◌, ◌<◌, ◌≤◌, List, [], ◌∷◌, length, Some, None, Option, slice_get, refl, sym, ◌∙◌, ap, subst, inl, inr, ◌⊎◌, arith}
use Rattle.std.proofs.lemmas.Bool.{cases_lt}
use Rattle.std.proofs.lemmas.List.Sums.{sum_by-cons}
use Rattle.std.proofs.lemmas.Option.{same_Some, none-some, slice_get_within, slice_get-get_or, get_or_from_slice_get}
use Rattle.fab_graph.specs.Least.{IsLeast}
use Rattle.fab_graph.proofs.Decided.{Decided, equal, both, equivalent, found_below, least_of}
use Rattle.fab_model.specs.declared.rows.ChannelRow.{ChannelRow}
use Rattle.fab_model.specs.Topology.{Topology, first_channel}
use Rattle.fab_model.specs.Connected.{AreConnected, LeadsAlong}
use Rattle.fab_model.specs.WellFormed.{IsWellFormed}
use Rattle.fab_model.proofs.Channels.{channels_of_walk}
use Rattle.fab_tables.specs.Route.{tip, tip_of_row}
use Rattle.fab_tables.specs.Trees.{LeavesSwitch}
use Rattle.fab_tables.proofs.Joined.ConnectedDecided.{connected_decided}
use Rattle.fab_tables.proofs.Joined.Leaving.{leaves_from, stands_between}
use Rattle.fab_sssp.specs.LeastWeight.{weight_along, IsLeastWalk, IsDistance}
use Rattle.fab_sssp.specs.Laying.{IsLeastChannel, HasItsChannel}
use Rattle.fab_sssp.proofs.Tables.OneTable.{one_distance}
use Rattle.fab_sssp.proofs.Walks.LeastWalks.{least_rest}
use Rattle.fab_sssp.proofs.Walks.LeastChannels.{AreMissed, joined_by_distance, first_is_least}

module _ (t : Topology) (weight : ℕ → ℕ) (positive : (c : ℕ) → c < length t.channels → 0 < weight c) (to : ℕ) where
  -- a walk of just this weight
  abbrev HasWalk : ℕ → ℕ → Type 0
  HasWalk s n = (cs : List ℕ) × LeadsAlong t s cs to × (weight_along weight cs ≡ n)

  -- one that begins with the channel
  abbrev HasWalkBy : ℕ → ℕ → ℕ → Type 0
  HasWalkBy s n c = LeavesSwitch t c s × ((m : ℕ) × (weight c + m ≡ n) × HasWalk (tip t c) m)

  leaves_decided : (c s : ℕ) → Decided (LeavesSwitch t c s)
  leaves_decided c s = go (slice_get t.channels c) refl
    where
      go : (o : Option ChannelRow) → slice_get t.channels c ≡ o → Decided (LeavesSwitch t c s)
      go None is = inr (λ leaves. none-some leaves.0 (sym is ∙ leaves.1))
      go (Some row) is = equivalent (row.tail.0 ≡ s) (LeavesSwitch t c s) (λ e. (row, is, e)) (λ leaves. ap (λ (r : ChannelRow). r.tail.0) (same_Some row leaves.0 (sym is ∙ leaves.1)) ∙ leaves.2) (equal row.tail.0 s)

  walk_by_decided : (s n c : ℕ) → ((m : ℕ) → m < n → Decided (HasWalk (tip t c) m)) → Decided (HasWalkBy s n c)
  walk_by_decided s n c rest = go (leaves_decided c s) (cases_lt n (weight c))
    where
      go : Decided (LeavesSwitch t c s) → (n < weight c) ⊎ (weight c ≤ n) → Decided (HasWalkBy s n c)
      go (inr none) h = inr (λ x. none x.0)
      go (inl leaves) (inl heavy) = inr (λ x. omega (arith, heavy, x.1.1))
      go (inl leaves) (inr light) = equivalent (HasWalk (tip t c) (n - weight c)) (HasWalkBy s n c) (λ walk. (leaves, (n - weight c, omega (arith, light), walk)))
          (λ x. subst (λ m. HasWalk (tip t c) m) (omega (arith, light, x.1.1)) x.1.2) (rest (n - weight c) (omega (arith, light, positive c (slice_get_within t.channels c leaves.0 leaves.1))))

  walk_decided : (k s n : ℕ) → n < k → Decided (HasWalk s n)
  walk_decided zero s n h = absurd (omega (arith, h))
  walk_decided (suc k) s n h = go (both (s ≡ to) (0 ≡ n) (equal s to) (equal 0 n)) (found_below (HasWalkBy s n) (λ c. walk_by_decided s n c (λ m less. walk_decided k (tip t c) m (omega (arith, h, less)))) (length t.channels))
    where
      go : Decided ((s ≡ to) × (0 ≡ n)) → ((c : ℕ) × (c < length t.channels) × HasWalkBy s n c) ⊎ ((c : ℕ) → c < length t.channels → ¬ HasWalkBy s n c) → Decided (HasWalk s n)
      go (inl here) found = inl ([], here.0, here.1)
      go (inr away) (inl found) =
          let leaves : LeavesSwitch t found.0 s = found.2.0 in
          let walk : HasWalk (tip t found.0) found.2.1.0 = found.2.1.2 in
          inl (found.0 ∷ walk.0, (leaves.0, leaves.1, leaves.2, subst (λ x. LeadsAlong t x walk.0 to) (ap tip_of_row leaves.1) walk.1), omega (arith, sum_by-cons weight found.0 walk.0, walk.2, found.2.1.1))
      go (inr away) (inr none) = inr no_walk
        where
          no_walk : HasWalk s n → ⊥
          no_walk x = by x.0 x.1 x.2
            where
              by : (cs : List ℕ) → LeadsAlong t s cs to → weight_along weight cs ≡ n → ⊥
              by [] leads is = away (leads, is)
              by (c ∷ cs) leads is = none c (slice_get_within t.channels c leads.0 leads.1)
                  ((leads.0, leads.1, leads.2), (weight_along weight cs, omega (arith, sum_by-cons weight c cs, is), (cs, subst (λ x. LeadsAlong t x cs to) (sym (ap tip_of_row leads.1)) leads.3, refl)))

  pub distance_exists : (s : ℕ) → AreConnected t s to → (n : ℕ) × IsDistance t weight s to n
  distance_exists s joined =
      let walk : (cs : List ℕ) × LeadsAlong t s cs to × (length cs ≡ joined.0) = channels_of_walk t joined.0 s to joined.1 in
      let best : (m : ℕ) × IsLeast (HasWalk s) m = least_of (HasWalk s) (λ n. walk_decided (suc n) s n (omega arith)) (weight_along weight walk.0) (walk.0, walk.1, refl) in
      let own : HasWalk s best.0 = best.1.holds in
      (best.0, (own.0, record { leads = own.1; least = λ others leads. omega (arith, own.2, best.1.least (weight_along weight others) (others, leads, refl)) }, own.2))

  -- ---- the channel of a switch

  module _ (good : IsWellFormed t) (s n : ℕ) (far : IsDistance t weight s to n) where
    -- the distance falls along the channel by its weight
    abbrev FallsAlong : ℕ → Type 0
    FallsAlong c = LeavesSwitch t c s × ((m : ℕ) × IsDistance t weight (tip t c) to m × (n ≡ weight c + m))

    falls_decided : (c : ℕ) → Decided (FallsAlong c)
    falls_decided c = go (leaves_decided c s) (connected_decided t (tip t c) to)
      where
        go : Decided (LeavesSwitch t c s) → Decided (AreConnected t (tip t c) to) → Decided (FallsAlong c)
        go (inr none) joined = inr (λ x. none x.0)
        go (inl leaves) (inr apart) = inr (λ x. apart (joined_by_distance t weight (tip t c) to x.1.0 x.1.1))
        go (inl leaves) (inl joined) =
            let there : (m : ℕ) × IsDistance t weight (tip t c) to m = distance_exists (tip t c) joined in
            equivalent (n ≡ weight c + there.0) (FallsAlong c) (λ e. (leaves, (there.0, there.1, e)))
            (λ x. omega (arith, x.1.2, one_distance t weight (tip t c) to x.1.0 there.0 x.1.1 there.1)) (equal n (weight c + there.0))

    some_falls : s ≢ to → (c : ℕ) × FallsAlong c
    some_falls other = go far.0 far.1 far.2
      where
        go : (cs : List ℕ) → IsLeastWalk t weight s to cs → weight_along weight cs ≡ n → (c : ℕ) × FallsAlong c
        go [] walk is = absurd (other walk.leads)
        go (c ∷ rest) walk is =
            let leads : LeadsAlong t s (c ∷ rest) to = walk.leads in
            (c, ((leads.0, leads.1, leads.2), (weight_along weight rest, (rest, least_rest t weight s to c rest walk, refl), sym is ∙ sum_by-cons weight c rest)))

    pub least_channel_exists : s ≢ to → (c : ℕ) × IsLeastChannel t weight s to c
    least_channel_exists other =
        let some : (c : ℕ) × FallsAlong c = some_falls other in
        let best : (c : ℕ) × IsLeast FallsAlong c = least_of FallsAlong falls_decided some.0 some.1 in
        let c : ℕ = best.0 in
        let falls : FallsAlong c = best.1.holds in
        let row : ChannelRow = falls.0.0 in
        let low : c < length t.channels = slice_get_within t.channels c row falls.0.1 in
        let between : (first_channel t s ≤ c) × (c < first_channel t (s + 1)) =
        stands_between t good s c row low (ap (λ (r : ChannelRow). r.tail.0) (get_or_from_slice_get t.channels c row row falls.0.1) ∙ falls.0.2) in
        let missed : AreMissed t weight s to n c = λ d from less m there is.
        let within : d < length t.channels = omega (arith, less, low) in
        omega (arith, less, best.1.least d ((_, slice_get-get_or t.channels d row within, leaves_from t good s d row within from (omega (arith, less, between.1))), (m, there, is))) in
        (c, first_is_least t good weight s to n far c falls.1.0 low between.0 between.1 missed falls.1.1 falls.1.2 (positive c low))

  pub channel_exists : IsWellFormed t → (s : ℕ) → (o : Option ℕ) × HasItsChannel t weight s to o
  channel_exists good s = go (equal s to) (connected_decided t s to)
    where
      go : Decided (s ≡ to) → Decided (AreConnected t s to) → (o : Option ℕ) × HasItsChannel t weight s to o
      go (inl same) joined = (None, inl same)
      go (inr other) (inr apart) = (None, inr apart)
      go (inr other) (inl joined) =
          let far : (n : ℕ) × IsDistance t weight s to n = distance_exists s joined in
          let least : (c : ℕ) × IsLeastChannel t weight s to c = least_channel_exists good s far.0 far.1 other in
          (Some least.0, (other, least.1))
