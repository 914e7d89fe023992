-- Distances are what a search has found once nothing can be relaxed, and they tell which ports begin walks of least weight.
use Rattle.std.proofs.Common.{◌≡◌, ℕ, zero, suc, ◌+◌, ◌<◌, ◌≤◌, inl, inr, List, [], ◌∷◌, length, refl, sym, ◌∙◌, ap, subst, arith, Option, Some, None}
use Rattle.std.specs.Prelude.{slice_get, MatchOption}
use Rattle.std.proofs.lemmas.List.Sums.{sum_by-cons}
use Rattle.std.proofs.lemmas.Option.{same_Some, none-some, get_or_from_slice_get}
use Rattle.fab_model.specs.declared.rows.ChannelRow.{ChannelRow}
use Rattle.fab_model.specs.Topology.{Topology, channel_at}
use Rattle.fab_model.specs.Connected.{AreConnected, LeadsAlong}
use Rattle.fab_model.proofs.Channels.{channels_of_walk}
use Rattle.fab_tables.specs.Route.{tip, tip_of_row}
use Rattle.fab_tables.specs.Trees.{LeavesSwitch}
use Rattle.fab_tables.proofs.Paths.FallingRoutes.{channel_found}
use Rattle.fab_sssp.specs.LeastWeight.{weight_along, IsDistance, AreDistances, BeginsLeastWalk}
use Rattle.fab_sssp.specs.Nearing.{IsFound, IsAttained}
use Rattle.fab_sssp.proofs.Tables.OneTable.{one_distance}
use Rattle.fab_sssp.proofs.Walks.LeastWalks.{least_rest}

-- 0 was found for the destination; each other number comes along a channel; and no channel gives a smaller one
pub record AreSettled (t : Topology) (weight : ℕ → ℕ) (to : ℕ) (found : List (Option ℕ)) : Type 0 where
  pub each_switch : length found ≡ length t.switches
  pub at_to : IsFound found to 0
  pub attained : (s n : ℕ) → IsFound found s n → IsAttained t weight to found s n
  pub relaxed : (s c m : ℕ) → LeavesSwitch t c s → IsFound found (tip t c) m → (n : ℕ) × IsFound found s n × (n ≤ weight c + m)

module _ (t : Topology) (weight : ℕ → ℕ) (to : ℕ) (found : List (Option ℕ)) (settled : AreSettled t weight to found) where
  -- no walk weighs less than what was found
  lower : (cs : List ℕ) (s : ℕ) → LeadsAlong t s cs to → (n : ℕ) × IsFound found s n × (n ≤ weight_along weight cs)
  lower [] s leads = (0, subst (λ x. IsFound found x 0) (sym leads) settled.at_to, omega arith)
  lower (c ∷ cs) s leads = go (lower cs leads.0.tip.0 leads.3)
    where
      go : (m : ℕ) × IsFound found leads.0.tip.0 m × (m ≤ weight_along weight cs) → (n : ℕ) × IsFound found s n × (n ≤ weight_along weight (c ∷ cs))
      go rest =
          let there : IsFound found (tip t c) rest.0 = subst (λ x. IsFound found x rest.0) (sym (ap tip_of_row leads.1)) rest.1 in
          let r : (n : ℕ) × IsFound found s n × (n ≤ weight c + rest.0) = settled.relaxed s c rest.0 (leads.0, leads.1, leads.2) there in
          (r.0, r.1, omega (arith, r.2, rest.2, sum_by-cons weight c cs))

  -- and some walk weighs it
  upper : (k s n : ℕ) → n < k → IsFound found s n → (cs : List ℕ) × LeadsAlong t s cs to × (weight_along weight cs ≡ n)
  upper zero s n h at = absurd (omega (arith, h))
  upper (suc k) s n h at = go (settled.attained s n at) (λ x m less y. upper k x m less y)
    where
      go : IsAttained t weight to found s n →
          ((x m : ℕ) → m < k → IsFound found x m → (cs : List ℕ) × LeadsAlong t x cs to × (weight_along weight cs ≡ m)) → (cs : List ℕ) × LeadsAlong t s cs to × (weight_along weight cs ≡ n)
      go (inl here) more = ([], here.0, sym here.1)
      go (inr further) more =
          let rest : (cs : List ℕ) × LeadsAlong t (tip t further.0) cs to × (weight_along weight cs ≡ further.1) = more (tip t further.0) further.1 (omega (arith, further.5, h)) further.3 in (
            further.0 ∷ rest.0,
            (further.2.0, further.2.1, further.2.2, subst (λ x. LeadsAlong t x rest.0 to) (ap tip_of_row further.2.1) rest.1),
            omega (arith, sum_by-cons weight further.0 rest.0, rest.2, further.4),
          )

  pub settled_distance : (s n : ℕ) → IsFound found s n → IsDistance t weight s to n
  settled_distance s n at =
      let walk : (cs : List ℕ) × LeadsAlong t s cs to × (weight_along weight cs ≡ n) = upper (suc n) s n (omega arith) at in
      (walk.0, record { leads = walk.1; least = λ others leads. no_less others walk.0 walk.2 (lower others s leads) }, walk.2)
    where
      no_less : (others cs : List ℕ) → weight_along weight cs ≡ n → (m : ℕ) × IsFound found s m × (m ≤ weight_along weight others) → weight_along weight cs ≤ weight_along weight others
      no_less others cs is low =
          let same : n ≡ low.0 = same_Some n low.0 (sym at ∙ low.1) in
          omega (arith, is, same, low.2)

  pub settled_distances : AreDistances t weight to found
  settled_distances = record { each_switch = settled.each_switch; each = each }
    where
      each : (s : ℕ) (kept : Option ℕ) → slice_get found s ≡ Some kept → MatchOption kept (¬ AreConnected t s to) (λ n. IsDistance t weight s to n)
      each s None at = λ joined.
          let walk : (cs : List ℕ) × LeadsAlong t s cs to × (length cs ≡ joined.0) = channels_of_walk t joined.0 s to joined.1 in
          let low : (n : ℕ) × IsFound found s n × (n ≤ weight_along weight walk.0) = lower walk.0 s walk.1 in
          none-some low.0 (sym (get_or_from_slice_get found s None None at) ∙ low.1)
      each s (Some n) at = settled_distance s n (get_or_from_slice_get found s (Some n) None at)

-- the channel of a port begins a walk of least weight exactly where its weight is the difference of the distances
pub begins_by_distances : (t : Topology) (weight : ℕ → ℕ) (s to port c m n : ℕ) → channel_at t s port ≡ Some c → IsDistance t weight s to n → IsDistance t weight (tip t c) to m → n ≡ weight c + m →
    BeginsLeastWalk t weight s to port
begins_by_distances t weight s to port c m n at far near is = (c, near.0, at, record { leads = leads; least = λ others walk. omega (arith, far.1.least others walk, far.2, near.2, is, sum_by-cons weight c near.0) })
  where
    found : (row : ChannelRow) × (c < length t.channels) × (slice_get t.channels c ≡ Some row) × (row.tail.0 ≡ s) × (row.port ≡ port)
    found = channel_found t s port c at

    leads : LeadsAlong t s (c ∷ near.0) to
    leads = (found.0, found.2, found.3, subst (λ x. LeadsAlong t x near.0 to) (ap tip_of_row found.2) near.1.leads)

pub distances_by_begins : (t : Topology) (weight : ℕ → ℕ) (s to port n : ℕ) → BeginsLeastWalk t weight s to port → IsDistance t weight s to n →
    (c m : ℕ) × (channel_at t s port ≡ Some c) × IsDistance t weight (tip t c) to m × (n ≡ weight c + m)
distances_by_begins t weight s to port n x far = (
  x.0,
  weight_along weight x.1,
  x.2,
  (x.1, least_rest t weight s to x.0 x.1 x.3, refl),
  one_distance t weight s to n (weight_along weight (x.0 ∷ x.1)) far (x.0 ∷ x.1, x.3, refl) ∙ sum_by-cons weight x.0 x.1,
)
