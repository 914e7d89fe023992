-- The first channel of a switch that begins a walk of least weight is that of the least such port.
use Rattle.std.proofs.Common.{◌≡◌, ◌≢◌, ℕ, zero, suc, ◌+◌, ◌*◌, ◌<◌, ◌≤◌, List, [], ◌∷◌, length, get_or, Some, None, Option, option_map, slice_get, refl, sym, ◌∙◌, ap, subst, inl, inr, arith}
use Rattle.std.specs.Prelude.{MatchOption}
use Rattle.std.proofs.lemmas.Bool.{cases_lt, cases_order}
use Rattle.std.proofs.lemmas.List.Sums.{sum_by-cons}
use Rattle.std.proofs.lemmas.Option.{same_Some, none-some, slice_get_within, slice_get-get_or, get_or_from_slice_get}
use Rattle.fab_model.specs.declared.rows.SwitchId.{SwitchId}
use Rattle.fab_model.specs.declared.rows.ChannelRow.{ChannelRow}
use Rattle.fab_model.specs.Topology.{Topology, channel_at, first_channel}
use Rattle.fab_model.specs.Connected.{AreConnected, LeadsAlong}
use Rattle.fab_model.specs.WellFormed.{IsWellFormed, GoesBefore}
use Rattle.fab_model.proofs.Channels.{contains_read}
use Rattle.fab_model.proofs.Finds.{channels_are_found}
use Rattle.fab_tables.specs.Route.{tip}
use Rattle.fab_tables.proofs.Paths.FallingRoutes.{channel_found}
use Rattle.fab_tables.proofs.Joined.Leaving.{leaves_from, stands_between}
use Rattle.fab_tables.proofs.Joined.Tips.{tip_below}
use Rattle.fab_sssp.specs.WeightTables.{WeightTable, AreWeights, WeightsFit, weight_of}
use Rattle.fab_sssp.specs.LeastWeight.{weight_along, IsLeastWalk, IsDistance, AreDistances}
use Rattle.fab_sssp.specs.Nearing.{weight_limit}
use Rattle.fab_sssp.specs.Laying.{IsLeastChannel}
use Rattle.fab_sssp.proofs.Walks.LeastWalks.{least_rest}
use Rattle.fab_sssp.proofs.Tables.OneTable.{one_distance}
use Rattle.fab_sssp.proofs.Walks.Settled.{begins_by_distances, distances_by_begins}
use Rattle.fab_sssp.proofs.Walks.ShortWalks.{distance_small}
use Rattle.fab_sssp.proofs.Raising.WeightBounds.{weight_within}

pub joined_along : (t : Topology) (cs : List ℕ) (s to : ℕ) → LeadsAlong t s cs to → AreConnected t s to
joined_along t [] s to leads = (0, leads)
joined_along t (c ∷ cs) s to leads =
    let rest : AreConnected t leads.0.tip.0 to = joined_along t cs leads.0.tip.0 to leads.3 in
    (suc rest.0, (leads.0.tip.0, (leads.0, contains_read t.channels c leads.0 leads.1, leads.2, refl), rest.1))

pub joined_by_distance : (t : Topology) (weight : ℕ → ℕ) (s to n : ℕ) → IsDistance t weight s to n → AreConnected t s to
joined_by_distance t weight s to n far = joined_along t far.0 s to far.1.leads

-- what is read of distances
pub distance_read : (t : Topology) (weight : ℕ → ℕ) (to : ℕ) (found : List (Option ℕ)) (s : ℕ) (o : Option ℕ) → AreDistances t weight to found → s < length t.switches → get_or found s None ≡ o →
    MatchOption o (¬ AreConnected t s to) (λ n. IsDistance t weight s to n)
distance_read t weight to found s o far low is = far.each s o (slice_get-get_or found s None (omega (arith, low, far.each_switch)) ∙ ap (λ x. Some x) is)

pub none_left : (o : Option ℕ) → ((n : ℕ) → o ≡ Some n → ⊥) → o ≡ None
none_left None not = refl
none_left (Some n) not = absurd (not n refl)

-- a channel leads to a switch of the fabric
pub tip_within : (t : Topology) → IsWellFormed t → (c : ℕ) (x : SwitchId) → option_map (λ (row : ChannelRow). row.tip) (slice_get t.channels c) ≡ Some x → x.0 < length t.switches
tip_within t good c x = go (slice_get t.channels c) refl
  where
    go : (o : Option ChannelRow) → slice_get t.channels c ≡ o → option_map (λ (row : ChannelRow). row.tip) o ≡ Some x → x.0 < length t.switches
    go None at e = absurd (none-some x e)
    go (Some row) at e = omega (arith, tip_below t good row (contains_read t.channels c row at), ap (λ (s : SwitchId). s.0) (same_Some row.tip x e))

-- the channel begins no walk of so little weight
abbrev pub IsMissed : Topology → (ℕ → ℕ) → ℕ → ℕ → ℕ → Type 0
IsMissed t weight to n c = (m : ℕ) → IsDistance t weight (tip t c) to m → n ≢ weight c + m

-- nor do the channels of the switch before this one
abbrev pub AreMissed : Topology → (ℕ → ℕ) → ℕ → ℕ → ℕ → ℕ → Type 0
AreMissed t weight s to n bound = (c : ℕ) → first_channel t s ≤ c → c < bound → IsMissed t weight to n c

pub missed_more : (t : Topology) (weight : ℕ → ℕ) (s to n bound : ℕ) → AreMissed t weight s to n bound → IsMissed t weight to n bound → AreMissed t weight s to n (bound + 1)
missed_more t weight s to n bound before here c from past = elim (cases_lt c bound) [
  | inl less ↦ before c from less
  | inr more ↦ (let same : c ≡ bound = omega (arith, past, more) in subst (λ d. IsMissed t weight to n d) (sym same) here)
]

pub missed_apart : (t : Topology) (weight : ℕ → ℕ) (to n c : ℕ) → ¬ AreConnected t (tip t c) to → IsMissed t weight to n c
missed_apart t weight to n c apart m far is = apart (joined_by_distance t weight (tip t c) to m far)

pub missed_other : (t : Topology) (weight : ℕ → ℕ) (to n c m : ℕ) → IsDistance t weight (tip t c) to m → n ≢ weight c + m → IsMissed t weight to n c
missed_other t weight to n c m far other k also is = other (omega (arith, is, one_distance t weight (tip t c) to m k far also))

module _ (t : Topology) (good : IsWellFormed t) (weight : ℕ → ℕ) (s to n : ℕ) (far : IsDistance t weight s to n) where
  -- the first channel that isn't missed
  pub first_is_least : (c m : ℕ) → c < length t.channels → first_channel t s ≤ c → c < first_channel t (s + 1) → AreMissed t weight s to n c → IsDistance t weight (tip t c) to m → n ≡ weight c + m → 0 < weight c → IsLeastChannel t weight s to c
  first_is_least c m low from past missed beyond is positive = record {
    row = row;
    there = there;
    tail = tail;
    least = record { holds = begins_by_distances t weight s to row.port c m n at far beyond is; least = λ p begins. no_less p (distances_by_begins t weight s to p n begins far) };
    nearer = (n, m, far, beyond, omega (arith, is, positive));
  }
    where
      row_is : (rows : List ChannelRow) (k : ℕ) → k < length rows → (r : ChannelRow) × (slice_get rows k ≡ Some r)
      row_is [] k h = absurd (omega (arith, h))
      row_is (r ∷ rows) zero h = (r, refl)
      row_is (r ∷ rows) (suc k) h = row_is rows k (omega (arith, h))

      row : ChannelRow
      row = (row_is t.channels c low).0

      there : slice_get t.channels c ≡ Some row
      there = (row_is t.channels c low).1

      tail : row.tail.0 ≡ s
      tail = ap (λ (r : ChannelRow). r.tail.0) (sym (get_or_from_slice_get t.channels c row row there)) ∙ leaves_from t good s c row low from past

      at : channel_at t s row.port ≡ Some c
      at = subst (λ x. channel_at t x row.port ≡ Some c) tail (channels_are_found t c row good there)

      no_less : (p : ℕ) → (d k : ℕ) × (channel_at t s p ≡ Some d) × IsDistance t weight (tip t d) to k × (n ≡ weight d + k) → row.port ≤ p
      no_less p x =
          let found : (r : ChannelRow) × (x.0 < length t.channels) × (slice_get t.channels x.0 ≡ Some r) × (r.tail.0 ≡ s) × (r.port ≡ p) = channel_found t s p x.0 x.2 in
          let read : get_or t.channels x.0 row ≡ found.0 = get_or_from_slice_get t.channels x.0 found.0 row found.2 in
          let between : (first_channel t s ≤ x.0) × (x.0 < first_channel t (s + 1)) = stands_between t good s x.0 row found.1 (ap (λ (r : ChannelRow). r.tail.0) read ∙ found.3) in
          elim (cases_order c x.0) [
            | inl same ↦ omega (arith, found.4, ap (λ (r : ChannelRow). r.port) (same_Some row found.0 (sym there ∙ ap (λ k. slice_get t.channels k) same ∙ found.2)))
            | inr (inl less) ↦ goes found.0 (subst (λ r. GoesBefore row r) read (subst (λ r. GoesBefore r (get_or t.channels x.0 row)) (get_or_from_slice_get t.channels c row row there) (good.channels_rise c x.0 row less found.1))) found.3 found.4
            | inr (inr more) ↦ absurd (missed x.0 between.0 more x.1 x.3 x.4)
          ]
        where
          goes : (r : ChannelRow) → GoesBefore row r → r.tail.0 ≡ s → r.port ≡ p → row.port ≤ p
          goes r (inl lower) tails port = absurd (omega (arith, lower, tails, tail))
          goes r (inr both) tails port = omega (arith, both.1, port)

  -- one isn't missed, unless the switch is the destination
  pub one_begins : s ≢ to → (past : ℕ) → first_channel t (s + 1) ≤ past → AreMissed t weight s to n past → ⊥
  one_begins other past high missed = go far.0 far.1 far.2
    where
      go : (cs : List ℕ) → IsLeastWalk t weight s to cs → weight_along weight cs ≡ n → ⊥
      go [] walk is = other walk.leads
      go (c ∷ rest) walk is =
          let leads : LeadsAlong t s (c ∷ rest) to = walk.leads in
          let read : get_or t.channels c leads.0 ≡ leads.0 = get_or_from_slice_get t.channels c leads.0 leads.0 leads.1 in
          let between : (first_channel t s ≤ c) × (c < first_channel t (s + 1)) = stands_between t good s c leads.0 (slice_get_within t.channels c leads.0 leads.1) (ap (λ (r : ChannelRow). r.tail.0) read ∙ leads.2) in
          missed c between.0 (omega (arith, between.1, high)) (weight_along weight rest) (rest, least_rest t weight s to c rest walk, refl) (sym is ∙ sum_by-cons weight c rest)

-- a distance is far below what 64 bits hold
pub distance_within : (t : Topology) → IsWellFormed t → (w : WeightTable) → AreWeights w → WeightsFit t w → (s to n : ℕ) → IsDistance t (λ c. weight_of w c) s to n → n ≤ 2048 * weight_limit
distance_within t good w kept fit s to n far = omega (
  arith,
  distance_small t (λ c. weight_of w c) to good (λ c low. (kept.each c 0 (omega (arith, low, fit.channels))).0) s n weight_limit far (λ c. weight_within w kept c),
  good.switch_count,
)
