-- LID after LID is laid: the weights that were raised are those of the finished tables at each LID's turn.
use Rattle.std.proofs.Common.{◌≡◌, ◌≢◌, ℕ, ◌+◌, ◌<◌, ◌≤◌, ◌⊎◌, inl, inr, List, length, take, get_or, Some, None, Option, refl, sym, ◌∙◌, ap, subst, arith, Contains}
use Rattle.std.specs.Prelude.{slice_index, slice_get, All}
use Rattle.std.specs.List.Sorted.{IsStrictlyIncreasing}
use Rattle.std.proofs.lemmas.Bool.{cases_lt}
use Rattle.std.proofs.lemmas.List.{get_or_default, get_or-take, get_or-replicate, length-replicate, length-take-le}
use Rattle.std.proofs.lemmas.List.Kept.{AllPairs-from_increasing}
use Rattle.std.proofs.lemmas.Option.{same_Some, get_or_from_slice_get}
use Rattle.fab_model.specs.declared.rows.Place.{Place}
use Rattle.fab_model.specs.Topology.{Topology, lids_of, place_of}
use Rattle.fab_model.specs.Connected.{AreConnected, IsConnectedTo}
use Rattle.fab_model.specs.WellFormed.{IsFabric, IsWellFormed}
use Rattle.fab_tables.specs.Entries.{Entries, index_of, entry, port_in_column, no_entries}
use Rattle.fab_tables.specs.Fit.{EntriesFit}
use Rattle.fab_tables.specs.FixedEntries.{IsChosen}
use Rattle.fab_tables.specs.Trees.{next}
use Rattle.fab_tables.specs.TreeWalks.{terminals_through}
use Rattle.fab_tables.proofs.Joined.Lids.{lid_in_use}
use Rattle.fab_tables.proofs.Rows.Cells.{index_found}
use Rattle.fab_sssp.specs.WeightTables.{WeightTable, weight_of, start_weight, start_weights, WeightsFit}
use Rattle.fab_sssp.specs.Carried.{weight_after}
use Rattle.fab_sssp.specs.LeastWeight.{IsLeastPort}
use Rattle.fab_sssp.specs.LeastWeightTables.{weight_at, AreLeastWeightTables}
use Rattle.fab_sssp.specs.Laying.{IsLeastChannel, HasItsChannel, IsLaid, KeepsOtherLids}
use Rattle.fab_tables.proofs.Rows.EntriesSet.{no_entries_fit}
use Rattle.fab_sssp.proofs.Tables.LaidTrees.{laid_is_tree_of, entry_of_channel, own_entry, other_entry}
use Rattle.fab_sssp.proofs.Walks.LeastChannels.{joined_by_distance}
use Rattle.fab_sssp.proofs.Tables.Turns.{running_weight, raised_weight}
use Rattle.fab_sssp.proofs.Walks.WeightsInRange.{SameWeights, least_port-same}
use Rattle.fab_sssp.proofs.Tables.WeightsSame.{SameEntries, weight_at-same}

-- the entries for a LID are those of least weight at its turn
pub record IsLidLaid (t : Topology) (e : Entries) (lid : ℕ) : Type 0 where
  pub place : Place
  pub in_use : place_of t lid ≡ Some place
  pub own : entry e place.switch.0 lid ≡ place.port
  pub apart : (s : ℕ) → ¬ AreConnected t s place.switch.0 → entry e s lid ≡ 255
  pub chosen : (s : ℕ) → AreConnected t s place.switch.0 → s ≢ place.switch.0 → IsLeastPort t (λ c. weight_at t e lid c) s place.switch.0 (entry e s lid)

-- the first so many LIDs are laid, and the weights are theirs
pub record IsLaying (t : Topology) (e : Entries) (w : WeightTable) (count : ℕ) : Type 0 where
  pub fits : EntriesFit t e
  pub made_for : WeightsFit t w
  pub raised : w.raised ≡ count
  pub weights : (c : ℕ) → c < length t.channels → weight_of w c ≡ weight_after t e (take count (lids_of t)) c
  pub laid : (i : ℕ) → i < count → IsLidLaid t e (slice_index (lids_of t) i)

pub laying_begins : (t : Topology) → IsFabric t → IsLaying t (no_entries (length t.switches) (lids_of t)) (start_weights t) 0
laying_begins t fabric = record {
  fits = no_entries_fit t fabric;
  made_for = record { channels = length-replicate (length t.channels) (start_weight t); switches = refl };
  raised = refl;
  weights = λ c low. omega (arith, get_or-replicate (length t.channels) c (start_weight t) 0 low);
  laid = λ i low. absurd (omega (arith, low));
}

-- a LID that was just laid
module _ (t : Topology) (weight : ℕ → ℕ) (e : Entries) (lid : ℕ) (tree : List (Option ℕ)) (good : IsWellFormed t) (laid : IsLaid t weight e lid tree) (same : SameWeights t weight (λ c. weight_at t e lid c)) where
  abbrev to : ℕ
  to = laid.place.switch.0

  entry_by_channel : (s : ℕ) (o : Option ℕ) → next tree s ≡ o → HasItsChannel t weight s to o →
      ((s ≡ to) × (entry e s lid ≡ laid.place.port)) ⊎ (((¬ AreConnected t s to) × (entry e s lid ≡ 255)) ⊎ ((s ≢ to) × AreConnected t s to × IsLeastPort t weight s to (entry e s lid)))
  entry_by_channel s None is (inl own) = inl (own, own_entry t weight e lid tree good laid s own is)
  entry_by_channel s None is (inr apart) = inr (inl (apart, other_entry t weight e lid tree good laid s (λ own. apart (0, own)) is))
  entry_by_channel s (Some c) is has =
      let least : IsLeastChannel t weight s to c = has.1 in
      inr (inr (has.0, joined_by_distance t weight s to least.nearer.0 least.nearer.2, subst (λ p. IsLeastPort t weight s to p) (sym (entry_of_channel t weight e lid tree good laid s c is least)) least.least))

  abbrev by_channel : (s : ℕ) → ((s ≡ to) × (entry e s lid ≡ laid.place.port)) ⊎ (((¬ AreConnected t s to) × (entry e s lid ≡ 255)) ⊎ ((s ≢ to) × AreConnected t s to × IsLeastPort t weight s to (entry e s lid)))
  by_channel s = entry_by_channel s (next tree s) refl (laid.each s).channel

  pub lid_laid : IsLidLaid t e lid
  lid_laid = record {
    place = laid.place;
    in_use = laid.in_use;
    own = elim (by_channel to) [
      | inl own ↦ own.1
      | inr (inl apart) ↦ absurd (apart.0 (0, refl))
      | inr (inr chosen) ↦ absurd (chosen.0 refl)
    ];
    apart = λ s none. elim (by_channel s) [
      | inl own ↦ absurd (none (0, own.0))
      | inr (inl apart) ↦ apart.1
      | inr (inr chosen) ↦ absurd (none chosen.1)
    ];
    chosen = λ s joined other. elim (by_channel s) [
      | inl own ↦ absurd (other own.0)
      | inr (inl apart) ↦ absurd (apart.0 joined)
      | inr (inr chosen) ↦ least_port-same t weight (λ c. weight_at t e lid c) same s to (entry e s lid) chosen.2
    ];
  }

-- entries of greater LIDs change nothing for it
lid_stays : (t : Topology) (e new : Entries) (lid : ℕ) → SameEntries e new lid → ((other : ℕ) → other < lid → SameEntries e new other) → IsLidLaid t e lid → IsLidLaid t new lid
lid_stays t e new lid same smaller laid = record {
  place = laid.place;
  in_use = laid.in_use;
  own = sym (same laid.place.switch.0) ∙ laid.own;
  apart = λ s none. sym (same s) ∙ laid.apart s none;
  chosen = λ s joined other. least_port-same t (λ c. weight_at t e lid c) (λ c. weight_at t new lid c) (λ c low. weight_at-same t e new lid c smaller) s laid.place.switch.0 (entry new s lid)
      (subst (λ p. IsLeastPort t (λ c. weight_at t e lid c) s laid.place.switch.0 p) (same s) (laid.chosen s joined other));
}

-- ---- one LID more

module _ (t : Topology) (e new : Entries) (w raised : WeightTable) (k : ℕ) (tree : List (Option ℕ)) (good : IsWellFormed t) (before : IsLaying t e w k) (low : k < length (lids_of t))
    (laid : IsLaid t (λ c. weight_of w c) new (slice_index (lids_of t) k) tree) (keeps : KeepsOtherLids (slice_index (lids_of t) k) e new) (fits : EntriesFit t new)
    (made_for : WeightsFit t raised) (counted : raised.raised ≡ w.raised + 1) (adds : (c : ℕ) → c < length t.channels → weight_of raised c ≡ weight_of w c + terminals_through t tree c) where
  abbrev lids : List ℕ
  lids = lids_of t

  up : IsStrictlyIncreasing lids
  up = subst IsStrictlyIncreasing before.fits.in_use before.fits.whole.ascending

  comes_before : (i : ℕ) → i < k → slice_index lids i < slice_index lids k
  comes_before i less = AllPairs-from_increasing lids up i k 0 less low

  same_smaller : (other : ℕ) → other < slice_index lids k → SameEntries e new other
  same_smaller other less s = sym (keeps s other (λ same. omega (arith, same, less)))

  same_first : All (λ lid. SameEntries e new lid) (take k lids)
  same_first j d h =
      let first : j < k = omega (arith, h, length-take-le k lids (omega (arith, low))) in
      let is : get_or (take k lids) j d ≡ slice_index lids j = get_or-take k lids j d first ∙ get_or_default lids j d 0 (omega (arith, first, low)) in
      subst (λ lid. SameEntries e new lid) (sym is) (same_smaller (slice_index lids j) (comes_before j first))

  weights_at_turn : SameWeights t (λ c. weight_of w c) (λ c. weight_at t new (slice_index lids k) c)
  weights_at_turn c h = before.weights c h ∙ running_weight t e new k c up low same_first

  one_lid_more : IsLaying t new raised (k + 1)
  one_lid_more = record {
    fits = fits;
    made_for = made_for;
    raised = omega (arith, counted, before.raised);
    weights = λ c h. omega (
      arith,
      adds c h,
      before.weights c h,
      raised_weight t e new tree k c low same_first (laid_is_tree_of t (λ d. weight_of w d) new (slice_index lids k) tree good laid),
    );
    laid = λ i h. at i h (cases_lt i k);
  }
    where
      at : (i : ℕ) → i < k + 1 → (i < k) ⊎ (k ≤ i) → IsLidLaid t new (slice_index lids i)
      at i h (inl less) = lid_stays t e new (slice_index lids i) (same_smaller (slice_index lids i) (comes_before i less)) (λ other smaller. same_smaller other (omega (arith, smaller, comes_before i less))) (before.laid i less)
      at i h (inr more) =
          let same : i ≡ k = omega (arith, h, more) in
          subst (λ j. IsLidLaid t new (slice_index lids j)) (sym same) (lid_laid t (λ c. weight_of w c) new (slice_index lids k) tree good laid weights_at_turn)

-- the LID as the code reads it
pub one_lid_read : (t : Topology) (e new : Entries) (w raised : WeightTable) (k lid : ℕ) (tree : List (Option ℕ)) → IsWellFormed t → IsLaying t e w k → k < length (lids_of t) → slice_index (lids_of t) k ≡ lid →
    IsLaid t (λ c. weight_of w c) new lid tree → KeepsOtherLids lid e new → EntriesFit t new → WeightsFit t raised → raised.raised ≡ w.raised + 1 →
    ((c : ℕ) → c < length t.channels → weight_of raised c ≡ weight_of w c + terminals_through t tree c) → IsLaying t new raised (k + 1)
one_lid_read t e new w raised k lid tree good before low is laid keeps fits made_for counted adds =
    one_lid_more t e new w raised k tree good before low (subst (λ n. IsLaid t (λ c. weight_of w c) new n tree) (sym is) laid) (subst (λ n. KeepsOtherLids n e new) (sym is) keeps) fits made_for counted adds

-- ---- all LIDs

module _ (t : Topology) (e : Entries) (w : WeightTable) (k : ℕ) (all : IsLaying t e w k) (whole : length (lids_of t) ≤ k) where
  laid_of : (lid : ℕ) → Contains (lids_of t) lid → IsLidLaid t e lid
  laid_of lid has = subst (λ n. IsLidLaid t e n) (get_or_default (lids_of t) has.0 0 lid has.1 ∙ has.2) (all.laid has.0 (omega (arith, has.1, whole)))

  pub all_lids_laid : AreLeastWeightTables t e
  all_lids_laid = record {
    fixed = record {
      fits = all.fits;
      own = λ lid place is.
          let laid : IsLidLaid t e lid = laid_of lid (lid_in_use t lid place is) in
          let same : laid.place ≡ place = same_Some laid.place place (sym laid.in_use ∙ is) in
          subst (λ (p : Place). entry e p.switch.0 lid ≡ p.port) same laid.own;
      apart = λ s lid none. apart s lid none (index_of lid e.in_use) refl;
    };
    chosen = chosen;
  }
    where
      apart : (s lid : ℕ) → ¬ IsConnectedTo t s lid → (o : Option ℕ) → index_of lid e.in_use ≡ o → entry e s lid ≡ 255
      apart s lid none None is = ap (λ o. port_in_column e s o) is
      apart s lid none (Some i) is =
          let found : (i < length e.in_use) × (slice_get e.in_use i ≡ Some lid) = index_found lid e.in_use i is in
          let has : Contains e.in_use lid = (i, found.0, get_or_from_slice_get e.in_use i lid lid found.1) in
          let laid : IsLidLaid t e lid = laid_of lid (subst (λ ns. Contains ns lid) all.fits.in_use has) in
          laid.apart s (λ joined. none (laid.place, laid.in_use, joined))

      chosen : (s lid to : ℕ) → IsChosen t s lid to → IsLeastPort t (λ c. weight_at t e lid c) s to (entry e s lid)
      chosen s lid to is =
          let laid : IsLidLaid t e lid = laid_of lid (lid_in_use t lid is.place is.in_use) in
          let same : laid.place.switch.0 ≡ to = ap (λ (p : Place). p.switch.0) (same_Some laid.place is.place (sym laid.in_use ∙ is.in_use)) ∙ is.at_switch in
          subst (λ q. IsLeastPort t (λ c. weight_at t e lid c) s q (entry e s lid)) same
          (laid.chosen s (subst (λ q. AreConnected t s q) (sym same) is.connected) (λ own. is.other (own ∙ same)))
