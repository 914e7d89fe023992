-- Layers of all pairs exist, or a pair is the first to need another lane.
use Rattle.std.proofs.Common.{◌≡◌, ℕ, zero, suc, ◌+◌, ◌⊎◌, inl, inr, ◌++◌, ◌∷◌, [], List, length, replicate, refl, sym, ◌∙◌, subst, arith, All, length-append}
use Rattle.std.proofs.lemmas.List.{length-replicate}
use Rattle.fab_model.specs.Topology.{Topology}
use Rattle.fab_model.specs.WellFormed.{IsWellFormed}
use Rattle.fab_tables.specs.Entries.{Entries, cell}
use Rattle.fab_depgraph.specs.Listed.{Dependencies}
use Rattle.fab_lash.specs.Pairs.{IsPair}
use Rattle.fab_lash.specs.Followers.{pair_dependencies}
use Rattle.fab_lash.specs.Layerings.{AreLayers, NeedsLane}
use Rattle.fab_lash.specs.Layered.{AreUsed}
use Rattle.fab_lash.specs.PairLayers.{layer_at}
use Rattle.fab_lash.specs.Placing.{listed_in, channel_counts, IsPlaced, IsPlacedPair, IsNowhere}
use Rattle.fab_lash.proofs.LaneStates.{AreLayersBefore, nowhere_needs}
use Rattle.fab_lash.proofs.PairAfterPair.{pair_decided, none_placed, all_have_layers, all_are_used}
use Rattle.fab_lash.proofs.PairsInOrder.{one_more_layer, row_ends, cells_of_row, counts_stay}
use Rattle.fab_lash.proofs.Exists.Placed.{placed_or_nowhere}

module _ (t : Topology) (good : IsWellFormed t) (e : Entries) (count : ℕ) where
  abbrev switches : ℕ
  switches = length t.switches

  -- pairs before one have their layers, and the arenas list what is theirs
  record SoFar (low high : ℕ) : Type 0 where
    layers : List ℕ
    used : List Dependencies
    before : AreLayersBefore t e count (layer_at switches layers) used low high
    as_many : length layers ≡ cell switches low high
    channels : All (λ n. n ≡ length t.channels) (channel_counts used)

  abbrev Needs : Type 0
  Needs = (low high : ℕ) × NeedsLane t e count low high

  -- ---- before the first pair

  abbrev nothing : Dependencies
  nothing = record { channels = length t.channels; listed = []; spare = 0; numbers = [] }

  lists_nothing : (n lane : ℕ) → listed_in (replicate n nothing) lane ≡ []
  lists_nothing zero lane = refl
  lists_nothing (suc n) zero = refl
  lists_nothing (suc n) (suc lane) = lists_nothing n lane

  counts_at_first : (n : ℕ) → All (λ k. k ≡ length t.channels) (channel_counts (replicate n nothing))
  counts_at_first zero k d low = absurd (omega (arith, low))
  counts_at_first (suc n) zero d low = refl
  counts_at_first (suc n) (suc k) d low = counts_at_first n k d (omega (arith, low))

  begins : SoFar 0 0
  begins = record {
    layers = [];
    used = replicate count nothing;
    before = none_placed t e count (layer_at switches []) (replicate count nothing) (length-replicate count nothing) (lists_nothing count);
    as_many = omega arith;
    channels = counts_at_first count;
  }

  -- ---- pair after pair

  go_on : (low high lane : ℕ) (so_far : SoFar low high) (new : List Dependencies) → IsPlacedPair t e low high so_far.used new lane → SoFar low (high + 1)
  go_on low high lane so_far new placed = record {
    layers = so_far.layers ++ lane ∷ [];
    used = new;
    before = one_more_layer t e count so_far.layers so_far.used new low high lane good so_far.as_many so_far.before placed;
    as_many = omega (arith, length-append so_far.layers (lane ∷ []), so_far.as_many);
    channels = let P : List ℕ → Type 0 = λ ns. All (λ n. n ≡ length t.channels) ns in subst P (sym (counts_stay t e low high so_far.used new lane placed)) so_far.channels;
  }

  one_pair : (low high : ℕ) → SoFar low high → SoFar low (high + 1) ⊎ Needs
  one_pair low high so_far = elim (pair_decided t low high) [
    | inr none ↦ inl (go_on low high 0 so_far so_far.used (record { placed = λ pair. absurd (none pair); other = λ not. refl }))
    | inl pair ↦ by pair (placed_or_nowhere so_far.used (pair_dependencies t e low high))
  ]
    where
      by : IsPair t low high → ((lane : ℕ) × (new : List Dependencies) × IsPlaced so_far.used new (pair_dependencies t e low high) lane) ⊎ IsNowhere so_far.used (pair_dependencies t e low high) →
          SoFar low (high + 1) ⊎ Needs
      by pair (inl x) = inl (go_on low high x.0 so_far x.1 (record { placed = λ same. x.2; other = λ none. absurd (none pair) }))
      by pair (inr nowhere) = inr (low, high, nowhere_needs t e count (layer_at switches so_far.layers) so_far.used low high so_far.before pair nowhere)

  in_row : (low high : ℕ) → SoFar low 0 → SoFar low high ⊎ Needs
  in_row low zero so_far = inl so_far
  in_row low (suc high) so_far = elim (in_row low high so_far) [
    | inr needs ↦ inr needs
    | inl there ↦ (let one : high + 1 ≡ suc high = omega arith in subst (λ n. SoFar low n ⊎ Needs) one (one_pair low high there))
  ]

  row_done : (low : ℕ) → SoFar low switches → SoFar (low + 1) 0
  row_done low full = record {
    layers = full.layers;
    used = full.used;
    before = row_ends t e count full.layers full.used low switches good refl full.before;
    as_many = full.as_many ∙ cells_of_row switches low switches refl;
    channels = full.channels;
  }

  rows : (low : ℕ) → SoFar low 0 ⊎ Needs
  rows zero = inl begins
  rows (suc low) = elim (rows low) [
    | inr needs ↦ inr needs
    | inl so_far ↦ elim (in_row low switches so_far) [
      | inr needs ↦ inr needs
      | inl full ↦ (let one : low + 1 ≡ suc low = omega arith in inl (subst (λ n. SoFar n 0) one (row_done low full)))
    ]
  ]

  -- ---- after the last one

  -- layers, and arenas that list what is theirs
  pub record Laid : Type 0 where
    pub layer : ℕ → ℕ → ℕ
    pub used : List Dependencies
    pub layers : AreLayers t e count layer
    pub lists : AreUsed t e count layer used

  all_laid : SoFar switches 0 → Laid
  all_laid all = record {
    layer = layer_at switches all.layers;
    used = all.used;
    layers = all_have_layers t e count (layer_at switches all.layers) all.used good all.before;
    lists = all_are_used t e count (layer_at switches all.layers) all.used good all.before all.channels;
  }

  pub laid_or_needed : Laid ⊎ ((low high : ℕ) × NeedsLane t e count low high)
  laid_or_needed = elim (rows switches) [ inl all ↦ inl (all_laid all) | inr needs ↦ inr needs ]
