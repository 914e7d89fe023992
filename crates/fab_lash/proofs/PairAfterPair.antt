-- Pair after pair is placed: what stands before a pair stands before the next place, before the next row, and at the end of all pairs.
use Rattle.std.proofs.Common.{◌≡◌, ◌≢◌, ℕ, ◌+◌, ◌⊎◌, inl, inr, List, [], length, sym, ◌∙◌, subst, arith, Some}
use Rattle.std.specs.Prelude.{All, slice_get, Contains}
use Rattle.std.proofs.lemmas.Bool.{cases_eq, cases_lt}
use Rattle.std.proofs.lemmas.List.Elements.{All-contains}
use Rattle.fab_graph.specs.Walks.{SameGraph}
use Rattle.fab_graph.proofs.Decided.{Decided}
use Rattle.fab_model.specs.Topology.{Topology}
use Rattle.fab_model.specs.WellFormed.{IsWellFormed}
use Rattle.fab_tables.specs.Entries.{Entries}
use Rattle.fab_tables.proofs.Joined.ConnectedDecided.{connected_decided}
use Rattle.fab_tables.proofs.Verdicts.CertifiedLaws.{contains_of}
use Rattle.fab_depgraph.specs.declared.dep.Dep.{Dep}
use Rattle.fab_depgraph.specs.Listed.{Dependencies, IsListed}
use Rattle.fab_lash.specs.Pairs.{IsPair, ComesBefore, DependsOnPair}
use Rattle.fab_lash.specs.Followers.{pair_dependencies}
use Rattle.fab_lash.specs.Adding.{ListsOnce}
use Rattle.fab_lash.specs.Layerings.{DependsEarlier, HasLayer, AreLayers, DependsInLane}
use Rattle.fab_lash.specs.Layered.{AreUsed}
use Rattle.fab_lash.specs.Placing.{listed_in, channel_counts, IsPlaced, IsPlacedPair}
use Rattle.fab_lash.proofs.Adding.{once_nothing, deps_once}
use Rattle.fab_lash.proofs.OneLayering.{AlikeBefore}
use Rattle.fab_lash.proofs.LaneLaws.{before-trans}
use Rattle.fab_lash.proofs.LaneSteps.{has_layer-same, earlier_none, earlier_skip, earlier_elsewhere, earlier_next, earlier_row, earlier_all, pair_below}
use Rattle.fab_lash.proofs.LaneStates.{AreLayersBefore, lists_both, placed_has_layer}
use Rattle.fab_lash.proofs.Places.{same_length, listed_at, count_at}

trans : {A : Type 0} (R S T : A → A → Type 0) → SameGraph R S → SameGraph S T → SameGraph R T
trans R S T p q a b = ((λ x. (q a b).0 ((p a b).0 x)), λ x. (p a b).1 ((q a b).1 x))

pub pair_decided : (t : Topology) (low high : ℕ) → Decided (IsPair t low high)
pair_decided t low high = elim (cases_lt low high) [
  | inr past ↦ inr (λ pair. omega (arith, past, pair.0))
  | inl less ↦ elim (connected_decided t low high) [ inl joined ↦ inl (less, joined) | inr apart ↦ inr (λ pair. apart pair.1) ]
]

-- before the first pair
pub none_placed : (t : Topology) (e : Entries) (count : ℕ) (layer : ℕ → ℕ → ℕ) (used : List Dependencies) → length used ≡ count → ((lane : ℕ) → listed_in used lane ≡ []) → AreLayersBefore t e count layer used 0 0
none_placed t e count layer used lanes empty = record {
  lanes = lanes;
  earlier = λ a b pair before. absurd (grind (arith, before));
  lists = λ lane c d. (
    λ x. absurd (let P : List Dep → Type 0 = λ xs. IsListed xs c d in let y : IsListed [] c d = subst P (empty lane) x in omega (arith, y.1)),
    λ x. absurd (earlier_none t e layer lane 0 c d (omega arith) x),
  );
  once = λ lane. let P : List Dep → Type 0 = λ xs. ListsOnce xs in subst P (sym (empty lane)) once_nothing;
}

-- what layers stand before a pair is said alike by layers that agree there
pub said_alike : (t : Topology) (e : Entries) (count : ℕ) (x y : ℕ → ℕ → ℕ) (used : List Dependencies) (low high : ℕ) → AlikeBefore t x y low high → AreLayersBefore t e count x used low high → AreLayersBefore t e count y used low high
said_alike t e count x y used low high alike before = record {
  lanes = before.lanes;
  earlier = λ a b pair at. has_layer-same t e count a b x y (λ c d other first. alike c d other (before-trans c d a b low high first at)) (alike a b pair at) (before.earlier a b pair at);
  lists = λ lane c d. (
    λ z. let q : DependsEarlier t e x lane low high c d = (before.lists lane c d).0 z in (q.0, q.1, q.2, q.3, sym (alike q.0 q.1 q.2 q.3) ∙ q.4, q.5),
    λ q. (before.lists lane c d).1 (q.0, q.1, q.2, q.3, alike q.0 q.1 q.2 q.3 ∙ q.4, q.5),
  );
  once = before.once;
}

last_or_before : (a b low high : ℕ) → ComesBefore a b low (high + 1) → ComesBefore a b low high ⊎ ((a ≡ low) × (b ≡ high))
last_or_before a b low high before = grind (arith)

module _ (t : Topology) (e : Entries) (count : ℕ) (layer : ℕ → ℕ → ℕ) (used new : List Dependencies) (low high lane : ℕ) (before : AreLayersBefore t e count layer used low high) where
  -- no pair stands there
  skipped : ¬ IsPair t low high → new ≡ used → AreLayersBefore t e count layer new low (high + 1)
  skipped none same = let P : List Dependencies → Type 0 = λ u. AreLayersBefore t e count layer u low (high + 1) in subst P (sym same) (record {
    lanes = before.lanes;
    earlier = λ a b pair at. earlier a b pair (last_or_before a b low high at);
    lists = λ l. trans (IsListed (listed_in used l)) (λ (c d : ℕ). DependsEarlier t e layer l low high c d) (λ (c d : ℕ). DependsEarlier t e layer l low (high + 1) c d) (before.lists l) (earlier_skip t e layer l low high none);
    once = before.once;
  })
    where
      earlier : (a b : ℕ) → IsPair t a b → ComesBefore a b low high ⊎ ((a ≡ low) × (b ≡ high)) → HasLayer t e count layer a b
      earlier a b pair (inl at) = before.earlier a b pair at
      earlier a b pair (inr here) = let P : ℕ → Type 0 = λ z. IsPair t z b in let Q : ℕ → Type 0 = λ z. IsPair t low z in absurd (none (subst Q here.1 (subst P here.0 pair)))

  -- the pair that stands there is placed
  took : IsPair t low high → layer low high ≡ lane → IsPlaced used new (pair_dependencies t e low high) lane → AreLayersBefore t e count layer new low (high + 1)
  took pair is p = record {
    lanes = same_length used new p.channels ∙ before.lanes;
    earlier = λ a b other at. earlier a b other (last_or_before a b low high at);
    lists = lists;
    once = once;
  }
    where
      earlier : (a b : ℕ) → IsPair t a b → ComesBefore a b low high ⊎ ((a ≡ low) × (b ≡ high)) → HasLayer t e count layer a b
      earlier a b other (inl at) = before.earlier a b other at
      earlier a b other (inr here) =
          let P : ℕ → Type 0 = λ z. HasLayer t e count layer z b in
          let Q : ℕ → Type 0 = λ z. HasLayer t e count layer low z in
          subst P (sym here.0) (subst Q (sym here.1) (placed_has_layer t e count layer used low high before new lane p is))

      over : (c d : ℕ) → DependsOnPair t e low high c d ⊎ IsListed (listed_in used lane) c d → DependsOnPair t e low high c d ⊎ DependsEarlier t e layer lane low high c d
      over c d (inl on) = inl on
      over c d (inr x) = inr ((before.lists lane c d).0 x)

      back : (c d : ℕ) → DependsOnPair t e low high c d ⊎ DependsEarlier t e layer lane low high c d → DependsOnPair t e low high c d ⊎ IsListed (listed_in used lane) c d
      back c d (inl on) = inl on
      back c d (inr x) = inr ((before.lists lane c d).1 x)

      in_lane : SameGraph (IsListed (listed_in new lane)) (λ (c d : ℕ). DependsEarlier t e layer lane low (high + 1) c d)
      in_lane c d = (
        λ x. (earlier_next t e layer lane low high pair is c d).0 (over c d ((lists_both t e count layer used low high before new lane p c d).0 x)),
        λ x. (lists_both t e count layer used low high before new lane p c d).1 (back c d ((earlier_next t e layer lane low high pair is c d).1 x)),
      )

      elsewhere : (l : ℕ) → l ≢ lane → SameGraph (IsListed (listed_in new l)) (λ (c d : ℕ). DependsEarlier t e layer l low (high + 1) c d)
      elsewhere l differ =
          let P : List Dep → Type 0 = λ xs. SameGraph (IsListed xs) (λ (c d : ℕ). DependsEarlier t e layer l low (high + 1) c d) in
          subst P (sym (p.others l differ))
          (trans (IsListed (listed_in used l)) (λ (c d : ℕ). DependsEarlier t e layer l low high c d) (λ (c d : ℕ). DependsEarlier t e layer l low (high + 1) c d) (before.lists l)
          (earlier_elsewhere t e layer l low high (λ same. differ (sym same ∙ is))))

      lists : (l : ℕ) → SameGraph (IsListed (listed_in new l)) (λ (c d : ℕ). DependsEarlier t e layer l low (high + 1) c d)
      lists l = elim (cases_eq l lane) [
        | inl here ↦ (let P : ℕ → Type 0 = λ z. SameGraph (IsListed (listed_in new z)) (λ (c d : ℕ). DependsEarlier t e layer z low (high + 1) c d) in subst P (sym here) in_lane)
        | inr differ ↦ elsewhere l differ
      ]

      once : (l : ℕ) → ListsOnce (listed_in new l)
      once l =
          let P : List Dep → Type 0 = λ xs. ListsOnce xs in
          elim (cases_eq l lane) [
            | inl here ↦ (let Q : ℕ → Type 0 = λ z. ListsOnce (listed_in new z) in subst Q (sym here) (subst P (sym p.taken.0) (deps_once (pair_dependencies t e low high) (listed_in used lane) (before.once lane))))
            | inr differ ↦ subst P (sym (p.others l differ)) (before.once l)
          ]

  pub one_more_placed : IsWellFormed t → layer low high ≡ lane → IsPlacedPair t e low high used new lane → AreLayersBefore t e count layer new low (high + 1)
  one_more_placed good is placed = elim (pair_decided t low high) [
    | inl pair ↦ took pair is (placed.placed pair)
    | inr none ↦ skipped none (placed.other none)
  ]

module _ (t : Topology) (e : Entries) (count : ℕ) (layer : ℕ → ℕ → ℕ) (used : List Dependencies) (good : IsWellFormed t) where
  -- a row ends, and the next one begins
  pub next_row : (low : ℕ) → AreLayersBefore t e count layer used low (length t.switches) → AreLayersBefore t e count layer used (low + 1) 0
  next_row low before = record {
    lanes = before.lanes;
    earlier = λ a b pair at. before.earlier a b pair (back a b pair at);
    lists = λ l. trans (IsListed (listed_in used l)) (λ (c d : ℕ). DependsEarlier t e layer l low (length t.switches) c d) (λ (c d : ℕ). DependsEarlier t e layer l (low + 1) 0 c d) (before.lists l)
        (earlier_row t e layer l low 0 good (omega arith));
    once = before.once;
  }
    where
      back : (a b : ℕ) → IsPair t a b → ComesBefore a b (low + 1) 0 → ComesBefore a b low (length t.switches)
      back a b pair (inl less) = elim (cases_lt a low) [
        | inl first ↦ inl first
        | inr past ↦ inr (omega (arith, less, past), pair_below t good a b pair)
      ]
      back a b pair (inr same) = absurd (omega (arith, same.1))

  -- all rows are done
  module _ (before : AreLayersBefore t e count layer used (length t.switches) 0) where
    pub all_have_layers : AreLayers t e count layer
    all_have_layers low high pair = before.earlier low high pair (inl (omega (arith, pair.0, pair_below t good low high pair)))

    pub all_are_used : All (λ n. n ≡ length t.channels) (channel_counts used) → AreUsed t e count layer used
    all_are_used counts = record {
      lanes = before.lanes;
      channels = λ lane g at. All-contains (λ n. n ≡ length t.channels) (channel_counts used) g.channels counts (counted used lane g at);
      listed = λ lane g at. let P : List Dep → Type 0 = λ xs. SameGraph (IsListed xs) (λ (c d : ℕ). DependsInLane t e layer lane c d) in
          subst P (listed_at used lane g at)
          (trans (IsListed (listed_in used lane)) (λ (c d : ℕ). DependsEarlier t e layer lane (length t.switches) 0 c d) (λ (c d : ℕ). DependsInLane t e layer lane c d) (before.lists lane) (earlier_all t e layer lane 0 good));
      once = λ lane g at. let P : List Dep → Type 0 = λ xs. ListsOnce xs in subst P (listed_at used lane g at) (before.once lane);
    }
      where
        counted : (us : List Dependencies) (lane : ℕ) (g : Dependencies) → slice_get us lane ≡ Some g → Contains (channel_counts us) g.channels
        counted us lane g at = contains_of (channel_counts us) lane g.channels (count_at us lane g at)
