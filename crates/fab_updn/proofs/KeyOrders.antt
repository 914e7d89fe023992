-- All switches by ascending key.
use Rattle.std.proofs.Common.{◌≡◌, ◌≢◌, ℕ, ◌+◌, ◌<◌, ◌≤◌, ◌⊎◌, inl, inr, List, [], ◌∷◌, ◌++◌, length, map, cond, refl, sym, ◌∙◌, ap, subst, arith, Contains, IsPermutation, is_lt, nat_cmp, slice_index}
use Rattle.std.specs.Prelude.{slice_index_or, ◌==◌}
use Rattle.std.specs.Ordering.{ordering_then}
use Rattle.std.specs.List.Sorted.{IsSortedBy}
use Rattle.std.proofs.lemmas.Bool.{cases_eq, cases_lt, eq-eqb, ne_eqb}
use Rattle.std.proofs.lemmas.List.{get_or-map, length-map, length_push}
use Rattle.std.proofs.lemmas.List.Elements.{Contains-push, Contains-push_cases, Contains-append_left, Contains-get_or}
use Rattle.std.proofs.lemmas.List.Sorted.{Contains-permutation, IsPermutation-sym, length_permutation}
use Rattle.std.proofs.lemmas.List.Sums.{sum_by_push}
use Rattle.fab_model.specs.declared.rows.SwitchId.{SwitchId}
use Rattle.fab_hops.proofs.Ranked.{Ranked, times, strictly}
use Rattle.fab_updn.specs.Ranks.{HasSmallerKey}
use Rattle.fab_updn.specs.Found.{IsKeyOrder}

-- it has its rank
pub record IsRanked (ranks : List ℕ) (count : ℕ) (pair : Ranked) : Type 0 where
  pub below : pair.1.0 < count
  pub rank : pair.0 ≡ slice_index ranks pair.1.0

-- those below a number, each once
pub record AreRanked (ranks : List ℕ) (count : ℕ) (ranked : List Ranked) : Type 0 where
  pub whole : length ranked ≡ count
  pub each : (pair : Ranked) → Contains ranked pair → IsRanked ranks count pair
  pub all : (v : ℕ) → v < count → (pair : Ranked) × Contains ranked pair × (pair.1.0 ≡ v)
  pub once : (v : ℕ) → times v ranked ≤ 1
  pub beyond : (v : ℕ) → count ≤ v → times v ranked ≡ 0

pub none_ranked : (ranks : List ℕ) → AreRanked ranks 0 []
none_ranked ranks = record {
  whole = refl;
  each = λ pair has. absurd (omega (arith, has.1));
  all = λ v low. absurd (omega (arith, low));
  once = λ v. omega arith;
  beyond = λ v past. refl;
}

module _ (ranks : List ℕ) (count : ℕ) (ranked : List Ranked) (are : AreRanked ranks count ranked) (rank : ℕ) (id : SwitchId) (at : id.0 ≡ count) (is : rank ≡ slice_index ranks count) where
  abbrev more : List Ranked
  more = ranked ++ (rank, id) ∷ []

  counted : (v : ℕ) → times v more ≡ times v ranked + cond (id.0 == v) 1 0
  counted v = sum_by_push (λ (pair : Ranked). cond (pair.1.0 == v) 1 0) ranked (rank, id)

  here : times count more ≡ 1
  here = omega (arith, counted count, are.beyond count (omega arith), ap {B = ℕ} (λ b. cond b 1 0) (eq-eqb id.0 count at))

  elsewhere : (v : ℕ) → v ≢ count → times v more ≡ times v ranked
  elsewhere v ne = omega (arith, counted v, ap {B = ℕ} (λ b. cond b 1 0) (ne_eqb id.0 v (λ e. ne (sym e ∙ at))))

  each : (pair : Ranked) → Contains ranked pair ⊎ ((rank, id) ≡ pair) → IsRanked ranks (count + 1) pair
  each pair (inl has) = let old : IsRanked ranks count pair = are.each pair has in record { below = omega (arith, old.below); rank = old.rank }
  each pair (inr e) = subst (λ p. IsRanked ranks (count + 1) p) e (record { below = omega (arith, at); rank = is ∙ ap (λ v. slice_index ranks v) (sym at) })

  pub one_ranked_more : AreRanked ranks (count + 1) more
  one_ranked_more = record {
    whole = length_push ranked (rank, id) ∙ ap (λ n. n + 1) are.whole;
    each = λ pair has. each pair (Contains-push_cases ranked (rank, id) pair has);
    all = λ v below. elim (cases_lt v count) [
      | inl less ↦ (let found : (pair : Ranked) × Contains ranked pair × (pair.1.0 ≡ v) = are.all v less in (found.0, Contains-append_left ranked ((rank, id) ∷ []) found.0 found.1, found.2))
      | inr last ↦ ((rank, id), Contains-push ranked (rank, id), omega (arith, at, last, below))
    ];
    once = λ v. elim (cases_eq v count) [ inl e ↦ omega (arith, ap (λ u. times u more) e, here) | inr ne ↦ omega (arith, elsewhere v ne, are.once v) ];
    beyond = λ v past. (let ne : v ≢ count = λ e. omega (arith, e, past) in elsewhere v ne ∙ are.beyond v (omega (arith, past)));
  }

-- sorted they are the order
module _ (ranks : List ℕ) (unsorted sorted : List Ranked) (are : AreRanked ranks (length ranks) unsorted) (moved : IsPermutation unsorted sorted)
    (by : IsSortedBy (λ x y. is_lt (ordering_then (nat_cmp x.0 y.0) (nat_cmp x.1.0 y.1.0))) sorted) where
  abbrev switch : Ranked → SwitchId
  switch pair = pair.1

  some_pair : Ranked
  some_pair = (0, record { 0 = 0 })

  ranked_at : (i : ℕ) → i < length sorted → IsRanked ranks (length ranks) (slice_index_or sorted i some_pair)
  ranked_at i low = are.each (slice_index_or sorted i some_pair) (Contains-permutation sorted unsorted (slice_index_or sorted i some_pair) (IsPermutation-sym unsorted sorted moved) (Contains-get_or sorted i some_pair low))

  at : (i : ℕ) (d : SwitchId) → i < length sorted → slice_index_or (map switch sorted) i d ≡ (slice_index_or sorted i some_pair).1
  at i d low = get_or-map switch sorted i some_pair d low

  ordered : (i j : ℕ) (d : SwitchId) → i < j → j < length (map switch sorted) → HasSmallerKey ranks (slice_index_or (map switch sorted) i d).0 (slice_index_or (map switch sorted) j d).0
  ordered i j d less within =
      let high : j < length sorted = omega (arith, within, length-map sorted switch) in
      let first : Ranked = slice_index_or sorted i some_pair in
      let second : Ranked = slice_index_or sorted j some_pair in
      let before : (first.0 < second.0) ⊎ ((first.0 ≡ second.0) × (first.1.0 < second.1.0)) = strictly unsorted sorted are.once moved by i j some_pair less high in
      let a = (ranked_at i (omega (arith, less, high))).rank in
      let b = (ranked_at j high).rank in
      let smaller : HasSmallerKey ranks first.1.0 second.1.0 =
      subst (λ n. (slice_index ranks first.1.0 < n) ⊎ ((slice_index ranks first.1.0 ≡ n) × (first.1.0 < second.1.0))) b (subst (λ n. (n < second.0) ⊎ ((n ≡ second.0) × (first.1.0 < second.1.0))) a before) in
      subst (λ (x : SwitchId). HasSmallerKey ranks x.0 (slice_index_or (map switch sorted) j d).0) (sym (at i d (omega (arith, less, high)))) (subst (λ (x : SwitchId). HasSmallerKey ranks first.1.0 x.0) (sym (at j d high)) smaller)

  pub key_order : IsKeyOrder ranks (map switch sorted)
  key_order = record {
    whole = length-map sorted switch ∙ length_permutation unsorted sorted moved ∙ are.whole;
    within = λ i d low.
        (let high : i < length sorted = omega (arith, low, length-map sorted switch) in
        subst (λ (x : SwitchId). x.0 < length ranks) (sym (at i d high)) (ranked_at i high).below);
    all = λ s low.
        (let found : (pair : Ranked) × Contains unsorted pair × (pair.1.0 ≡ s) = are.all s low in
        let has : Contains sorted found.0 = Contains-permutation unsorted sorted found.0 moved found.1 in
        (found.0.1, (has.0, omega (arith, has.1, length-map sorted switch), get_or-map switch sorted has.0 found.0 found.0.1 has.1 ∙ ap switch has.2), found.2));
    ordered = ordered;
  }
