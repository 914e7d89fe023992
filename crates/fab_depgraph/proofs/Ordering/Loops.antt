-- The steps of the loops that put channels in another order.
use Rattle.std.proofs.Common.{◌≡◌, ◌≢◌, ℕ, ◌+◌, ◌<◌, Bool, List, length, take, set, All, AllPairs, slice_index, slice_index_or, refl, sym, ◌∙◌, ap, inl, inr, arith, length-take, length-set, get_or-set_same, get_or-set_other}
use Rattle.std.proofs.lemmas.Bool.{cases_lt}
use Rattle.std.proofs.lemmas.List.{get_or-take, get_or-drop, get_or_default}
use Rattle.std.proofs.lemmas.List.Filters.{FiltersInPlace}
use Rattle.std.proofs.lemmas.List.FromFn.{get_or-range_with_len, length-range_with_len}
use Rattle.std.specs.List.{range_with_len}
use Rattle.fab_depgraph.specs.Order.{IsOrder, AreNumbers, AreNumberedFrom}

pub numbered_more : (first : ℕ) (channels old now : List ℕ) (i : ℕ) → i < length channels → All (λ c. c < length old) channels → AllPairs (λ c d. c ≢ d) channels → AreNumberedFrom first (take i channels) old now → AreNumberedFrom first (take (i + 1) channels) old (set now (slice_index channels i) (first + i))
numbered_more first channels old now i i_in known differ so_far =
    let c = slice_index channels i in
    let c_in : c < length now = omega (arith, known i 0 i_in, so_far.each) in
    let before : length (take i channels) ≡ i = omega (arith, length-take i channels) in
    let after : length (take (i + 1) channels) ≡ i + 1 = omega (arith, length-take (i + 1) channels) in
    record {
      each = length-set now c (first + i) ∙ so_far.each;
      there = λ k k_in.
          let at : slice_index (take (i + 1) channels) k ≡ slice_index channels k = get_or-take (i + 1) channels k 0 (omega arith) in
          ap (slice_index (set now c (first + i))) at ∙ elim (cases_lt k i) [
            | inl less ↦
                let other : slice_index channels k ≢ c = differ k i 0 less i_in in
                get_or-set_other now c (slice_index channels k) (first + i) 0 other ∙ (ap (slice_index now) (sym (get_or-take i channels k 0 less)) ∙ so_far.there k (omega arith))
            | inr more ↦
                let same : k ≡ i = omega arith in
                ap (λ j. slice_index (set now c (first + i)) (slice_index channels j)) same ∙ (get_or-set_same now c (first + i) 0 c_in ∙ ap (λ j. first + j) (sym same))
          ];
      others = λ d none.
          let other : d ≢ c = λ same. none i (omega arith) (get_or-take (i + 1) channels i 0 (omega arith) ∙ sym same) in
          get_or-set_other now c d (first + i) 0 other ∙ so_far.others d (λ k k_in same. none k (omega arith) (get_or-take (i + 1) channels k 0 (omega arith) ∙ (sym (get_or-take i channels k 0 (omega arith)) ∙ same)));
    }

pub kept_read : {p : ℕ → Bool} {xs ys : List ℕ} {k i : ℕ} → FiltersInPlace p xs ys k i → (d : ℕ) → slice_index_or ys i d ≡ slice_index_or xs i d
kept_read {p} {xs} {ys} {k} {i} kept d =
    let sum : i + 0 ≡ i = omega arith in
    ap (λ j. slice_index_or ys j d) (sym sum) ∙ (sym (get_or-drop i ys 0 d) ∙ (ap (λ zs. slice_index_or zs 0 d) kept.rest ∙ (get_or-drop i xs 0 d ∙ ap (λ j. slice_index_or xs j d) sum)))

pub all_in_order : (n : ℕ) → IsOrder (range_with_len 0 n) (range_with_len 0 n)
all_in_order n =
    let each : (k : ℕ) → k < length (range_with_len 0 n) → (slice_index (range_with_len 0 n) k < length (range_with_len 0 n)) × (slice_index (range_with_len 0 n) (slice_index (range_with_len 0 n) k) ≡ k) = λ k k_in.
    let long : length (range_with_len 0 n) ≡ n = length-range_with_len 0 n in
    let at : slice_index (range_with_len 0 n) k ≡ k = get_or-range_with_len 0 n k 0 (omega arith) ∙ omega arith in
    (omega arith, ap (slice_index (range_with_len 0 n)) at ∙ at) in
    record { each = refl; there = each; back = each }

pub order_numbers : (numbers channels : List ℕ) → IsOrder numbers channels → AreNumbers numbers
order_numbers numbers channels order = record {
  below = λ k d k_in. (let at = get_or_default numbers k d 0 k_in in omega (arith, at, (order.back k k_in).0));
  differ = λ c d c_in d_in same. sym (order.back c c_in).1 ∙ (ap (slice_index channels) same ∙ (order.back d d_in).1);
}
