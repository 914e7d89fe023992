-- The channels that leave a switch stand one after the other.
use Rattle.std.proofs.Common.{◌≡◌, ℕ, zero, suc, ◌+◌, ◌<◌, ◌≤◌, Bool, true, false, List, [], ◌∷◌, length, refl, ◌∙◌, ap, inl, inr, ◌⊎◌, arith, cond}
use Rattle.std.specs.Prelude.{slice_index_or, count_by, nat_lt}
use Rattle.std.proofs.lemmas.Bool.{cases_lt, cases_Bool, ltb-true, lt-ltb, le-ltb, both_ways, false_from_ne_true}
use Rattle.std.proofs.lemmas.List.Sums.{sum_by-cons}
use Rattle.fab_model.specs.declared.rows.ChannelRow.{ChannelRow}
use Rattle.fab_model.specs.Topology.{Topology, first_channel}
use Rattle.fab_model.specs.WellFormed.{IsWellFormed, GoesBefore}

-- what passes the test stands in front
abbrev IsInFront : {X : Type 0} → (X → Bool) → List X → Type 0
IsInFront {X} p xs = (i j : ℕ) (d : X) → i ≤ j → j < length xs → p (slice_index_or xs j d) ≡ true → p (slice_index_or xs i d) ≡ true

counted_here : {X : Type 0} (p : X → Bool) (x : X) (xs : List X) → p x ≡ true → count_by p (x ∷ xs) ≡ suc (count_by p xs)
counted_here p x xs is = omega (arith, sum_by-cons (λ y. cond (p y) 1 0) x xs, ap {B = ℕ} (λ b. cond b 1 0) is)

passed_here : {X : Type 0} (p : X → Bool) (x : X) (xs : List X) → p x ≡ false → count_by p (x ∷ xs) ≡ count_by p xs
passed_here p x xs is = omega (arith, sum_by-cons (λ y. cond (p y) 1 0) x xs, ap {B = ℕ} (λ b. cond b 1 0) is)

none_counted : {X : Type 0} (p : X → Bool) (xs : List X) → ((k : ℕ) (d : X) → k < length xs → p (slice_index_or xs k d) ≡ false) → count_by p xs ≡ 0
none_counted p [] none = refl
none_counted p (x ∷ xs) none = passed_here p x xs (none 0 x (omega arith)) ∙ none_counted p xs (λ k d h. none (suc k) d (omega arith))

abbrev IsCounted : {X : Type 0} → (X → Bool) → List X → ℕ → X → Type 0
IsCounted p xs k d = (p (slice_index_or xs k d) ≡ true → k < count_by p xs) × (p (slice_index_or xs k d) ≡ false → count_by p xs ≤ k)

count_front : {X : Type 0} (p : X → Bool) (xs : List X) → IsInFront p xs → (k : ℕ) (d : X) → k < length xs → IsCounted p xs k d
count_front p [] front k d h = absurd (omega arith)
count_front {X} p (x ∷ xs) front k d h = go k h (λ j within. count_front p xs later j d within) (cases_Bool (p x))
  where
    later : IsInFront p xs
    later = λ i j e below within. front (suc i) (suc j) e (omega arith) (omega arith)

    all_false : p x ≡ false → (j : ℕ) (e : X) → j < length (x ∷ xs) → p (slice_index_or (x ∷ xs) j e) ≡ false
    all_false none j e within = false_from_ne_true _ (λ is. both_ways (p x) none (front 0 j e (omega arith) within is))

    go : (k : ℕ) → k < length (x ∷ xs) → ((j : ℕ) → j < length xs → IsCounted p xs j d) → (p x ≡ true) ⊎ (p x ≡ false) → IsCounted p (x ∷ xs) k d
    go k within rest (inr none) = (
      λ is. absurd (both_ways (p x) none (front 0 k d (omega arith) within is)),
      λ e. omega (arith, none_counted p (x ∷ xs) (all_false none)),
    )
    go zero within rest (inl is) = (λ e. omega (arith, counted_here p x xs is), λ none. absurd (both_ways (p x) none is))
    go (suc k) within rest (inl is) =
        let later : IsCounted p xs k d = rest k (omega arith) in
        (λ e. omega (arith, counted_here p x xs is, later.0 e), λ e. omega (arith, counted_here p x xs is, later.1 e))

module _ (t : Topology) (good : IsWellFormed t) where
  tails_rise : (i j : ℕ) (d : ChannelRow) → i ≤ j → j < length t.channels → (slice_index_or t.channels i d).tail.0 ≤ (slice_index_or t.channels j d).tail.0
  tails_rise i j d below within = elim (cases_lt i j) [
    | inl less ↦
        (let before : GoesBefore (slice_index_or t.channels i d) (slice_index_or t.channels j d) = good.channels_rise i j d less within in
        elim before [ inl a ↦ omega (arith, a) | inr b ↦ omega (arith, b.0) ])
    | inr same ↦ (let e : i ≡ j = omega arith in omega (arith, ap (λ k. (slice_index_or t.channels k d).tail.0) e))
  ]

  in_front : (s : ℕ) → IsInFront (λ (row : ChannelRow). nat_lt row.tail.0 s) t.channels
  in_front s i j d below within low = lt-ltb _ s (omega (arith, tails_rise i j d below within, ltb-true _ s low))

  counted : (s c : ℕ) (d : ChannelRow) → c < length t.channels → IsCounted (λ (row : ChannelRow). nat_lt row.tail.0 s) t.channels c d
  counted s c d within = count_front (λ (row : ChannelRow). nat_lt row.tail.0 s) t.channels (in_front s) c d within

  -- a channel leaves a switch exactly where it stands from the first of the switch on, and before the first of the next one
  pub leaves_from : (s c : ℕ) (d : ChannelRow) → c < length t.channels → first_channel t s ≤ c → c < first_channel t (s + 1) → (slice_index_or t.channels c d).tail.0 ≡ s
  leaves_from s c d within from past = omega (arith, not_below, not_above)
    where
      not_below : s ≤ (slice_index_or t.channels c d).tail.0
      not_below = elim (cases_lt (slice_index_or t.channels c d).tail.0 s) [ inl low ↦ absurd (omega (arith, (counted s c d within).0 (lt-ltb _ s low))) | inr high ↦ high ]

      not_above : (slice_index_or t.channels c d).tail.0 < s + 1
      not_above = elim (cases_lt (slice_index_or t.channels c d).tail.0 (s + 1)) [ inl low ↦ low | inr high ↦ absurd (omega (arith, (counted (s + 1) c d within).1 (le-ltb _ (s + 1) high))) ]

  pub stands_between : (s c : ℕ) (d : ChannelRow) → c < length t.channels → (slice_index_or t.channels c d).tail.0 ≡ s → (first_channel t s ≤ c) × (c < first_channel t (s + 1))
  stands_between s c d within e = ((counted s c d within).1 (le-ltb _ s (omega (arith, e))), (counted (s + 1) c d within).0 (lt-ltb _ (s + 1) (omega (arith, e))))
