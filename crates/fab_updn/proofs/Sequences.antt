-- Switches that are gone through in the order of their keys, or against it.
use Rattle.std.proofs.Common.{◌≡◌, ◌≢◌, ℕ, ◌+◌, ◌<◌, ◌≤◌, ◌-◌, ◌⊎◌, inl, inr, List, length, reverse, refl, sym, ◌∙◌, ap, subst, arith, Contains}
use Rattle.std.specs.Prelude.{slice_index_or}
use Rattle.std.proofs.lemmas.Bool.{cases_lt, cases_order}
use Rattle.std.proofs.lemmas.List.{get_or_default, get_or-reverse, length-reverse}
use Rattle.fab_model.specs.declared.rows.SwitchId.{SwitchId}
use Rattle.fab_updn.specs.Ranks.{HasSmallerKey}
use Rattle.fab_updn.specs.Found.{IsKeyOrder}

-- ---- keys

pub key-trans : (ranks : List ℕ) (a b c : ℕ) → HasSmallerKey ranks a b → HasSmallerKey ranks b c → HasSmallerKey ranks a c
key-trans ranks a b c p q = grind (arith)

pub key-self : (ranks : List ℕ) (a : ℕ) → HasSmallerKey ranks a a → ⊥
key-self ranks a p = grind (arith)

pub key-total : (ranks : List ℕ) (a b : ℕ) → a ≢ b → HasSmallerKey ranks a b ⊎ HasSmallerKey ranks b a
key-total ranks a b differ = grind (arith)

-- ---- sequences

abbrev some_switch : SwitchId
some_switch = record { 0 = 0 }

abbrev pub switch_at : List SwitchId → ℕ → ℕ
switch_at xs k = (slice_index_or xs k (record { 0 = 0 })).0

-- it is one of the first so many
pub record IsAmong (xs : List SwitchId) (count s : ℕ) : Type 0 where
  pub place : ℕ
  pub early : place < count
  pub within : place < length xs
  pub there : switch_at xs place ≡ s

-- the relation R holds from each switch to the later ones, and all switches are there
pub record IsSequence (R : ℕ → ℕ → Type 0) (switches : ℕ) (xs : List SwitchId) : Type 0 where
  pub low : (k : ℕ) → k < length xs → switch_at xs k < switches
  pub all : (s : ℕ) → s < switches → IsAmong xs (length xs) s
  pub ordered : (i j : ℕ) → i < j → j < length xs → R (switch_at xs i) (switch_at xs j)

module _ (R : ℕ → ℕ → Type 0) (through : (a b c : ℕ) → R a b → R b c → R a c) (self : (a : ℕ) → ¬ R a a) (switches : ℕ) (xs : List SwitchId) (is : IsSequence R switches xs) where
  -- a switch from which R leads to one is before it
  pub before : (k s : ℕ) → k < length xs → s < switches → R s (switch_at xs k) → IsAmong xs k s
  before k s within low r = go (is.all s low)
    where
      go : IsAmong xs (length xs) s → IsAmong xs k s
      go x = record { place = x.place; early = early (cases_order x.place k); within = x.within; there = x.there }
        where
          early : (x.place ≡ k) ⊎ ((x.place < k) ⊎ (k < x.place)) → x.place < k
          early (inl same) = absurd (self s (subst (λ y. R s y) (ap (λ j. switch_at xs j) (sym same) ∙ x.there) r))
          early (inr (inl less)) = less
          early (inr (inr more)) = absurd (self s (through s (switch_at xs k) s r (subst (λ y. R (switch_at xs k) y) x.there (is.ordered k x.place more x.within))))

  -- the next switch is none of those before
  pub fresh : (k : ℕ) → k < length xs → ¬ IsAmong xs k (switch_at xs k)
  fresh k within x = self (switch_at xs k) (subst (λ y. R y (switch_at xs k)) x.there (is.ordered x.place k x.early within))

  -- no R leads from the next switch to it or to one before
  pub not_back : (k s : ℕ) → k < length xs → IsAmong xs (k + 1) s → ¬ R (switch_at xs k) s
  not_back k s within x r = go (cases_lt x.place k)
    where
      go : (x.place < k) ⊎ (k ≤ x.place) → ⊥
      go (inl less) = self s (through s (switch_at xs k) s (subst (λ y. R y (switch_at xs k)) x.there (is.ordered x.place k less within)) r)
      go (inr more) =
          let same : x.place ≡ k = omega (arith, more, x.early) in
          self s (subst (λ y. R y s) (ap (λ j. switch_at xs j) (sym same) ∙ x.there) r)

pub last_or_before : (xs : List SwitchId) (k s : ℕ) → IsAmong xs (k + 1) s → (s ≡ switch_at xs k) ⊎ IsAmong xs k s
last_or_before xs k s x = elim (cases_lt x.place k) [
  | inl less ↦ inr (record { place = x.place; early = less; within = x.within; there = x.there })
  | inr more ↦ (let same : x.place ≡ k = omega (arith, more, x.early) in inl (sym x.there ∙ ap (λ j. switch_at xs j) same))
]

pub one_later : (xs : List SwitchId) (k s : ℕ) → IsAmong xs k s → IsAmong xs (k + 1) s
one_later xs k s x = record { place = x.place; early = omega (arith, x.early); within = x.within; there = x.there }

pub it_is_among : (xs : List SwitchId) (k : ℕ) → k < length xs → IsAmong xs (k + 1) (switch_at xs k)
it_is_among xs k within = record { place = k; early = omega arith; within = within; there = refl }

-- ---- the order of keys, and back

module _ (ranks : List ℕ) (order : List SwitchId) (is : IsKeyOrder ranks order) where
  pub upward : IsSequence (HasSmallerKey ranks) (length ranks) order
  upward = record {
    low = λ k within. is.within k some_switch within;
    all = λ s low.
        (let found : (id : SwitchId) × Contains order id × (id.0 ≡ s) = is.all s low in
        record { place = found.1.0; early = found.1.1; within = found.1.1; there = ap (λ (x : SwitchId). x.0) (get_or_default order found.1.0 some_switch found.0 found.1.1 ∙ found.1.2) ∙ found.2 });
    ordered = λ i j less within. is.ordered i j some_switch less within;
  }

  at_mirror : (k : ℕ) → k < length order → switch_at (reverse order) k ≡ switch_at order (length order - 1 - k)
  at_mirror k within = ap (λ (x : SwitchId). x.0) (get_or-reverse order k (record { 0 = 0 }) within)

  pub downward : IsSequence (λ a b. HasSmallerKey ranks b a) (length ranks) (reverse order)
  downward = record {
    low = λ k within.
        (let low : k < length order = omega (arith, within, length-reverse order) in
        subst (λ s. s < length ranks) (sym (at_mirror k low)) (is.within (length order - 1 - k) some_switch (omega (arith, low))));
    all = λ s low.
        (let x : IsAmong order (length order) s = upward.all s low in
        let back : length order - 1 - (length order - 1 - x.place) ≡ x.place = omega (arith, x.within) in
        let less : length order - 1 - x.place < length order = omega (arith, x.within) in
        record {
          place = length order - 1 - x.place;
          early = omega (arith, x.within, length-reverse order);
          within = omega (arith, x.within, length-reverse order);
          there = at_mirror (length order - 1 - x.place) less ∙ ap (λ j. switch_at order j) back ∙ x.there;
        });
    ordered = λ i j less within.
        (let high : j < length order = omega (arith, within, length-reverse order) in
        subst (λ s. HasSmallerKey ranks (switch_at (reverse order) j) s) (sym (at_mirror i (omega (arith, less, high))))
        (subst (λ s. HasSmallerKey ranks s (switch_at order (length order - 1 - i))) (sym (at_mirror j high))
        (is.ordered (length order - 1 - j) (length order - 1 - i) some_switch (omega (arith, less, high)) (omega (arith, less, high)))));
  }
