-- Switches of given ranks have an order of keys: they are put in one after the other.
use Rattle.std.proofs.Common.{◌≡◌, ℕ, zero, suc, ◌<◌, ◌⊎◌, inl, inr, List, [], ◌∷◌, length, refl, ap, subst, arith}
use Rattle.std.proofs.lemmas.Bool.{cases_lt}
use Rattle.fab_model.proofs.Lists.Members.{In, Pairs, All_from_in, AllPairs_from_pairs, Contains_from_in}
use Rattle.fab_model.specs.declared.rows.SwitchId.{SwitchId}
use Rattle.fab_model.specs.Topology.{switch_id}
use Rattle.fab_updn.specs.Ranks.{HasSmallerKey}
use Rattle.fab_updn.specs.Found.{IsKeyOrder}
use Rattle.fab_updn.proofs.Sequences.{key-trans, key-total}

module _ (ranks : List ℕ) where
  abbrev Before : SwitchId → SwitchId → Type 0
  Before a b = HasSmallerKey ranks a.0 b.0

  -- the same switches in order
  record InOrder (xs : List SwitchId) : Type 0 where
    list : List SwitchId
    whole : length list ≡ length xs
    ordered : Pairs Before list
    to : (a : SwitchId) → In a list → In a xs
    from : (a : SwitchId) → In a xs → In a list

  put : (x : SwitchId) (xs : List SwitchId) → Pairs Before xs → ((y : SwitchId) → In y xs → Before x y ⊎ Before y x) → InOrder (x ∷ xs)
  put x [] pairs either = record { list = x ∷ []; whole = refl; ordered = (λ y h. absurd h, tt); to = λ a h. h; from = λ a h. h }
  put x (z ∷ zs) pairs either = go (either z (inl refl)) (put x zs pairs.1 (λ y has. either y (inr has)))
    where
      after : Before x z → (y : SwitchId) → In y (z ∷ zs) → Before x y
      after r y (inl e) = subst (λ w. Before x w) e r
      after r y (inr has) = key-trans ranks x.0 z.0 y.0 r (pairs.0 y has)

      before : Before z x → (y : SwitchId) → In y (x ∷ zs) → Before z y
      before r y (inl e) = subst (λ w. Before z w) e r
      before r y (inr has) = pairs.0 y has

      swap : (a : SwitchId) → In a (z ∷ x ∷ zs) → In a (x ∷ z ∷ zs)
      swap a (inl e) = inr (inl e)
      swap a (inr (inl e)) = inl e
      swap a (inr (inr has)) = inr (inr has)

      back : (a : SwitchId) → In a (x ∷ z ∷ zs) → In a (z ∷ x ∷ zs)
      back a (inl e) = inr (inl e)
      back a (inr (inl e)) = inl e
      back a (inr (inr has)) = inr (inr has)

      under : (xs ys : List SwitchId) → ((a : SwitchId) → In a xs → In a ys) → (a : SwitchId) → In a (z ∷ xs) → In a (z ∷ ys)
      under xs ys step a (inl e) = inl e
      under xs ys step a (inr has) = inr (step a has)

      go : Before x z ⊎ Before z x → InOrder (x ∷ zs) → InOrder (x ∷ z ∷ zs)
      go (inl r) rest = record { list = x ∷ z ∷ zs; whole = refl; ordered = (after r, pairs); to = λ a h. h; from = λ a h. h }
      go (inr r) rest = record {
        list = z ∷ rest.list;
        whole = ap (λ n. suc n) rest.whole;
        ordered = (λ y has. before r y (rest.to y has), rest.ordered);
        to = λ a has. swap a (under rest.list (x ∷ zs) rest.to a has);
        from = λ a has. under (x ∷ zs) rest.list rest.from a (back a has);
      }

  -- those below a number
  record OrderBelow (count : ℕ) : Type 0 where
    order : List SwitchId
    whole : length order ≡ count
    ordered : Pairs Before order
    to : (a : SwitchId) → In a order → a.0 < count
    from : (s : ℕ) → s < count → In (switch_id s) order

  order_more : (count : ℕ) → OrderBelow count → OrderBelow (suc count)
  order_more count is = go (put (switch_id count) is.order is.ordered (λ y has. key-total ranks count y.0 (λ e. omega (arith, e, is.to y has))))
    where
      told : (a : SwitchId) → In a (switch_id count ∷ is.order) → a.0 < suc count
      told a (inl same) = omega (arith, ap (λ (x : SwitchId). x.0) same)
      told a (inr has) = omega (arith, is.to a has)

      go : InOrder (switch_id count ∷ is.order) → OrderBelow (suc count)
      go more = record {
        order = more.list;
        whole = omega (arith, more.whole, is.whole);
        ordered = more.ordered;
        to = λ a has. told a (more.to a has);
        from = λ s below. more.from (switch_id s) (elim (cases_lt s count) [
          | inl less ↦ inr (is.from s less)
          | inr last ↦ inl (let same : count ≡ s = omega (arith, below, last) in ap switch_id same)
        ]);
      }

  order_below : (count : ℕ) → OrderBelow count
  order_below zero = record { order = []; whole = refl; ordered = tt; to = λ a has. absurd has; from = λ s below. absurd (omega (arith, below)) }
  order_below (suc count) = order_more count (order_below count)

  whole_order : OrderBelow (length ranks) → (order : List SwitchId) × IsKeyOrder ranks order
  whole_order is = (
    is.order,
    record {
      whole = is.whole;
      within = All_from_in (λ (a : SwitchId). a.0 < length ranks) is.order is.to;
      all = λ s low. (switch_id s, Contains_from_in is.order (switch_id s) (is.from s low), refl);
      ordered = AllPairs_from_pairs Before is.order is.ordered;
    },
  )

  pub key_order_exists : (order : List SwitchId) × IsKeyOrder ranks order
  key_order_exists = whole_order (order_below (length ranks))
