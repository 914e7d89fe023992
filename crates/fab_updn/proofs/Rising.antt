-- The costs of switches from which no down walk leads there, by ascending key.
use Rattle.std.proofs.Common.{◌≡◌, ◌≢◌, ℕ, ◌+◌, ◌<◌, ◌≤◌, ◌⊎◌, inl, inr, List, length, refl, sym, ◌∙◌, ap, subst, arith, Option, Some, get_or-set_same, get_or-set_other}
use Rattle.std.specs.Prelude.{slice_set}
use Rattle.std.proofs.lemmas.Bool.{cases_eq}
use Rattle.std.proofs.lemmas.Option.{same_Some, none-some}
use Rattle.fab_model.specs.declared.rows.SwitchId.{SwitchId}
use Rattle.fab_model.specs.Topology.{Topology}
use Rattle.fab_updn.specs.declared.keys.Direction.TheVariants.{Up}
use Rattle.fab_updn.specs.declared.costs.Cost.{Cost}
use Rattle.fab_updn.specs.declared.costs.Cost.TheVariants.{Below, Above, Missing}
use Rattle.fab_updn.specs.Ranks.{HasSmallerKey, StepsUp}
use Rattle.fab_updn.specs.Costs.{IsCostAbove}
use Rattle.fab_updn.specs.Found.{count_of, cost_at, IsCountBeyond, AreSmall, IsCostOf, IsDownOf, AreDowns, AreCostsTo, IsNextAbove}
use Rattle.fab_updn.proofs.Sequences.{key-trans, key-self, switch_at, IsAmong, IsSequence, fresh, not_back, last_or_before, one_later, it_is_among}

-- the switches so far have their costs, and the others what the down walks tell of them
pub record IsRising (t : Topology) (ranks : List ℕ) (to : ℕ) (xs : List SwitchId) (count : ℕ) (costs : List Cost) : Type 0 where
  pub done : (s : ℕ) → IsAmong xs count s → IsCostOf t ranks to (λ x. count_of (cost_at costs x)) s (cost_at costs s)
  pub rest : (s : ℕ) → s < length t.switches → ¬ IsAmong xs count s → IsDownOf t ranks to s (cost_at costs s)

pub none_risen : (t : Topology) (ranks : List ℕ) (to : ℕ) (xs : List SwitchId) (costs : List Cost) → AreDowns t ranks to costs → IsRising t ranks to xs 0 costs
none_risen t ranks to xs costs downs = record { done = λ s x. absurd (omega (arith, x.early)); rest = λ s low x. downs.each s low }

-- a cost stays one where the costs of the switches above stay
pub cost_kept : (t : Topology) (ranks : List ℕ) (to : ℕ) (f g : ℕ → Option ℕ) (s : ℕ) → ((next : ℕ) → StepsUp t ranks s next → f next ≡ g next) → (c : Cost) → IsCostOf t ranks to f s c → IsCostOf t ranks to g s c
cost_kept t ranks to f g s same (Below n) x = x
cost_kept t ranks to f g s same (Above n) x = (x.0, x.1, x.2, record { holds = (x.3.holds.0, x.3.holds.1, sym (same x.3.holds.0 x.3.holds.1) ∙ x.3.holds.2); least = λ m y. x.3.least m (y.0, y.1, same y.0 y.1 ∙ y.2) })
cost_kept t ranks to f g s same Missing x = (x.0, λ n y. x.1 n (y.0, y.1, same y.0 y.1 ∙ y.2))

module _ (t : Topology) (ranks : List ℕ) (costs : List Cost) (s : ℕ) where
  to_above : (n : ℕ) → IsCountBeyond t ranks costs Up s n → IsCostAbove t ranks (λ x. count_of (cost_at costs x)) s n
  to_above n x = (x.0.tip.0, (x.0, x.1, x.2, refl, x.3), x.4)

  from_above : (n : ℕ) → IsCostAbove t ranks (λ x. count_of (cost_at costs x)) s n → IsCountBeyond t ranks costs Up s n
  from_above n x = (x.1.0, x.1.1, x.1.2, x.1.4, ap (λ y. count_of (cost_at costs y)) x.1.3 ∙ x.2)

  -- the next cost is one where the others are as they are
  pub right_above : (to : ℕ) (old c : Cost) → IsDownOf t ranks to s old → IsNextAbove t ranks costs s old c → IsCostOf t ranks to (λ x. count_of (cost_at costs x)) s c
  right_above to (Below k) c down next = subst (λ d. IsCostOf t ranks to (λ x. count_of (cost_at costs x)) s d) (sym next) down
  right_above to (Above k) c down next = absurd down
  right_above to Missing (Below n) down next = absurd next
  right_above to Missing (Above n) down next =
      (next.0, omega (arith, next.1), down, record { holds = to_above next.0 next.2.holds; least = λ m y. next.2.least m (from_above m y) })
  right_above to Missing Missing down next = (down, λ n y. next n (from_above n y))

  pub small_above : (limit : ℕ) → AreSmall costs limit → (old c : Cost) → ((n : ℕ) → count_of old ≡ Some n → n < limit) → IsNextAbove t ranks costs s old c → (n : ℕ) → count_of c ≡ Some n → n < limit + 1
  small_above limit small (Below k) c old next n e = omega (arith, old n (ap count_of (sym next) ∙ e))
  small_above limit small (Above k) c old next n e = omega (arith, old n (ap count_of (sym next) ∙ e))
  small_above limit small Missing (Below k) old next n e = absurd next
  small_above limit small Missing (Above k) old next n e = omega (arith, same_Some k n e, next.1, small next.2.holds.0.tip.0 next.0 next.2.holds.4)
  small_above limit small Missing Missing old next n e = absurd (none-some n e)

module _ (t : Topology) (ranks : List ℕ) (same_length : length ranks ≡ length t.switches) (xs : List SwitchId) (is : IsSequence (HasSmallerKey ranks) (length ranks) xs)
    (k : ℕ) (costs : List Cost) (within : k < length xs) (whole : length costs ≡ length t.switches) (c : Cost) (next : IsNextAbove t ranks costs (switch_at xs k) (cost_at costs (switch_at xs k)) c) where
  abbrev after : List Cost
  after = slice_set costs (switch_at xs k) c

  low : switch_at xs k < length t.switches
  low = omega (arith, same_length, is.low k within)

  here : cost_at after (switch_at xs k) ≡ c
  here = get_or-set_same costs (switch_at xs k) c Missing (omega (arith, whole, low))

  elsewhere : (x : ℕ) → x ≢ switch_at xs k → cost_at after x ≡ cost_at costs x
  elsewhere x ne = get_or-set_other costs (switch_at xs k) x c Missing ne

  pub small_after : (limit : ℕ) → AreSmall costs limit → AreSmall after (limit + 1)
  small_after limit small x n e = elim (cases_eq x (switch_at xs k)) [
    | inl same ↦ small_above t ranks costs (switch_at xs k) limit small (cost_at costs (switch_at xs k)) c (λ m. small (switch_at xs k) m) next n (ap count_of (sym (ap (cost_at after) same ∙ here)) ∙ e)
    | inr ne ↦ omega (arith, small x n (ap count_of (sym (elsewhere x ne)) ∙ e))
  ]

  -- no channel of the switches so far goes up to this one
  still_above : (x : ℕ) → IsAmong xs (k + 1) x → (y : ℕ) → StepsUp t ranks x y → count_of (cost_at costs y) ≡ count_of (cost_at after y)
  still_above x among y step = ap count_of (sym (elsewhere y ne))
    where
      ne : y ≢ switch_at xs k
      ne same = not_back (HasSmallerKey ranks) (key-trans ranks) (key-self ranks) (length ranks) xs is k x within among
          (subst (λ z. HasSmallerKey ranks z x) (step.3 ∙ same) (subst (λ z. HasSmallerKey ranks step.0.tip.0 z) step.2 step.4))

  pub one_risen : (to : ℕ) → IsRising t ranks to xs k costs → IsRising t ranks to xs (k + 1) after
  one_risen to rising = record {
    done = λ x among. cost_kept t ranks to (λ y. count_of (cost_at costs y)) (λ y. count_of (cost_at after y)) x (still_above x among) (cost_at after x) (of x (cases_eq x (switch_at xs k)) among);
    rest = λ x below not. (let ne : x ≢ switch_at xs k = λ same. not (subst (λ y. IsAmong xs (k + 1) y) (sym same) (it_is_among xs k within)) in
        subst (λ d. IsDownOf t ranks to x d) (sym (elsewhere x ne)) (rising.rest x below (λ among. not (one_later xs k x among))));
  }
    where
      down_here : IsDownOf t ranks to (switch_at xs k) (cost_at costs (switch_at xs k))
      down_here = rising.rest (switch_at xs k) low (fresh (HasSmallerKey ranks) (key-trans ranks) (key-self ranks) (length ranks) xs is k within)

      earlier : (x : ℕ) → x ≢ switch_at xs k → (x ≡ switch_at xs k) ⊎ IsAmong xs k x → IsAmong xs k x
      earlier x ne (inl same) = absurd (ne same)
      earlier x ne (inr among) = among

      of : (x : ℕ) → (x ≡ switch_at xs k) ⊎ (x ≢ switch_at xs k) → IsAmong xs (k + 1) x → IsCostOf t ranks to (λ y. count_of (cost_at costs y)) x (cost_at after x)
      of x (inl same) among =
          subst (λ y. IsCostOf t ranks to (λ z. count_of (cost_at costs z)) y (cost_at after y)) (sym same)
          (subst (λ d. IsCostOf t ranks to (λ z. count_of (cost_at costs z)) (switch_at xs k) d) (sym here) (right_above t ranks costs (switch_at xs k) to (cost_at costs (switch_at xs k)) c down_here next))
      of x (inr ne) among = subst (λ d. IsCostOf t ranks to (λ z. count_of (cost_at costs z)) x d) (sym (elsewhere x ne)) (rising.done x (earlier x ne (last_or_before xs k x among)))

pub all_risen : (t : Topology) (ranks : List ℕ) → length ranks ≡ length t.switches → (to : ℕ) (xs : List SwitchId) → IsSequence (HasSmallerKey ranks) (length ranks) xs → (k : ℕ) (costs : List Cost) → length xs ≤ k → length costs ≡ length t.switches →
    IsRising t ranks to xs k costs → AreCostsTo t ranks to costs
all_risen t ranks same_length to xs is k costs end whole rising = record { whole = whole; each = λ s low. rising.done s (early s (is.all s (omega (arith, low, same_length)))) }
  where
    early : (s : ℕ) → IsAmong xs (length xs) s → IsAmong xs k s
    early s x = record { place = x.place; early = omega (arith, x.early, end); within = x.within; there = x.there }
