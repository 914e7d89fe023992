-- The lengths of down walks, by descending key.
use Rattle.std.proofs.Common.{◌≡◌, ◌≢◌, ℕ, zero, suc, ◌+◌, ◌<◌, ◌≤◌, ◌⊎◌, inl, inr, List, length, refl, sym, ◌∙◌, ap, subst, arith, Some, get_or-set_same, get_or-set_other, length-set}
use Rattle.std.specs.Prelude.{slice_set, slice_index_or}
use Rattle.std.proofs.lemmas.List.{get_or_default}
use Rattle.std.proofs.lemmas.Bool.{cases_eq}
use Rattle.std.proofs.lemmas.Option.{same_Some, none-some}
use Rattle.fab_graph.specs.Walks.{Walk}
use Rattle.fab_graph.specs.Least.{IsLeast}
use Rattle.fab_model.specs.declared.rows.SwitchId.{SwitchId}
use Rattle.fab_model.specs.Topology.{Topology}
use Rattle.fab_model.specs.WellFormed.{IsWellFormed}
use Rattle.fab_tables.proofs.Joined.Tips.{tip_below}
use Rattle.fab_updn.specs.declared.keys.Direction.TheVariants.{Down}
use Rattle.fab_updn.specs.declared.costs.Cost.{Cost}
use Rattle.fab_updn.specs.declared.costs.Cost.TheVariants.{Below, Above, Missing}
use Rattle.fab_updn.specs.Ranks.{HasSmallerKey, StepsDown}
use Rattle.fab_updn.specs.Costs.{IsDown}
use Rattle.fab_updn.specs.Found.{count_of, cost_at, IsCountBeyond, AreSmall, IsDownOf, AreDowns, IsNextBelow}
use Rattle.fab_updn.proofs.Sequences.{key-trans, key-self, key-total, switch_at, IsAmong, IsSequence, before, fresh, last_or_before, one_later}

-- the switches so far have what the down walks tell of them, and the others nothing
pub record IsFalling (t : Topology) (ranks : List ℕ) (to : ℕ) (xs : List SwitchId) (count : ℕ) (costs : List Cost) : Type 0 where
  pub whole : length costs ≡ length t.switches
  pub right : (s : ℕ) → IsAmong xs count s → IsDownOf t ranks to s (cost_at costs s)
  pub unset : (s : ℕ) → ¬ IsAmong xs count s → cost_at costs s ≡ Missing
  pub small : AreSmall costs (count + 1)

pub none_fallen : (t : Topology) (ranks : List ℕ) (to : ℕ) (xs : List SwitchId) (costs : List Cost) → length costs ≡ length t.switches → ((s : ℕ) → cost_at costs s ≡ Missing) → IsFalling t ranks to xs 0 costs
none_fallen t ranks to xs costs whole none = record {
  whole = whole;
  right = λ s x. absurd (omega (arith, x.early));
  unset = λ s x. none s;
  small = λ s n e. absurd (none-some n (ap count_of (sym (none s)) ∙ e));
}

-- a down walk from another switch has a first channel to another switch
pub first_other : (t : Topology) (ranks : List ℕ) (to n s : ℕ) → s ≢ to → Walk (StepsDown t ranks) n s to →
    (m : ℕ) × (next : ℕ) × (m < n) × StepsDown t ranks s next × (next ≢ s) × Walk (StepsDown t ranks) m next to
first_other t ranks to zero s other w = absurd (other w)
first_other t ranks to (suc n) s other w = go (λ v. first_other t ranks to n s other v) (cases_eq w.0 s)
  where
    go : (Walk (StepsDown t ranks) n s to → (m : ℕ) × (next : ℕ) × (m < n) × StepsDown t ranks s next × (next ≢ s) × Walk (StepsDown t ranks) m next to) → (w.0 ≡ s) ⊎ (w.0 ≢ s) →
        (m : ℕ) × (next : ℕ) × (m < suc n) × StepsDown t ranks s next × (next ≢ s) × Walk (StepsDown t ranks) m next to
    go again (inl same) = let r : (m : ℕ) × (next : ℕ) × (m < n) × StepsDown t ranks s next × (next ≢ s) × Walk (StepsDown t ranks) m next to = again (subst (λ x. Walk (StepsDown t ranks) n x to) same w.2) in (r.0, r.1, omega (arith, r.2), r.3, r.4, r.5)
    go again (inr ne) = (n, w.0, omega arith, w.1, ne, w.2)

module _ (t : Topology) (good : IsWellFormed t) (ranks : List ℕ) (same_length : length ranks ≡ length t.switches) (to : ℕ) (xs : List SwitchId) (is : IsSequence (λ a b. HasSmallerKey ranks b a) (length ranks) xs) where
  through : (a b c : ℕ) → HasSmallerKey ranks b a → HasSmallerKey ranks c b → HasSmallerKey ranks c a
  through a b c p q = key-trans ranks c b a q p

  self : (a : ℕ) → ¬ HasSmallerKey ranks a a
  self a = key-self ranks a

  module _ (k : ℕ) (costs : List Cost) (within : k < length xs) (falling : IsFalling t ranks to xs k costs) where
    s : ℕ
    s = switch_at xs k

    pub fresh_here : ¬ IsAmong xs k (switch_at xs k)
    fresh_here = fresh (λ a b. HasSmallerKey ranks b a) through self (length ranks) xs is k within

    missing_here : cost_at costs (switch_at xs k) ≡ Missing
    missing_here = falling.unset (switch_at xs k) fresh_here

    -- a switch to which a channel goes down from it was before
    beyond : (next : ℕ) → next ≢ switch_at xs k → StepsDown t ranks (switch_at xs k) next → IsDownOf t ranks to next (cost_at costs next)
    beyond next other step = falling.right next (before (λ a b. HasSmallerKey ranks b a) through self (length ranks) xs is k next within low (go (key-total ranks (switch_at xs k) next (λ e. other (sym e)))))
      where
        low : next < length ranks
        low = omega (arith, same_length, subst (λ x. x < length t.switches) step.3 (tip_below t good step.0 step.1))

        go : HasSmallerKey ranks (switch_at xs k) next ⊎ HasSmallerKey ranks next (switch_at xs k) → HasSmallerKey ranks (switch_at xs k) next
        go (inl r) = r
        go (inr r) = absurd (step.4 (subst (λ x. HasSmallerKey ranks x step.0.tail.0) (sym step.3) (subst (λ x. HasSmallerKey ranks next x) (sym step.2) r)))

    -- a switch beyond with a count
    down_of : (next m : ℕ) (c : Cost) → IsDownOf t ranks to next c → count_of c ≡ Some m → IsDown t ranks to next m
    down_of next m (Below n) d e = subst (λ j. IsDown t ranks to next j) (same_Some n m e) d
    down_of next m (Above n) d e = absurd d
    down_of next m Missing d e = absurd (none-some m e)

    -- and the other way around
    count_there : (next m : ℕ) (c : Cost) → IsDownOf t ranks to next c → Walk (StepsDown t ranks) m next to → (q : ℕ) × (q ≤ m) × (count_of c ≡ Some q)
    count_there next m (Below n) d w = (n, d.least m w, refl)
    count_there next m (Above n) d w = absurd d
    count_there next m Missing d w = absurd (d (m, w))

    to_beyond : (next q : ℕ) → StepsDown t ranks (switch_at xs k) next → count_of (cost_at costs next) ≡ Some q → IsCountBeyond t ranks costs Down (switch_at xs k) q
    to_beyond next q step e = (step.0, step.1, step.2, step.4, ap (λ x. count_of (cost_at costs x)) step.3 ∙ e)

    other_switch : (m : ℕ) → (x : IsCountBeyond t ranks costs Down (switch_at xs k) m) → x.0.tip.0 ≢ switch_at xs k
    other_switch m x same = none-some m (ap count_of (sym missing_here) ∙ ap (λ y. count_of (cost_at costs y)) (sym same) ∙ x.4)

    right_here : (c : Cost) → IsNextBelow t ranks costs to (switch_at xs k) c → IsDownOf t ranks to (switch_at xs k) c
    right_here (Below n) (inl x) = subst (λ j. IsDown t ranks to (switch_at xs k) j) (sym x.1) (record { holds = x.0; least = λ m w. omega arith })
    right_here (Below n) (inr x) =
        let m : ℕ = x.1.0 in
        let beyond_is : IsLeast (IsCountBeyond t ranks costs Down (switch_at xs k)) m = x.1.2 in
        let b : IsCountBeyond t ranks costs Down (switch_at xs k) m = beyond_is.holds in
        let step : StepsDown t ranks (switch_at xs k) b.0.tip.0 = (b.0, b.1, b.2, refl, b.3) in
        let there : IsDown t ranks to b.0.tip.0 m = down_of b.0.tip.0 m (cost_at costs b.0.tip.0) (beyond b.0.tip.0 (other_switch m b) step) b.4 in
        let more : suc m ≡ n = omega (arith, x.1.1) in
        subst (λ j. IsDown t ranks to (switch_at xs k) j) more (record { holds = (b.0.tip.0, step, there.holds); least = λ l w. least m beyond_is l (first_other t ranks to l (switch_at xs k) x.0 w) })
      where
        least : (m : ℕ) → IsLeast (IsCountBeyond t ranks costs Down (switch_at xs k)) m → (l : ℕ) →
            (p : ℕ) × (next : ℕ) × (p < l) × StepsDown t ranks (switch_at xs k) next × (next ≢ switch_at xs k) × Walk (StepsDown t ranks) p next to → suc m ≤ l
        least m is_least l f =
            let q : (q : ℕ) × (q ≤ f.0) × (count_of (cost_at costs f.1) ≡ Some q) = count_there f.1 f.0 (cost_at costs f.1) (beyond f.1 f.4 f.3) f.5 in
            omega (arith, f.2, q.1, is_least.least q.0 (to_beyond f.1 q.0 f.3 q.2))
    right_here (Above n) x = x
    right_here Missing x = λ leads. none leads.0 (first_other t ranks to leads.0 (switch_at xs k) x.0 leads.1)
      where
        none : (l : ℕ) → (p : ℕ) × (next : ℕ) × (p < l) × StepsDown t ranks (switch_at xs k) next × (next ≢ switch_at xs k) × Walk (StepsDown t ranks) p next to → ⊥
        none l f =
            let q : (q : ℕ) × (q ≤ f.0) × (count_of (cost_at costs f.1) ≡ Some q) = count_there f.1 f.0 (cost_at costs f.1) (beyond f.1 f.4 f.3) f.5 in
            x.1 q.0 (to_beyond f.1 q.0 f.3 q.2)

    small_here : (c : Cost) → IsNextBelow t ranks costs to (switch_at xs k) c → (n : ℕ) → count_of c ≡ Some n → n < k + 1 + 1
    small_here (Below n) (inl x) m e = omega (arith, same_Some n m e, x.1)
    small_here (Below n) (inr x) m e = let b : IsCountBeyond t ranks costs Down (switch_at xs k) x.1.0 = x.1.2.holds in omega (arith, same_Some n m e, x.1.1, falling.small b.0.tip.0 x.1.0 b.4)
    small_here (Above n) x m e = absurd x
    small_here Missing x m e = absurd (none-some m e)

    pub one_fallen : (c : Cost) → IsNextBelow t ranks costs to (switch_at xs k) c → IsFalling t ranks to xs (k + 1) (slice_set costs (switch_at xs k) c)
    one_fallen c next = record {
      whole = length-set costs (switch_at xs k) c ∙ falling.whole;
      right = λ x among. elim (cases_eq x (switch_at xs k)) [
        | inl same ↦ subst (λ y. IsDownOf t ranks to y (cost_at after y)) (sym same) (subst (λ d. IsDownOf t ranks to (switch_at xs k) d) (sym here) (right_here c next))
        | inr ne ↦ subst (λ d. IsDownOf t ranks to x d) (sym (elsewhere x ne)) (falling.right x (earlier x ne (last_or_before xs k x among)))
      ];
      unset = λ x not. (let ne : x ≢ switch_at xs k = λ same. not (subst (λ y. IsAmong xs (k + 1) y) (sym same) (record { place = k; early = omega arith; within = within; there = refl })) in
          elsewhere x ne ∙ falling.unset x (λ among. not (one_later xs k x among)));
      small = λ x n e. elim (cases_eq x (switch_at xs k)) [
        | inl same ↦ small_here c next n (ap count_of (sym (ap (cost_at after) same ∙ here)) ∙ e)
        | inr ne ↦ omega (arith, falling.small x n (ap count_of (sym (elsewhere x ne)) ∙ e))
      ];
    }
      where
        after : List Cost
        after = slice_set costs (switch_at xs k) c

        here : cost_at after (switch_at xs k) ≡ c
        here = get_or-set_same costs (switch_at xs k) c Missing (omega (arith, falling.whole, same_length, is.low k within))

        elsewhere : (x : ℕ) → x ≢ switch_at xs k → cost_at after x ≡ cost_at costs x
        elsewhere x ne = get_or-set_other costs (switch_at xs k) x c Missing ne

        earlier : (x : ℕ) → x ≢ switch_at xs k → (x ≡ switch_at xs k) ⊎ IsAmong xs k x → IsAmong xs k x
        earlier x ne (inl same) = absurd (ne same)
        earlier x ne (inr among) = among

  pub one_fallen_at : (k : ℕ) (costs : List Cost) (x : SwitchId) → k < length xs → x ≡ slice_index_or xs k x → IsFalling t ranks to xs k costs → (c : Cost) → IsNextBelow t ranks costs to x.0 c →
      IsFalling t ranks to xs (k + 1) (slice_set costs x.0 c)
  one_fallen_at k costs x within at falling c next =
      let same : switch_at xs k ≡ x.0 = ap (λ (y : SwitchId). y.0) (get_or_default xs k (record { 0 = 0 }) x within ∙ sym at) in
      subst (λ s. IsNextBelow t ranks costs to s c → IsFalling t ranks to xs (k + 1) (slice_set costs s c)) same (λ y. one_fallen k costs within falling c y) next

  pub all_fallen : (k : ℕ) (costs : List Cost) → length xs ≤ k → IsFalling t ranks to xs k costs → AreDowns t ranks to costs
  all_fallen k costs end falling = record {
    whole = falling.whole;
    each = λ s low. falling.right s (early (is.all s (omega (arith, low, same_length))));
  }
    where
      early : {s : ℕ} → IsAmong xs (length xs) s → IsAmong xs k s
      early x = record { place = x.place; early = omega (arith, x.early, end); within = x.within; there = x.there }
