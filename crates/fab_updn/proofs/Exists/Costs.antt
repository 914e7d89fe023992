-- Each fabric with ranks has the costs on the way to each switch: the down walks by descending key, and then those above by ascending key.
use Rattle.std.proofs.Common.{◌≡◌, ℕ, zero, suc, ◌+◌, ◌≤◌, ◌⊎◌, inl, inr, List, [], ◌∷◌, ◌++◌, length, reverse, refl, sym, ◌∙◌, ap, subst, arith, Contains, Option, Some, None, add-one}
use Rattle.std.specs.Prelude.{replicate, slice_set}
use Rattle.std.proofs.lemmas.List.{length-replicate, length-set}
use Rattle.std.proofs.lemmas.Option.{same_Some, none-some}
use Rattle.fab_graph.specs.Least.{IsLeast}
use Rattle.fab_graph.proofs.Decided.{Decided, equal, equivalent, either, both, below_decided, not_decided, found_below, least_of}
use Rattle.fab_model.specs.declared.rows.SwitchId.{SwitchId}
use Rattle.fab_model.specs.declared.rows.ChannelRow.{ChannelRow}
use Rattle.fab_model.specs.Topology.{Topology}
use Rattle.fab_model.specs.WellFormed.{IsWellFormed}
use Rattle.fab_updn.specs.declared.keys.Direction.{Direction}
use Rattle.fab_updn.specs.declared.keys.Direction.TheVariants.{Up, Down}
use Rattle.fab_updn.specs.declared.costs.Cost.{Cost}
use Rattle.fab_updn.specs.declared.costs.Cost.TheVariants.{Below, Above, Missing}
use Rattle.fab_updn.specs.Ranks.{HasSmallerKey, GoesUp}
use Rattle.fab_updn.specs.Found.{count_of, cost_at, Goes, IsCountBeyond, AreSmall, AreDowns, AreCostsTo, AreAllCosts, IsKeyOrder, IsNextBelow, IsNextAbove}
use Rattle.fab_updn.proofs.Sequences.{switch_at, upward, downward}
use Rattle.fab_updn.proofs.Falling.{IsFalling, none_fallen, one_fallen, all_fallen}
use Rattle.fab_updn.proofs.Rising.{IsRising, none_risen, one_risen, small_after, all_risen}
use Rattle.fab_updn.proofs.CostRows.{AreCostRows, no_rows, one_row_more}
use Rattle.fab_updn.proofs.Exists.KeyOrders.{key_order_exists}

-- ---- what is decided

-- some element of a list meets a decided fact, or none does
pub some_element : {A : Type 0} (P : A → Type 0) → ((x : A) → Decided (P x)) → (xs : List A) → Decided ((x : A) × Contains xs x × P x)
some_element P decide [] = inr (λ f. omega (arith, f.1.1))
some_element {A} P decide (y ∷ ys) = go (decide y) (some_element P decide ys)
  where
    neither : ¬ P y → ¬ ((x : A) × Contains ys x × P x) → (x : A) → Contains (y ∷ ys) x → P x → ⊥
    neither not none x (zero, low, is) p = not (subst P (sym is) p)
    neither not none x (suc k, low, is) p = none (x, (k, omega (arith, low), is), p)

    go : Decided (P y) → Decided ((x : A) × Contains ys x × P x) → Decided ((x : A) × Contains (y ∷ ys) x × P x)
    go (inl p) later = inl (y, (0, omega arith, refl), p)
    go (inr not) (inl f) = inl (f.0, (suc f.1.0, omega (arith, f.1.1), f.1.2), f.2)
    go (inr not) (inr none) = inr (λ f. neither not none f.0 f.1 f.2)

pub is_number : (o : Option ℕ) (n : ℕ) → Decided (o ≡ Some n)
is_number None n = inr (λ e. none-some n e)
is_number (Some m) n = equivalent (m ≡ n) (Some m ≡ Some n) (λ e. ap (λ k. Some k) e) (λ e. same_Some m n e) (equal m n)

pub smaller_decided : (ranks : List ℕ) (a b : ℕ) → Decided (HasSmallerKey ranks a b)
smaller_decided ranks a b = either _ _ (below_decided _ _) (both _ _ (equal _ _) (below_decided a b))

goes_decided : (direction : Direction) (ranks : List ℕ) (row : ChannelRow) → Decided (Goes direction ranks row)
goes_decided Up ranks row = smaller_decided ranks row.tip.0 row.tail.0
goes_decided Down ranks row = not_decided (GoesUp ranks row) (smaller_decided ranks row.tip.0 row.tail.0)

-- the channel leaves the switch in the direction to one of this cost
abbrev IsRowBeyond : List ℕ → List Cost → Direction → ℕ → ℕ → ChannelRow → Type 0
IsRowBeyond ranks costs direction s n row = (row.tail.0 ≡ s) × Goes direction ranks row × (count_of (cost_at costs row.tip.0) ≡ Some n)

row_decided : (ranks : List ℕ) (costs : List Cost) (direction : Direction) (s n : ℕ) (row : ChannelRow) → Decided (IsRowBeyond ranks costs direction s n row)
row_decided ranks costs direction s n row = go (equal row.tail.0 s) (goes_decided direction ranks row) (is_number (count_of (cost_at costs row.tip.0)) n)
  where
    go : Decided (row.tail.0 ≡ s) → Decided (Goes direction ranks row) → Decided (count_of (cost_at costs row.tip.0) ≡ Some n) → Decided (IsRowBeyond ranks costs direction s n row)
    go (inl a) (inl b) (inl c) = inl (a, b, c)
    go (inr not) b c = inr (λ x. not x.0)
    go (inl a) (inr not) c = inr (λ x. not x.1)
    go (inl a) (inl b) (inr not) = inr (λ x. not x.2)

beyond_decided : (t : Topology) (ranks : List ℕ) (costs : List Cost) (direction : Direction) (s n : ℕ) → Decided (IsCountBeyond t ranks costs direction s n)
beyond_decided t ranks costs direction s n =
    equivalent ((row : ChannelRow) × Contains t.channels row × IsRowBeyond ranks costs direction s n row) (IsCountBeyond t ranks costs direction s n) (λ x. (x.0, x.1, x.2.0, x.2.1, x.2.2)) (λ x. (x.0, x.1, (x.2, x.3, x.4)))
    (some_element (λ (row : ChannelRow). IsRowBeyond ranks costs direction s n row) (row_decided ranks costs direction s n) t.channels)

-- ---- the next cost

module _ (t : Topology) (ranks : List ℕ) (costs : List Cost) (limit : ℕ) (small : AreSmall costs limit) (s : ℕ) where
  -- the least count beyond, or none is there
  least_beyond : (direction : Direction) → ((m : ℕ) × IsLeast (IsCountBeyond t ranks costs direction s) m) ⊎ ((n : ℕ) → ¬ IsCountBeyond t ranks costs direction s n)
  least_beyond direction = elim (found_below (λ n. IsCountBeyond t ranks costs direction s n) (beyond_decided t ranks costs direction s) limit) [
    | inl found ↦ inl (least_of (λ n. IsCountBeyond t ranks costs direction s n) (beyond_decided t ranks costs direction s) found.0 found.2)
    | inr none ↦ inr (λ n x. none n (small x.0.tip.0 n x.4) x)
  ]

  next_below : (to : ℕ) → (c : Cost) × IsNextBelow t ranks costs to s c
  next_below to = elim (equal s to) [
    | inl same ↦ (Below 0, inl (same, refl))
    | inr other ↦ elim (least_beyond Down) [ inl m ↦ (Below (m.0 + 1), inr (other, (m.0, refl, m.1))) | inr none ↦ (Missing, (other, none)) ]
  ]

  next_above : (old : Cost) → (c : Cost) × IsNextAbove t ranks costs s old c
  next_above (Below k) = (Below k, refl)
  next_above (Above k) = (Above k, refl)
  next_above Missing = elim (least_beyond Up) [ inl m ↦ (Above (m.0 + 1), (m.0, refl, m.1)) | inr none ↦ (Missing, none) ]

-- ---- all of them

module _ (t : Topology) (good : IsWellFormed t) (ranks : List ℕ) (same_length : length ranks ≡ length t.switches) (order : List SwitchId) (is : IsKeyOrder ranks order) (to : ℕ) where
  fallen : (k : ℕ) → k ≤ length (reverse order) → (costs : List Cost) × IsFalling t ranks to (reverse order) k costs
  fallen zero few = (replicate (length t.switches) Missing, none_fallen t ranks to (reverse order) _ (length-replicate (length t.switches) Missing) (λ s. nothing (length t.switches) s))
    where
      nothing : (n s : ℕ) → cost_at (replicate n Missing) s ≡ Missing
      nothing zero s = refl
      nothing (suc n) zero = refl
      nothing (suc n) (suc s) = nothing n s
  fallen (suc k) few = go (fallen k (omega (arith, few)))
    where
      go : (costs : List Cost) × IsFalling t ranks to (reverse order) k costs → (costs : List Cost) × IsFalling t ranks to (reverse order) (suc k) costs
      go f =
          let c : (c : Cost) × IsNextBelow t ranks f.0 to (switch_at (reverse order) k) c = next_below t ranks f.0 (k + 1) f.1.small (switch_at (reverse order) k) to in (
            slice_set f.0 (switch_at (reverse order) k) c.0,
            subst (λ n. IsFalling t ranks to (reverse order) n (slice_set f.0 (switch_at (reverse order) k) c.0)) (add-one k)
                (one_fallen t good ranks same_length to (reverse order) (downward ranks order is) k f.0 (omega (arith, few)) f.1 c.0 c.1),
          )

  -- small costs that have risen
  record Risen (count : ℕ) : Type 0 where
    costs : List Cost
    limit : ℕ
    small : AreSmall costs limit
    whole : length costs ≡ length t.switches
    rising : IsRising t ranks to order count costs

  risen : (k : ℕ) → k ≤ length order → Risen k
  risen zero few = go (fallen (length (reverse order)) (omega arith))
    where
      go : (costs : List Cost) × IsFalling t ranks to (reverse order) (length (reverse order)) costs → Risen 0
      go f =
          let downs : AreDowns t ranks to f.0 = all_fallen t good ranks same_length to (reverse order) (downward ranks order is) (length (reverse order)) f.0 (omega arith) f.1 in
          record { costs = f.0; limit = length (reverse order) + 1; small = f.1.small; whole = downs.whole; rising = none_risen t ranks to order f.0 downs }
  risen (suc k) few = go (risen k (omega (arith, few)))
    where
      go : Risen k → Risen (suc k)
      go r =
          let c : (c : Cost) × IsNextAbove t ranks r.costs (switch_at order k) (cost_at r.costs (switch_at order k)) c = next_above t ranks r.costs r.limit r.small (switch_at order k) (cost_at r.costs (switch_at order k)) in
          record {
            costs = slice_set r.costs (switch_at order k) c.0;
            limit = r.limit + 1;
            small = small_after t ranks same_length order (upward ranks order is) k r.costs (omega (arith, few)) r.whole c.0 c.1 r.limit r.small;
            whole = length-set r.costs (switch_at order k) c.0 ∙ r.whole;
            rising = subst (λ n. IsRising t ranks to order n (slice_set r.costs (switch_at order k) c.0)) (add-one k)
                (one_risen t ranks same_length order (upward ranks order is) k r.costs (omega (arith, few)) r.whole c.0 c.1 to r.rising);
          }

  costs_exist : (costs : List Cost) × AreCostsTo t ranks to costs
  costs_exist = go (risen (length order) (omega arith))
    where
      go : Risen (length order) → (costs : List Cost) × AreCostsTo t ranks to costs
      go r = (r.costs, all_risen t ranks same_length to order (upward ranks order is) (length order) r.costs (omega arith) r.whole r.rising)

module _ (t : Topology) (good : IsWellFormed t) (ranks : List ℕ) (same_length : length ranks ≡ length t.switches) where
  rows : (order : List SwitchId) → IsKeyOrder ranks order → (count : ℕ) → (table : List (List Cost)) × AreCostRows t ranks count table
  rows order is zero = ([], no_rows t ranks)
  rows order is (suc count) = go (rows order is count) (costs_exist t good ranks same_length order is count)
    where
      go : (table : List (List Cost)) × AreCostRows t ranks count table → (costs : List Cost) × AreCostsTo t ranks count costs → (table : List (List Cost)) × AreCostRows t ranks (suc count) table
      go before row = (before.0 ++ row.0 ∷ [], subst (λ n. AreCostRows t ranks n (before.0 ++ row.0 ∷ [])) (add-one count) (one_row_more t ranks count before.0 row.0 before.1 row.1))

  pub all_costs_exist : (table : List (List Cost)) × AreAllCosts t ranks table
  all_costs_exist = go (key_order_exists ranks)
    where
      go : (order : List SwitchId) × IsKeyOrder ranks order → (table : List (List Cost)) × AreAllCosts t ranks table
      go order = let made : (table : List (List Cost)) × AreCostRows t ranks (length t.switches) table = rows order.0 order.1 (length t.switches) in (made.0, record { order = order.0; is_order = order.1; whole = made.1.whole; each = made.1.each })
