-- The channels that may be taken by the kept costs are those of the legal ports, and where there is a cost, there is one.
use Rattle.std.proofs.Common.{◌≡◌, ◌≢◌, ℕ, zero, suc, ◌<◌, inl, inr, List, length, refl, sym, ◌∙◌, ap, subst, arith, Contains, Option, Some}
use Rattle.std.specs.Prelude.{slice_get}
use Rattle.std.proofs.lemmas.Option.{same_Some, none-some, slice_get-get_or}
use Rattle.fab_graph.specs.Walks.{Walk}
use Rattle.fab_graph.proofs.Graphs.{one_least}
use Rattle.fab_model.specs.declared.rows.ChannelRow.{ChannelRow}
use Rattle.fab_model.specs.Topology.{Topology, channel_at}
use Rattle.fab_model.specs.Connected.{LeadsTo, AreConnected}
use Rattle.fab_model.specs.WellFormed.{IsWellFormed}
use Rattle.fab_model.proofs.Channels.{contains_read}
use Rattle.fab_model.proofs.Finds.{channels_are_found}
use Rattle.fab_tables.proofs.Joined.Tips.{tip_below}
use Rattle.fab_tables.proofs.Paths.FallingRoutes.{channel_found}
use Rattle.fab_updn.specs.declared.costs.Cost.{Cost}
use Rattle.fab_updn.specs.declared.costs.Cost.TheVariants.{Below, Above, Missing}
use Rattle.fab_updn.specs.Ranks.{GoesUp, GoesDown, StepsUp, StepsDown}
use Rattle.fab_updn.specs.Costs.{IsDown, LeadsDown}
use Rattle.fab_updn.specs.UpDown.{IsAt, IsLegalPort}
use Rattle.fab_updn.specs.Found.{count_of, cost_at, IsCostOf, AreCostsTo, IsLegalStep, IsLegalRow}

-- a walk of channels that go down is a walk
pub down_connects : (t : Topology) (ranks : List ℕ) (n s to : ℕ) → Walk (StepsDown t ranks) n s to → Walk (LeadsTo t) n s to
down_connects t ranks zero s to w = w
down_connects t ranks (suc n) s to w = (w.0, (w.1.0, w.1.1, w.1.2, w.1.3), down_connects t ranks n w.0 to w.2)

module _ (t : Topology) (good : IsWellFormed t) (ranks : List ℕ) (to : ℕ) (costs : List Cost) (are : AreCostsTo t ranks to costs) where
  abbrev kept : ℕ → Option ℕ
  kept s = count_of (cost_at costs s)

  abbrev IsOf : ℕ → Cost → Type 0
  IsOf s c = IsCostOf t ranks to kept s c

  -- ---- what the channel tells of its port

  to_port : (s port : ℕ) (row : ChannelRow) → IsAt t s port row → (here there : Cost) → cost_at costs s ≡ here → IsOf s here → cost_at costs row.tip.0 ≡ there → IsOf row.tip.0 there → IsLegalStep ranks row here there →
      IsLegalPort t ranks kept to s port
  to_port s port row at (Below n) (Below m) a x b y step = inl (row, m, at, step.1, (let more : n ≡ suc m = omega (arith, step.0) in subst (λ k. IsDown t ranks to s k) more x), y)
  to_port s port row at (Below n) (Above m) a x b y step = absurd step
  to_port s port row at (Below n) Missing a x b y step = absurd step
  to_port s port row at (Above n) (Below m) a x b y step = inr (row, m, at, step.1, x.2, (let more : n ≡ suc m = omega (arith, step.0) in ap count_of a ∙ ap (λ k. Some k) more), ap count_of b)
  to_port s port row at (Above n) (Above m) a x b y step = inr (row, m, at, step.1, x.2, (let more : n ≡ suc m = omega (arith, step.0) in ap count_of a ∙ ap (λ k. Some k) more), ap count_of b)
  to_port s port row at (Above n) Missing a x b y step = absurd step
  to_port s port row at Missing there a x b y step = absurd step

  down_step : (s port : ℕ) (row : ChannelRow) (m : ℕ) → (here there : Cost) → IsOf s here → IsOf row.tip.0 there → GoesDown ranks row → IsDown t ranks to s (suc m) → IsDown t ranks to row.tip.0 m → IsLegalStep ranks row here there
  down_step s port row m (Below n) (Below k) x y down here there =
      (omega (arith, one_least (λ j. Walk (StepsDown t ranks) j s to) n (suc m) x here, one_least (λ j. Walk (StepsDown t ranks) j row.tip.0 to) k m y there), down)
  down_step s port row m (Below n) (Above k) x y down here there = absurd (y.2 (m, there.holds))
  down_step s port row m (Below n) Missing x y down here there = absurd (y.0 (m, there.holds))
  down_step s port row m (Above n) c x y down here there = absurd (x.2 (suc m, here.holds))
  down_step s port row m Missing c x y down here there = absurd (x.0 (suc m, here.holds))

  up_step : (s port : ℕ) (row : ChannelRow) (m : ℕ) → (here there : Cost) → IsOf s here → GoesUp ranks row → ¬ LeadsDown t ranks to s → count_of here ≡ Some (suc m) → count_of there ≡ Some m → IsLegalStep ranks row here there
  up_step s port row m (Below n) c x up not a b = absurd (not (n, x.holds))
  up_step s port row m (Above n) (Below k) x up not a b = (omega (arith, same_Some n (suc m) a, same_Some k m b), up)
  up_step s port row m (Above n) (Above k) x up not a b = (omega (arith, same_Some n (suc m) a, same_Some k m b), up)
  up_step s port row m (Above n) Missing x up not a b = absurd (none-some m b)
  up_step s port row m Missing c x up not a b = absurd (none-some (suc m) a)

  leaves : (s port : ℕ) (row : ChannelRow) → IsAt t s port row → row.tail.0 ≡ s
  leaves s port row at =
      let found : (r : ChannelRow) × (at.0 < length t.channels) × (slice_get t.channels at.0 ≡ Some r) × (r.tail.0 ≡ s) × (r.port ≡ port) = channel_found t s port at.0 at.1 in
      ap (λ (r : ChannelRow). r.tail.0) (same_Some row found.0 (sym at.2 ∙ found.2)) ∙ found.3

  tip_low : (s port : ℕ) (row : ChannelRow) → IsAt t s port row → row.tip.0 < length t.switches
  tip_low s port row at = tip_below t good row (contains_read t.channels at.0 row at.2)

  pub row_is_port : (s port : ℕ) → s < length t.switches → (row : ChannelRow) × IsAt t s port row × IsLegalRow ranks costs row → IsLegalPort t ranks kept to s port
  row_is_port s port low x =
      to_port s port x.0 x.1 (cost_at costs s) (cost_at costs x.0.tip.0) refl (are.each s low) refl (are.each x.0.tip.0 (tip_low s port x.0 x.1))
      (subst (λ y. IsLegalStep ranks x.0 (cost_at costs y) (cost_at costs x.0.tip.0)) (leaves s port x.0 x.1) x.2)

  pub port_is_row : (s port : ℕ) → s < length t.switches → IsLegalPort t ranks kept to s port → (row : ChannelRow) × IsAt t s port row × IsLegalRow ranks costs row
  port_is_row s port low (inl x) = (
    x.0,
    x.2,
    subst (λ y. IsLegalStep ranks x.0 (cost_at costs y) (cost_at costs x.0.tip.0)) (sym (leaves s port x.0 x.2))
        (down_step s port x.0 x.1 (cost_at costs s) (cost_at costs x.0.tip.0) (are.each s low) (are.each x.0.tip.0 (tip_low s port x.0 x.2)) x.3 x.4 x.5),
  )
  port_is_row s port low (inr x) = (
    x.0,
    x.2,
    subst (λ y. IsLegalStep ranks x.0 (cost_at costs y) (cost_at costs x.0.tip.0)) (sym (leaves s port x.0 x.2))
        (up_step s port x.0 x.1 (cost_at costs s) (cost_at costs x.0.tip.0) (are.each s low) x.3 x.4 x.5 x.6),
  )

  -- ---- there is one where there is a cost

  at_row : (s : ℕ) (row : ChannelRow) (has : Contains t.channels row) → row.tail.0 ≡ s → IsAt t s row.port row
  at_row s row has tail =
      let is : slice_get t.channels has.0 ≡ Some row = slice_get-get_or t.channels has.0 row has.1 ∙ ap (λ r. Some r) has.2 in
      (has.0, subst (λ x. channel_at t x row.port ≡ Some has.0) tail (channels_are_found t has.0 row good is), is)

  by_cost : (s : ℕ) → s ≢ to → (c : Cost) → cost_at costs s ≡ c → IsOf s c → c ≢ Missing → (port : ℕ) × IsLegalPort t ranks kept to s port
  by_cost s other (Below zero) e x some = absurd (other x.holds)
  by_cost s other (Below (suc m)) e x some =
      let step : StepsDown t ranks s x.holds.0 = x.holds.1 in
      let there : IsDown t ranks to x.holds.0 m = record { holds = x.holds.2; least = λ k w. omega (arith, x.least (suc k) (x.holds.0, step, w)) } in
      (step.0.port, inl (step.0, m, at_row s step.0 step.1 step.2, step.4, x, subst (λ y. IsDown t ranks to y m) (sym step.3) there))
  by_cost s other (Above n) e x some =
      let step : StepsUp t ranks s x.3.holds.0 = x.3.holds.1 in
      (step.0.port, inr (step.0, x.0, at_row s step.0 step.1 step.2, step.4, x.2, ap count_of e ∙ ap (λ k. Some k) x.1, ap kept step.3 ∙ x.3.holds.2))
  by_cost s other Missing e x some = absurd (some refl)

  pub some_legal : (s : ℕ) → s < length t.switches → s ≢ to → cost_at costs s ≢ Missing → (port : ℕ) × IsLegalPort t ranks kept to s port
  some_legal s low other some = by_cost s other (cost_at costs s) refl (are.each s low) some

  -- ---- and then the switch is another one, connected to the destination

  down_there : IsDown t ranks to to 0
  down_there = record { holds = refl; least = λ m w. omega arith }

  pub legal_is_other : (s port : ℕ) → IsLegalPort t ranks kept to s port → s ≢ to
  legal_is_other s port (inl x) same = let here : IsDown t ranks to to (suc x.1) = subst (λ y. IsDown t ranks to y (suc x.1)) same x.4 in omega (arith, here.least 0 refl)
  legal_is_other s port (inr x) same = x.4 (0, same)

  connected_by : (s n : ℕ) (c : Cost) → s < length t.switches → ((y m : ℕ) → y < length t.switches → m < n → kept y ≡ Some m → AreConnected t y to) → IsOf s c → count_of c ≡ Some n → AreConnected t s to
  connected_by s n (Below k) low less x e = (k, down_connects t ranks k s to x.holds)
  connected_by s n (Above k) low less x e =
      let step : StepsUp t ranks s x.3.holds.0 = x.3.holds.1 in
      let next_low : x.3.holds.0 < length t.switches = subst (λ y. y < length t.switches) step.3 (tip_below t good step.0 step.1) in
      let on : AreConnected t x.3.holds.0 to = less x.3.holds.0 x.0 next_low (omega (arith, x.1, same_Some k n e)) x.3.holds.2 in
      (suc on.0, (x.3.holds.0, (step.0, step.1, step.2, step.3), on.1))
  connected_by s n Missing low less x e = absurd (none-some n e)

  connected_within_cost : (limit s n : ℕ) → n < limit → s < length t.switches → kept s ≡ Some n → AreConnected t s to
  connected_within_cost zero s n few low e = absurd (omega (arith, few))
  connected_within_cost (suc limit) s n few low e = connected_by s n (cost_at costs s) low (λ y m y_low less f. connected_within_cost limit y m (omega (arith, few, less)) y_low f) (are.each s low) e

  pub legal_is_connected : (s port : ℕ) → s < length t.switches → IsLegalPort t ranks kept to s port → AreConnected t s to
  legal_is_connected s port low (inl x) = (suc x.1, down_connects t ranks (suc x.1) s to x.4.holds)
  legal_is_connected s port low (inr x) = connected_within_cost (suc (suc x.1)) s (suc x.1) (omega arith) low x.5

  pub legal_is_at : (s port : ℕ) → IsLegalPort t ranks kept to s port → (c : ℕ) × (channel_at t s port ≡ Some c)
  legal_is_at s port (inl x) = (x.2.0, x.2.1)
  legal_is_at s port (inr x) = (x.2.0, x.2.1)
