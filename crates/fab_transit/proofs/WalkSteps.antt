-- Mixed walks, step by step: a step more makes a walk, and a walk is cut before each of its virtual channels.
use Rattle.std.proofs.Common.{◌≡◌, ℕ, zero, suc, List, [], ◌∷◌, ◌++◌, refl, sym, ◌∙◌, ap, subst, arith, Some}
use Rattle.std.specs.Prelude.{slice_get}
use Rattle.std.proofs.lemmas.List.Elements.{Contains-append_right}
use Rattle.std.proofs.lemmas.Option.{same_Some, none-some, slice_get-get_or}
use Rattle.fab_model.specs.declared.rows.TerminalRow.{TerminalRow}
use Rattle.fab_model.specs.Topology.{Topology}
use Rattle.fab_tables.specs.declared.verdict.VirtualChannel.{VirtualChannel}
use Rattle.fab_tables.specs.VirtualChannels.{Follow}
use Rattle.fab_transit.specs.MixedWalks.{Change, Standing, MayTake, LeadsOn, standing_after, IsMixedWalk, ComesTo, IsOnMixedWalk, DependsMixed}
use Rattle.fab_transit.specs.Walking.{IsTakenOn}

follows : (vs : List VirtualChannel) (v u : VirtualChannel) → Follow ((vs ++ v ∷ []) ++ u ∷ []) v u
follows [] v u = (0, refl, refl)
follows (w ∷ ws) v u = let f : Follow ((ws ++ v ∷ []) ++ u ∷ []) v u = follows ws v u in (suc f.0, f.1, f.2)

module _ (t : Topology) (m : Change) (lid of_level : ℕ) where
  abbrev After : VirtualChannel → Standing
  After v = standing_after t v.channel.0

  -- a step more
  leads_further : (vs : List VirtualChannel) (here mid : Standing) (v : VirtualChannel) → LeadsOn t m lid of_level here vs mid → MayTake t m lid of_level mid v →
      LeadsOn t m lid of_level here (vs ++ v ∷ []) (standing_after t v.channel.0)
  leads_further [] here mid v leads takes = (subst (λ s. MayTake t m lid of_level s v) (sym leads) takes, refl)
  leads_further (u ∷ us) here mid v leads takes = (leads.0, leads_further us (standing_after t u.channel.0) mid v leads.1 takes)

  walk_further : (p : TerminalRow) (vs : List VirtualChannel) (there : Standing) (v : VirtualChannel) → IsMixedWalk t m p lid of_level vs there → MayTake t m lid of_level there v →
      IsMixedWalk t m p lid of_level (vs ++ v ∷ []) (standing_after t v.channel.0)
  walk_further p vs there v walk takes = record {
    path = walk.path;
    level = walk.level;
    leads = leads_further vs (record { at = p.switch.0; from = p.port }) there v walk.leads takes;
  }

  pub comes_further : (there : Standing) (v : VirtualChannel) → ComesTo t m lid of_level there → MayTake t m lid of_level there v → ComesTo t m lid of_level (standing_after t v.channel.0)
  comes_further there v comes takes = (comes.0, comes.1 ++ v ∷ [], walk_further comes.0 comes.1 there v comes.2 takes)

  -- what is taken is on a walk
  pub on_walk : (there : Standing) (v : VirtualChannel) → ComesTo t m lid of_level there → MayTake t m lid of_level there v → IsOnMixedWalk t m v
  on_walk there v comes takes = (
    comes.0,
    lid,
    of_level,
    comes.1 ++ v ∷ [],
    standing_after t v.channel.0,
    walk_further comes.0 comes.1 there v comes.2 takes,
    Contains-append_right comes.1 (v ∷ []) v (0, omega arith, refl),
  )

  -- and what is taken next depends
  pub depends_next : (there : Standing) (v u : VirtualChannel) → ComesTo t m lid of_level there → MayTake t m lid of_level there v → MayTake t m lid of_level (standing_after t v.channel.0) u →
      DependsMixed t m v u
  depends_next there v u comes takes next = (
    comes.0,
    lid,
    of_level,
    (comes.1 ++ v ∷ []) ++ u ∷ [],
    standing_after t u.channel.0,
    walk_further comes.0 (comes.1 ++ v ∷ []) (standing_after t v.channel.0) u (walk_further comes.0 comes.1 there v comes.2 takes) next,
    follows comes.1 v u,
  )

  -- cut before one of the virtual channels
  cut : (vs : List VirtualChannel) (here there : Standing) (v : VirtualChannel) (k : ℕ) → LeadsOn t m lid of_level here vs there → slice_get vs k ≡ Some v →
      (mid : Standing) × (us : List VirtualChannel) × LeadsOn t m lid of_level here us mid × MayTake t m lid of_level mid v
  cut [] here there v k leads at = absurd (none-some v at)
  cut (w ∷ ws) here there v zero leads at = (here, [], refl, subst (λ x. MayTake t m lid of_level here x) (same_Some w v at) leads.0)
  cut (w ∷ ws) here there v (suc k) leads at =
      let x : (mid : Standing) × (us : List VirtualChannel) × LeadsOn t m lid of_level (standing_after t w.channel.0) us mid × MayTake t m lid of_level mid v
      = cut ws (standing_after t w.channel.0) there v k leads.1 at in
      (x.0, w ∷ x.1, (leads.0, x.2), x.3)

  -- the next one is taken behind it
  next : (vs : List VirtualChannel) (here there : Standing) (v u : VirtualChannel) (k : ℕ) → LeadsOn t m lid of_level here vs there → slice_get vs k ≡ Some v → slice_get vs (suc k) ≡ Some u →
      MayTake t m lid of_level (standing_after t v.channel.0) u
  next [] here there v u k leads at then = absurd (none-some v at)
  next (w ∷ []) here there v u zero leads at then = absurd (none-some u then)
  next (w ∷ x ∷ xs) here there v u zero leads at then =
      subst (λ (y : VirtualChannel). MayTake t m lid of_level (standing_after t y.channel.0) u) (same_Some w v at)
      (subst (λ y. MayTake t m lid of_level (standing_after t w.channel.0) y) (same_Some x u then) leads.1.0)
  next (w ∷ ws) here there v u (suc k) leads at then = next ws (standing_after t w.channel.0) there v u k leads.1 at then

-- a virtual channel on a walk is taken somewhere
pub taken_on_walk : (t : Topology) (m : Change) (v : VirtualChannel) → IsOnMixedWalk t m v → (lid of_level : ℕ) × IsTakenOn t m lid (record { hop = v; level = of_level })
taken_on_walk t m v on =
    let walk : IsMixedWalk t m on.0 on.1 on.2 on.3 on.4 = on.5 in
    let x = cut t m on.1 on.2 on.3 (record { at = on.0.switch.0; from = on.0.port }) on.4 v on.6.0 walk.leads (slice_get-get_or on.3 on.6.0 v on.6.1 ∙ ap (λ (y : VirtualChannel). Some y) on.6.2) in
    (on.1, on.2, (x.0, (on.0, x.1, record { path = walk.path; level = walk.level; leads = x.2 }), x.3))

-- of two that follow each other the first is taken, and then the second
pub taken_in_turn : (t : Topology) (m : Change) (v u : VirtualChannel) → DependsMixed t m v u →
    (lid of_level : ℕ) × IsTakenOn t m lid (record { hop = v; level = of_level }) × MayTake t m lid of_level (standing_after t v.channel.0) u
taken_in_turn t m v u d =
    let walk : IsMixedWalk t m d.0 d.1 d.2 d.3 d.4 = d.5 in
    let follow : Follow d.3 v u = d.6 in
    let begins : Standing = record { at = d.0.switch.0; from = d.0.port } in
    let x = cut t m d.1 d.2 d.3 begins d.4 v follow.0 walk.leads follow.1 in
    (d.1, d.2, (x.0, (d.0, x.1, record { path = walk.path; level = walk.level; leads = x.2 }), x.3), next t m d.1 d.2 d.3 begins d.4 v u follow.0 walk.leads follow.1 follow.2)
