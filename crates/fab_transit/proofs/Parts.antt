-- What a packet may do where it stands: by the entry of each plan, and along a channel by the map of each plan.
use Rattle.std.proofs.Common.{◌≡◌, ◌≢◌, ℕ, ◌<◌, ◌≤◌, refl, sym, ◌∙◌, ap, subst, inl, inr, ◌⊎◌, arith, Option, Result, Ok, Err}
use Rattle.std.specs.Prelude.{OnOk}
use Rattle.fab_model.specs.Topology.{Topology, lid_id, switch_id}
use Rattle.fab_tables.specs.declared.end.End.{End}
use Rattle.fab_tables.specs.declared.end.End.TheVariants.{Delivered}
use Rattle.fab_tables.specs.declared.verdict.VirtualChannel.{VirtualChannel}
use Rattle.fab_tables.specs.Dependencies.{node_of}
use Rattle.fab_tables.specs.Route.Hop.{Along, Stop}
use Rattle.fab_tables.specs.VirtualChannels.{virtual_channel}
use Rattle.fab_certify.specs.Collected.{Collected, AddsHop}
use Rattle.fab_transit.specs.declared.mixed.Side.{Side}
use Rattle.fab_transit.specs.declared.mixed.Side.TheVariants.{Old, New}
use Rattle.fab_transit.specs.declared.faults.Wrong.{Wrong}
use Rattle.fab_transit.specs.declared.faults.Wrong.TheVariants.{Entry, Lane}
use Rattle.fab_transit.specs.declared.faults.Fault.{Fault}
use Rattle.fab_transit.specs.declared.walks.Walks.{Walks}
use Rattle.fab_transit.specs.MixedWalks.{Change, bound, Standing, hop_of, lane_along}
use Rattle.fab_transit.specs.Faults.{Notes}
use Rattle.fab_transit.specs.Finding.{Findings, FindsOneMore}
use Rattle.fab_transit.specs.Walking.{TakesBy, IsBadBy, TakesFrom, IsWrongFrom, Takes, IsWrong, LooksAt}
use Rattle.fab_transit.proofs.Looking.{nothing, one_fault, one_step, in_turn}

along_same : (c d : ℕ) → Along c ≡ Along d → c ≡ d
along_same c d e = cc

stop_same : (a b : End) → Stop a ≡ Stop b → a ≡ b
stop_same a b e = cc

along_stop : (c : ℕ) (e : End) → Along c ≡ Stop e → ⊥
along_stop c e is = cc

module _ (t : Topology) (m : Change) (lid of_level : ℕ) (here : Standing) (held : Option ℕ) where
  abbrev pub fault_at : Wrong → Side → Fault
  fault_at wrong side = record { wrong = wrong; lid = lid_id lid; at = switch_id here.at; side = side }

  -- along a channel, by the map of a plan: the lane isn't good
  pub bad_by : (side : Side) (c lane : ℕ) → lane ≡ lane_along t m side of_level here c → bound m ≤ lane → (f : Findings) (w : Walks) (new : Option Fault) → Notes w.fault (fault_at Lane side) new →
      LooksAt (TakesBy t m lid of_level here side c) (IsBadBy t m lid of_level here side c) m of_level held f f w (record { dependencies = w.dependencies; fault = new })
  bad_by side c lane is bad f w new notes =
      one_fault (TakesBy t m lid of_level here side c) (IsBadBy t m lid of_level here side c) m of_level held (fault_at Lane side)
      (λ v s. omega (arith, is, bad, s.1, s.2)) (refl, omega (arith, is, bad)) (λ y h. h.0) f w new notes

  -- or it is
  pub good_by : (side : Side) (hop : VirtualChannel) → hop.lane ≡ lane_along t m side of_level here hop.channel.0 → hop.lane < bound m → (f g : Findings) (w : Walks) (new : Collected) →
      AddsHop held (node_of (bound m) hop) w.dependencies new → FindsOneMore f (record { hop = hop; level = of_level }) g →
      LooksAt (TakesBy t m lid of_level here side hop.channel.0) (IsBadBy t m lid of_level here side hop.channel.0) m of_level held f g w (record { dependencies = new; fault = w.fault })
  good_by side hop is good f g w new adds finds =
      one_step (TakesBy t m lid of_level here side hop.channel.0) (IsBadBy t m lid of_level here side hop.channel.0) m of_level held hop
      (refl, sym is, good) only (λ x h. omega (arith, is, good, h.1)) f g w new adds finds
    where
      only : (v : VirtualChannel) → TakesBy t m lid of_level here side hop.channel.0 v → v ≡ hop
      only v s = ap (λ (k : ℕ). virtual_channel k v.lane) s.0 ∙ ap (λ (k : ℕ). virtual_channel hop.channel.0 k) (sym s.1 ∙ sym is)

  -- by the entry of a plan, which leads along a channel
  module _ (side : Side) (c : ℕ) (leads : hop_of t m lid side here.at ≡ Along c) where
    parts : (v : VirtualChannel) → TakesFrom t m lid of_level here side v → TakesBy t m lid of_level here Old c v ⊎ TakesBy t m lid of_level here New c v
    parts v s = by_map s.2.0 (subst (λ d. TakesBy t m lid of_level here s.2.0 d v) (along_same s.0 c (sym s.1 ∙ leads)) s.2.1)
      where
        by_map : (map_side : Side) → TakesBy t m lid of_level here map_side c v → TakesBy t m lid of_level here Old c v ⊎ TakesBy t m lid of_level here New c v
        by_map Old h = inl h
        by_map New h = inr h

    fault_parts : (x : Fault) → IsWrongFrom t m lid of_level here side x → IsBadBy t m lid of_level here Old c x ⊎ IsBadBy t m lid of_level here New c x
    fault_parts x (inl lost) = absurd (along_stop c lost.0 (sym leads ∙ lost.1))
    fault_parts x (inr bad) = by_map bad.2.0 (subst (λ d. IsBadBy t m lid of_level here bad.2.0 d x) (along_same bad.0 c (sym bad.1 ∙ leads)) bad.2.1)
      where
        by_map : (map_side : Side) → IsBadBy t m lid of_level here map_side c x → IsBadBy t m lid of_level here Old c x ⊎ IsBadBy t m lid of_level here New c x
        by_map Old h = inl h
        by_map New h = inr h

    pub both_maps : (f0 f1 f2 : Findings) (w0 w1 w2 : Walks) → LooksAt (TakesBy t m lid of_level here Old c) (IsBadBy t m lid of_level here Old c) m of_level held f0 f1 w0 w1 →
        LooksAt (TakesBy t m lid of_level here New c) (IsBadBy t m lid of_level here New c) m of_level held f1 f2 w1 w2 →
        LooksAt (TakesFrom t m lid of_level here side) (IsWrongFrom t m lid of_level here side) m of_level held f0 f2 w0 w2
    both_maps f0 f1 f2 w0 w1 w2 old new =
        in_turn (TakesFrom t m lid of_level here side) (TakesBy t m lid of_level here Old c) (TakesBy t m lid of_level here New c)
        (IsWrongFrom t m lid of_level here side) (IsBadBy t m lid of_level here Old c) (IsBadBy t m lid of_level here New c)
        m of_level held f0 f1 f2 w0 w1 w2 parts (λ v h. (c, leads, (Old, h))) (λ v h. (c, leads, (New, h)))
        fault_parts (λ x h. inr (c, leads, (Old, h))) (λ x h. inr (c, leads, (New, h))) old new

  -- or ends the walk
  module _ (side : Side) (end : End) (stops : hop_of t m lid side here.at ≡ Stop end) where
    no_step : (v : VirtualChannel) → ¬ TakesFrom t m lid of_level here side v
    no_step v s = along_stop s.0 end (sym s.1 ∙ stops)

    -- delivered
    pub delivered : end ≡ Delivered → (f : Findings) (w : Walks) → LooksAt (TakesFrom t m lid of_level here side) (IsWrongFrom t m lid of_level here side) m of_level held f f w w
    delivered is f w = nothing (TakesFrom t m lid of_level here side) (IsWrongFrom t m lid of_level here side) m of_level held no_step no_fault f w
      where
        no_fault : (x : Fault) → ¬ IsWrongFrom t m lid of_level here side x
        no_fault x (inl lost) = lost.2 (sym (stop_same end lost.0 (sym stops ∙ lost.1)) ∙ is)
        no_fault x (inr bad) = along_stop bad.0 end (sym bad.1 ∙ stops)

    -- or lost
    pub lost : end ≢ Delivered → (f : Findings) (w : Walks) (new : Option Fault) → Notes w.fault (fault_at (Entry end) side) new →
        LooksAt (TakesFrom t m lid of_level here side) (IsWrongFrom t m lid of_level here side) m of_level held f f w (record { dependencies = w.dependencies; fault = new })
    lost differs f w new notes =
        one_fault (TakesFrom t m lid of_level here side) (IsWrongFrom t m lid of_level here side) m of_level held (fault_at (Entry end) side) no_step (inl (end, stops, differs, refl)) only f w new notes
      where
        only : (y : Fault) → IsWrongFrom t m lid of_level here side y → y ≡ fault_at (Entry end) side
        only y (inl other) = other.3 ∙ ap (λ (e : End). fault_at (Entry e) side) (stop_same other.0 end (sym other.1 ∙ stops))
        only y (inr bad) = absurd (along_stop bad.0 end (sym bad.1 ∙ stops))

  -- by both entries
  pub both_entries : (f0 f1 f2 : Findings) (w0 w1 w2 : Walks) → LooksAt (TakesFrom t m lid of_level here Old) (IsWrongFrom t m lid of_level here Old) m of_level held f0 f1 w0 w1 →
      LooksAt (TakesFrom t m lid of_level here New) (IsWrongFrom t m lid of_level here New) m of_level held f1 f2 w1 w2 →
      LooksAt (Takes t m lid of_level here) (IsWrong t m lid of_level here) m of_level held f0 f2 w0 w2
  both_entries f0 f1 f2 w0 w1 w2 old new =
      in_turn (Takes t m lid of_level here) (TakesFrom t m lid of_level here Old) (TakesFrom t m lid of_level here New)
      (IsWrong t m lid of_level here) (IsWrongFrom t m lid of_level here Old) (IsWrongFrom t m lid of_level here New)
      m of_level held f0 f1 f2 w0 w1 w2 (λ v s. step_side v s.0 s.1) (λ v h. (Old, h)) (λ v h. (New, h))
      (λ x h. fault_side x h.0 h.1) (λ x h. (Old, h)) (λ x h. (New, h)) old new
    where
      step_side : (v : VirtualChannel) (side : Side) → TakesFrom t m lid of_level here side v → TakesFrom t m lid of_level here Old v ⊎ TakesFrom t m lid of_level here New v
      step_side v Old h = inl h
      step_side v New h = inr h

      fault_side : (x : Fault) (side : Side) → IsWrongFrom t m lid of_level here side x → IsWrongFrom t m lid of_level here Old x ⊎ IsWrongFrom t m lid of_level here New x
      fault_side x Old h = inl h
      fault_side x New h = inr h

-- as the calls answer
pub entries_answer : {T E : Type 0} (r : Result T E) (t : Topology) (m : Change) (lid of_level : ℕ) (here : Standing) (held : Option ℕ) (f0 f1 f2 : Findings) (w0 w1 w2 : Walks) →
    LooksAt (TakesFrom t m lid of_level here Old) (IsWrongFrom t m lid of_level here Old) m of_level held f0 f1 w0 w1 →
    OnOk r (LooksAt (TakesFrom t m lid of_level here New) (IsWrongFrom t m lid of_level here New) m of_level held f1 f2 w1 w2) →
    OnOk r (LooksAt (Takes t m lid of_level here) (IsWrong t m lid of_level here) m of_level held f0 f2 w0 w2)
entries_answer (Ok x) t m lid of_level here held f0 f1 f2 w0 w1 w2 old new = both_entries t m lid of_level here held f0 f1 f2 w0 w1 w2 old new
entries_answer (Err x) t m lid of_level here held f0 f1 f2 w0 w1 w2 old new = tt

pub maps_answer : {T E : Type 0} (r : Result T E) (t : Topology) (m : Change) (lid of_level : ℕ) (here : Standing) (held : Option ℕ) (side : Side) (c : ℕ) → hop_of t m lid side here.at ≡ Along c →
    (f0 f1 f2 : Findings) (w0 w1 w2 : Walks) →
    LooksAt (TakesBy t m lid of_level here Old c) (IsBadBy t m lid of_level here Old c) m of_level held f0 f1 w0 w1 →
    OnOk r (LooksAt (TakesBy t m lid of_level here New c) (IsBadBy t m lid of_level here New c) m of_level held f1 f2 w1 w2) →
    OnOk r (LooksAt (TakesFrom t m lid of_level here side) (IsWrongFrom t m lid of_level here side) m of_level held f0 f2 w0 w2)
maps_answer (Ok x) t m lid of_level here held side c leads f0 f1 f2 w0 w1 w2 old new = both_maps t m lid of_level here held side c leads f0 f1 f2 w0 w1 w2 old new
maps_answer (Err x) t m lid of_level here held side c leads f0 f1 f2 w0 w1 w2 old new = tt

pub step_answer : {T E : Type 0} (r : Result T E) (t : Topology) (m : Change) (lid of_level : ℕ) (here : Standing) (held : Option ℕ) (side : Side) (hop : VirtualChannel) → hop.lane ≡ lane_along t m side of_level here hop.channel.0 → hop.lane < bound m →
    (f g : Findings) (w : Walks) (new : Collected) → AddsHop held (node_of (bound m) hop) w.dependencies new → OnOk r (FindsOneMore f (record { hop = hop; level = of_level }) g) →
    OnOk r (LooksAt (TakesBy t m lid of_level here side hop.channel.0) (IsBadBy t m lid of_level here side hop.channel.0) m of_level held f g w (record { dependencies = new; fault = w.fault }))
step_answer (Ok x) t m lid of_level here held side hop is good f g w new adds finds = good_by t m lid of_level here held side hop is good f g w new adds finds
step_answer (Err x) t m lid of_level here held side hop is good f g w new adds finds = tt
