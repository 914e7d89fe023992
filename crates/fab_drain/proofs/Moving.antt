-- Moves keep loads, and take one from the sum of the remaining hops.
use Rattle.std.proofs.Common.{◌≡◌, ℕ, zero, suc, ◌+◌, ◌-◌, ◌<◌, ◌≤◌, inl, inr, List, [], ◌∷◌, length, map, refl, sym, ◌∙◌, ap, subst, arith, Some, None, Option}
use Rattle.std.specs.Prelude.{slice_get, slice_index_or, IfSome}
use Rattle.std.proofs.Math.ListN.{length-set}
use Rattle.std.proofs.lemmas.Bool.{cases_lt}
use Rattle.std.proofs.lemmas.List.{length-map}
use Rattle.std.proofs.lemmas.Option.{slice_get_within, slice_get-get_or}
use Rattle.fab_model.specs.Topology.{Topology}
use Rattle.fab_model.specs.WellFormed.{IsFabric}
use Rattle.fab_tables.specs.declared.plan.Plan.{Plan}
use Rattle.fab_tables.specs.declared.verdict.VirtualChannel.{VirtualChannel}
use Rattle.fab_tables.specs.Dependencies.{node_of}
use Rattle.fab_tables.specs.Reading.{count_read}
use Rattle.fab_tables.proofs.Verdicts.CertifiedLaws.{none_some}
use Rattle.fab_drain.specs.declared.packet.Packet.{Packet}
use Rattle.fab_certify.specs.Certificate.{IsSoundPlan}
use Rattle.fab_drain.specs.Loads.{hops_of, stand_of, next_of, IsPacket, Load, Loaded, IsPlace, loaded_at, loaded_with, with_cell, emptied, hops_in_cell, hops_left, StandsOn, IsLoad}
use Rattle.fab_drain.specs.Moves.{one_on, went_to, moved_on, moved_from, IsMove}
use Rattle.fab_drain.specs.Laws.{MovesKeepLoads, MovesTakeOneHop, EmptiedIsLoad}
use Rattle.fab_drain.proofs.Setting.{sum-set}
use Rattle.fab_drain.proofs.Cells.{taken_place, read_there, read_past, read_after, node_below}
use Rattle.fab_drain.proofs.PacketHops.{hop_there}

-- a cell gets a packet that stands there, or none
pub with_keeps : (t : Topology) (p : Plan) (load : Load) (v : VirtualChannel) (new : Option Loaded) → IsLoad t p load → IsPlace load v → IfSome new (StandsOn t p v) →
    IsLoad t p (with_cell load v new)
with_keeps t p load v new good at stands = record {
  fabric = good.fabric;
  count = good.count;
  each = length-set load.cells (node_of load.count v) new ∙ good.each;
  stand = λ w. elim (read_after load v w new at) [
    | inl here ↦ subst (λ o. IfSome o (StandsOn t p w)) (sym here.1) (subst (λ u. IfSome new (StandsOn t p u)) here.0 stands)
    | inr there ↦ subst (λ o. IfSome o (StandsOn t p w)) (sym there) (good.stand w)
  ];
}

pub emptied_is_load : EmptiedIsLoad
emptied_is_load t p load good = record {
  fabric = good.fabric;
  count = good.count;
  each = length-map load.cells (λ (cell : Option Loaded). None) ∙ good.each;
  stand = λ v. subst (λ o. IfSome o (StandsOn t p v)) (sym (none v)) tt;
}
  where
    all_none : (cells : List (Option Loaded)) (k : ℕ) → slice_index_or (map {B = Option Loaded} (λ (cell : Option Loaded). None) cells) k None ≡ None
    all_none [] k = refl
    all_none (x ∷ xs) zero = refl
    all_none (x ∷ xs) (suc k) = all_none xs k

    none : (v : VirtualChannel) → loaded_at (emptied load) v ≡ None
    none v = elim (cases_lt v.lane load.count) [
      | inl low ↦ read_there (emptied load) v low ∙ all_none load.cells (node_of load.count v)
      | inr past ↦ read_past (emptied load) v past
    ]

-- a packet has a cell to stand on
pub stand_place : (t : Topology) (p : Plan) (load : Load) (packet : Packet) (v : VirtualChannel) → IsSoundPlan t p → IsLoad t p load → IsPacket t p packet → stand_of t p packet ≡ Some v → IsPlace load v
stand_place t p load packet v admitted good is stands =
    let there : (v.channel.0 < length t.channels) × (v.lane < count_read p.lanes) = hop_there t p good.fabric admitted packet packet.position v is stands in
    let low : v.lane < load.count = omega (arith, there.1, good.count) in
    (low, omega (arith, node_below (length t.channels) load.count v there.0 low, good.each))

-- ---- the packet on a virtual channel, where it stands and where it goes

module _ (t : Topology) (p : Plan) (load : Load) (is : IsFabric t) (admitted : IsSoundPlan t p) (good : IsLoad t p load) where
  pub stands_there : (v : VirtualChannel) (x : Loaded) → loaded_at load v ≡ Some x → StandsOn t p v x
  stands_there v x e = subst (λ o. IfSome o (StandsOn t p v)) e (good.stand v)

  -- the next virtual channel has a cell
  pub next_place : (v w : VirtualChannel) (x : Loaded) → loaded_at load v ≡ Some x → next_of t p x.packet ≡ Some w → IsPlace load w
  next_place v w x e after =
      let there : (w.channel.0 < length t.channels) × (w.lane < count_read p.lanes) = hop_there t p is admitted x.packet (suc x.packet.position) w (stands_there v x e).is_packet after in
      let low : w.lane < load.count = omega (arith, there.1, good.count) in
      (low, omega (arith, node_below (length t.channels) load.count w there.0 low, good.each))

  -- the packet one hop further stands on the next virtual channel
  stands_next : (v w : VirtualChannel) (x : Loaded) → loaded_at load v ≡ Some x → next_of t p x.packet ≡ Some w → StandsOn t p w (loaded_with t p (one_on x.packet))
  stands_next v w x e after =
      let old : IsPacket t p x.packet = (stands_there v x e).is_packet in
      let further : suc x.packet.position < length (hops_of t p x.packet) = slice_get_within (hops_of t p x.packet) (suc x.packet.position) w after in
      let next : suc x.packet.position ≡ x.packet.position + 1 = omega arith in
      record {
        is_packet = record { row = old.row; terminal = old.terminal; path = old.path; position = omega (arith, further) };
        stands = subst (λ k. slice_get (hops_of t p x.packet) k ≡ Some w) next after;
        remaining = refl;
      }

  module _ (v : VirtualChannel) where
    moved_keeps : (o : Option Loaded) → loaded_at load v ≡ o → IsLoad t p (moved_from t p load v o).1
    moved_keeps None e = good
    moved_keeps (Some x) e = on (next_of t p x.packet) refl
      where
        at : IsPlace load v
        at = taken_place load v x e

        gone : IsLoad t p (with_cell load v None)
        gone = with_keeps t p load v None good at tt

        went : (w : VirtualChannel) → next_of t p x.packet ≡ Some w → (o : Option Loaded) → IsLoad t p (went_to t p load v x w o).1
        went w after (Some y) = good
        went w after None =
            let there : IsPlace load w = next_place v w x e after in
            with_keeps t p (with_cell load v None) w (Some (loaded_with t p (one_on x.packet))) gone
            (there.0, omega (arith, there.1, length-set load.cells (node_of load.count v) None)) (stands_next v w x e after)

        on : (o : Option VirtualChannel) → next_of t p x.packet ≡ o → IsLoad t p (moved_on t p load v x o).1
        on None after = gone
        on (Some w) after = went w after (loaded_at load w)

    -- the cell that the packet leaves
    left : (x : Loaded) → loaded_at load v ≡ Some x → hops_left (with_cell load v None) + x.remaining ≡ hops_left load
    left x e =
        let at : IsPlace load v = taken_place load v x e in
        omega (arith, sum-set hops_in_cell load.cells (node_of load.count v) None None at.1, ap hops_in_cell (sym (read_there load v at.0) ∙ e))

    takes_one : (o : Option Loaded) → loaded_at load v ≡ o → IsMove (moved_from t p load v o).0 → hops_left (moved_from t p load v o).1 + 1 ≡ hops_left load
    takes_one None e m = absurd m
    takes_one (Some x) e m = on (next_of t p x.packet) refl m
      where
        stands : StandsOn t p v x
        stands = stands_there v x e

        last : next_of t p x.packet ≡ None → length (hops_of t p x.packet) ≤ suc x.packet.position
        last after = elim (cases_lt (suc x.packet.position) (length (hops_of t p x.packet))) [
          | inr h ↦ h
          | inl h ↦ absurd (none_some _ (sym after ∙ slice_get-get_or (hops_of t p x.packet) (suc x.packet.position) v h))
        ]

        went : (w : VirtualChannel) → next_of t p x.packet ≡ Some w → (o : Option Loaded) → loaded_at load w ≡ o → IsMove (went_to t p load v x w o).0 → hops_left (went_to t p load v x w o).1 + 1 ≡ hops_left load
        went w after (Some y) f n = absurd n
        went w after None f n =
            let there : IsPlace load w = next_place v w x e after in
            let between : Load = with_cell load v None in
            let empty : loaded_at between w ≡ None = (elim (read_after load v w None (taken_place load v x e)) [ inl here ↦ here.1 | inr other ↦ other ∙ f ]) in
            let free : hops_in_cell (slice_index_or between.cells (node_of load.count w) None) ≡ 0 = ap hops_in_cell (sym (read_there between w there.0) ∙ empty) in
            let within : node_of load.count w < length between.cells = omega (arith, there.1, length-set load.cells (node_of load.count v) None) in
            let further : suc x.packet.position < length (hops_of t p x.packet) = slice_get_within (hops_of t p x.packet) (suc x.packet.position) w after in
            let put : hops_left (with_cell between w (Some (loaded_with t p (one_on x.packet)))) + hops_in_cell (slice_index_or between.cells (node_of load.count w) None)
            ≡ hops_left between + (length (hops_of t p x.packet) - (x.packet.position + 1))
            = sum-set hops_in_cell between.cells (node_of load.count w) (Some (loaded_with t p (one_on x.packet))) None within in
            omega (arith, put, free, further, left x e, stands.remaining)

        on : (o : Option VirtualChannel) → next_of t p x.packet ≡ o → IsMove (moved_on t p load v x o).0 → hops_left (moved_on t p load v x o).1 + 1 ≡ hops_left load
        on None after n = omega (arith, left x e, stands.remaining, last after, stands.is_packet.position)
        on (Some w) after n = went w after (loaded_at load w) refl n

pub moves_keep_loads : MovesKeepLoads
moves_keep_loads t p load v is fits admitted good = moved_keeps t p load is admitted good v (loaded_at load v) refl

pub moves_take_one_hop : MovesTakeOneHop
moves_take_one_hop t p load v is fits admitted good may = takes_one t p load is admitted good v (loaded_at load v) refl may
