-- Packets that wait: of which packets the least moves, and the ring to which they lead where none does.
use Rattle.std.proofs.Common.{◌≡◌, ℕ, zero, suc, ◌<◌, ◌⊎◌, inl, inr, true, false, List, length, refl, sym, ◌∙◌, ap, subst, arith, Some, None, Option}
use Rattle.std.specs.Prelude.{IsSome, is_some}
use Rattle.fab_graph.specs.Least.{IsLeast}
use Rattle.fab_graph.proofs.Decided.{Decided, equivalent, both, equal, least_of}
use Rattle.fab_graph.proofs.Graphs.{one_least}
use Rattle.fab_model.specs.Topology.{Topology}
use Rattle.fab_tables.specs.declared.plan.Plan.{Plan}
use Rattle.fab_tables.specs.declared.verdict.VirtualChannel.{VirtualChannel}
use Rattle.fab_tables.specs.Dependencies.{node_of}
use Rattle.fab_tables.proofs.Rows.Cells.{unsome}
use Rattle.fab_certify.proofs.Numbered.NumberedPlan.{one_node}
use Rattle.fab_drain.specs.declared.packet.Moved.{Moved}
use Rattle.fab_drain.specs.declared.packet.Moved.TheVariants.{Went, Left, Waits, Nothing}
use Rattle.fab_drain.specs.Loads.{next_of, Load, Loaded, loaded_at, channel_of_cell, IsLoad, packet_count}
use Rattle.fab_drain.specs.Moves.{moved_from, IsMove, MayMove}
use Rattle.fab_drain.specs.Drains.{IsLeastMover, IsStill, IsEmpty, IsTakenNumber, IsRingFrom, AwaitsByNode, IsWaitingRing}
use Rattle.fab_drain.proofs.Cells.{taken_place, cell_is, channel_is, some_packet}
use Rattle.fab_drain.proofs.SomeMoves.{may_leave, may_go}
use Rattle.fab_drain.proofs.Rings.{ring_from, one_ring}

-- a packet that may move stands on its virtual channel
pub mover_loaded : (t : Topology) (p : Plan) (load : Load) (v : VirtualChannel) → MayMove t p load v → (x : Loaded) × (loaded_at load v ≡ Some x)
mover_loaded t p load v may = go (loaded_at load v) refl may
  where
    go : (o : Option Loaded) → loaded_at load v ≡ o → IsMove (moved_from t p load v o).0 → (x : Loaded) × (loaded_at load v ≡ Some x)
    go None e m = absurd m
    go (Some x) e m = (x, e)

pub some_of : {A : Type 0} (o : Option A) → IsSome o → (x : A) × (o ≡ Some x)
some_of None h = cc
some_of (Some x) h = (x, refl)

pub is_some_of : {A : Type 0} (o : Option A) (x : A) → o ≡ Some x → IsSome o
is_some_of o x e = ap is_some e

-- ---- one least mover

pub one_mover : (t : Topology) (p : Plan) (load : Load) (v w : VirtualChannel) → IsLeastMover t p load v → IsLeastMover t p load w → v ≡ w
one_mover t p load v w x y =
    let a : (x : Loaded) × (loaded_at load v ≡ Some x) = mover_loaded t p load v x.moves in
    let b : (x : Loaded) × (loaded_at load w ≡ Some x) = mover_loaded t p load w y.moves in
    one_node load.count v w (taken_place load v a.0 a.1).0 (taken_place load w b.0 b.1).0 (omega (arith, x.least w y.moves, y.least v x.moves))

move_decided : (m : Moved) → Decided (IsMove m)
move_decided Went = inl tt
move_decided Left = inl tt
move_decided Waits = inr (λ x. x)
move_decided Nothing = inr (λ x. x)

-- whether a decided fact holds of a number below a bound
some_below : (P : ℕ → Type 0) → ((k : ℕ) → Decided (P k)) → (n : ℕ) → ((k : ℕ) × (k < n) × P k) ⊎ ((k : ℕ) → k < n → ¬ P k)
some_below P decide zero = inr (λ k h. absurd (omega (arith, h)))
some_below P decide (suc n) = go (decide n) (some_below P decide n)
  where
    same_or_less : (k : ℕ) → k < suc n → (k ≡ n) ⊎ (k < n)
    same_or_less k h = grind arith

    go : Decided (P n) → ((k : ℕ) × (k < n) × P k) ⊎ ((k : ℕ) → k < n → ¬ P k) → ((k : ℕ) × (k < suc n) × P k) ⊎ ((k : ℕ) → k < suc n → ¬ P k)
    go d (inl found) = inl (found.0, omega (arith, found.1), found.2)
    go (inl x) (inr none) = inl (n, omega arith, x)
    go (inr refuted) (inr none) = inr (λ k h x. elim (same_or_less k h) [ inl e ↦ refuted (subst P e x) | inr less ↦ none k less x ])

module _ (t : Topology) (p : Plan) (load : Load) (good : IsLoad t p load) where
  abbrev channel : ℕ → VirtualChannel
  channel k = channel_of_cell load.count k

  cell_of : (k : ℕ) → k < length load.cells → (node_of load.count (channel k) ≡ k) × ((channel k).lane < load.count)
  cell_of k h = cell_is (length t.channels) load.count k (omega (arith, h, good.each))

  -- by cells
  abbrev MovesAt : ℕ → Type 0
  MovesAt k = MayMove t p load (channel k)

  moves_at : (v : VirtualChannel) → MayMove t p load v → (node_of load.count v < length load.cells) × MovesAt (node_of load.count v)
  moves_at v may =
      let x : (x : Loaded) × (loaded_at load v ≡ Some x) = mover_loaded t p load v may in
      ((taken_place load v x.0 x.1).1, subst (λ w. MayMove t p load w) (sym (channel_is load.count v (taken_place load v x.0 x.1).0)) may)

  -- some packet is the least that may move, or none may
  pub mover_or_still : ((v : VirtualChannel) × IsLeastMover t p load v) ⊎ IsStill t p load
  mover_or_still = go (some_below MovesAt (λ k. move_decided _) (length load.cells))
    where
      go : ((k : ℕ) × (k < length load.cells) × MovesAt k) ⊎ ((k : ℕ) → k < length load.cells → ¬ MovesAt k) → ((v : VirtualChannel) × IsLeastMover t p load v) ⊎ IsStill t p load
      go (inr none) = inr (λ v may. none (node_of load.count v) (moves_at v may).0 (moves_at v may).1)
      go (inl found) =
          let first : (k : ℕ) × IsLeast MovesAt k = least_of MovesAt (λ k. move_decided _) found.0 found.2 in
          let low : first.0 < length load.cells = omega (arith, first.1.least found.0 found.2, found.1) in
          inl (channel first.0, record { moves = first.1.holds; least = λ w may. omega (arith, first.1.least (node_of load.count w) (moves_at w may).1, (cell_of first.0 low).0) })

  -- ---- the ring of a still load

  taken_decided : (k : ℕ) → Decided (IsTakenNumber load k)
  taken_decided k =
      equivalent (IsSome (loaded_at load (channel k)) × (node_of load.count (channel k) ≡ k)) (IsTakenNumber load k)
      (λ x. (channel k, x.0, x.1))
      (λ x. let y : (y : Loaded) × (loaded_at load x.0 ≡ Some y) = some_of (loaded_at load x.0) x.1 in
      let same : x.0 ≡ channel k = sym (channel_is load.count x.0 (taken_place load x.0 y.0 y.1).0) ∙ ap channel x.2 in
      (subst (λ v. IsSome (loaded_at load v)) same x.1, ap (λ v. node_of load.count v) (sym same) ∙ x.2))
      (both (IsSome (loaded_at load (channel k))) (node_of load.count (channel k) ≡ k) (some_decided (loaded_at load (channel k))) (equal (node_of load.count (channel k)) k))
    where
      some_decided : (o : Option Loaded) → Decided (IsSome o)
      some_decided None = inr (λ x. false_true x)
        where
          false_true : false ≡ true → ⊥
          false_true x = cc
      some_decided (Some x) = inl refl

  -- in a still load each packet awaits the virtual channel of another one
  pub awaits_some : IsStill t p load → (a : ℕ) → IsTakenNumber load a → (b : ℕ) × AwaitsByNode t p load a b × IsTakenNumber load b
  awaits_some still a taken = go (next_of t p x.0.packet) refl
    where
      v : VirtualChannel
      v = taken.0

      x : (x : Loaded) × (loaded_at load taken.0 ≡ Some x)
      x = some_of (loaded_at load taken.0) taken.1

      at : (w : VirtualChannel) → next_of t p x.0.packet ≡ Some w → (o : Option Loaded) → loaded_at load w ≡ o → (b : ℕ) × AwaitsByNode t p load a b × IsTakenNumber load b
      at w after None e = absurd (still taken.0 (may_go t p load taken.0 w x.0 x.1 after e))
      at w after (Some y) e =
          let some : IsSome (loaded_at load w) = is_some_of (loaded_at load w) y e in
          (node_of load.count w, (taken.0, w, (x.0, x.1, after, some), taken.2, refl), (w, some, refl))

      go : (o : Option VirtualChannel) → next_of t p x.0.packet ≡ o → (b : ℕ) × AwaitsByNode t p load a b × IsTakenNumber load b
      go None after = absurd (still taken.0 (may_leave t p load taken.0 x.0 x.1 after))
      go (Some w) after = at w after (loaded_at load w) refl

  pub taken_below : (a : ℕ) → IsTakenNumber load a → a < length load.cells
  taken_below a taken =
      let x : (x : Loaded) × (loaded_at load taken.0 ≡ Some x) = some_of (loaded_at load taken.0) taken.1 in
      omega (arith, (taken_place load taken.0 x.0 x.1).1, taken.2)

  pub waiting_ring : IsStill t p load → ¬ IsEmpty load → (ring : List ℕ) × IsWaitingRing t p load ring
  waiting_ring still some =
      let packet : (v : VirtualChannel) × (x : Loaded) × (loaded_at load v ≡ Some x) = some_packet load (length t.channels) good.each (positive (packet_count load) some) in
      let start : (k : ℕ) × IsLeast (IsTakenNumber load) k = least_of (IsTakenNumber load) taken_decided (node_of load.count packet.0) (packet.0, is_some_of (loaded_at load packet.0) packet.1 packet.2, refl) in
      let ring : (ring : List ℕ) × IsRingFrom (AwaitsByNode t p load) start.0 ring = ring_from (AwaitsByNode t p load) (IsTakenNumber load) (awaits_some still) (length load.cells) taken_below start.0 start.1.holds in
      (ring.0, (start.0, start.1, ring.1))
    where
      positive : (n : ℕ) → ¬ (n ≡ 0) → 0 < n
      positive zero none = absurd (none refl)
      positive (suc n) none = omega arith

-- ---- one ring

-- each packet awaits one virtual channel
one_awaited : (t : Topology) (p : Plan) (load : Load) (a b c : ℕ) → AwaitsByNode t p load a b → AwaitsByNode t p load a c → b ≡ c
one_awaited t p load a b c x y =
    let here : x.0 ≡ y.0 = one_node load.count x.0 y.0 (taken_place load x.0 x.2.0 x.2.1).0 (taken_place load y.0 y.2.0 y.2.1).0 (x.3 ∙ sym y.3) in
    let same : x.2.0 ≡ y.2.0 = unsome x.2.0 y.2.0 (sym x.2.1 ∙ ap (λ v. loaded_at load v) here ∙ y.2.1) in
    let next : x.1 ≡ y.1 = unsome x.1 y.1 (sym x.2.2 ∙ ap (λ (z : Loaded). next_of t p z.packet) same ∙ y.2.2) in
    sym x.4 ∙ ap (λ v. node_of load.count v) next ∙ y.4

pub one_waiting_ring : (t : Topology) (p : Plan) (load : Load) (xs ys : List ℕ) → IsWaitingRing t p load xs → IsWaitingRing t p load ys → xs ≡ ys
one_waiting_ring t p load xs ys x y =
    let start : y.0 ≡ x.0 = one_least (IsTakenNumber load) y.0 x.0 y.1 x.1 in
    one_ring (AwaitsByNode t p load) (one_awaited t p load) x.0 xs ys x.2 (subst (λ s. IsRingFrom (AwaitsByNode t p load) s ys) start y.2)
