-- How loads end: in one way, empty after a move for each remaining hop, or with a ring of packets that wait; on a certified plan always empty.
use Rattle.std.proofs.Common.{◌≡◌, ℕ, zero, suc, ◌+◌, ◌<◌, ◌≤◌, inl, inr, List, refl, sym, ◌∙◌, ap, subst, arith}
use Rattle.std.proofs.lemmas.Bool.{cases_eq}
use Rattle.fab_model.specs.Topology.{Topology}
use Rattle.fab_model.specs.WellFormed.{IsFabric}
use Rattle.fab_tables.specs.declared.plan.Plan.{Plan}
use Rattle.fab_tables.specs.declared.verdict.VirtualChannel.{VirtualChannel}
use Rattle.fab_tables.specs.Fit.{PlanFits}
use Rattle.fab_drain.specs.declared.state.Drained.{Drained}
use Rattle.fab_drain.specs.declared.state.Drained.TheVariants.{Empty, Waiting}
use Rattle.fab_certify.specs.Certificate.{IsSoundPlan}
use Rattle.fab_drain.specs.Loads.{Load, IsLoad, packet_count, hops_left}
use Rattle.fab_drain.specs.Moves.{advanced, MayMove}
use Rattle.fab_drain.specs.Drains.{IsLeastMover, Drains, IsStill, IsEmpty, IsWaitingRing, EndsAs}
use Rattle.fab_drain.specs.Laws.{EmptyMovesAllHops, OneDraining, LoadsEnd, CertifiedLoadsDrain}
use Rattle.fab_drain.proofs.Cells.{no_hops}
use Rattle.fab_drain.proofs.PacketHops.{certified_admitted}
use Rattle.fab_drain.proofs.Moving.{moves_keep_loads, moves_take_one_hop}
use Rattle.fab_drain.proofs.SomeMoves.{some_packet_moves}
use Rattle.fab_drain.proofs.Waiting.{one_mover, mover_or_still, waiting_ring, one_waiting_ring}

-- ---- moves one after the other

module _ (t : Topology) (p : Plan) (is : IsFabric t) (fits : PlanFits t p) (admitted : IsSoundPlan t p) where
  pub drains_keep : (n : ℕ) (old new : Load) → IsLoad t p old → Drains t p n old new → IsLoad t p new
  drains_keep zero old new good d = subst (λ load. IsLoad t p load) d good
  drains_keep (suc n) old new good d = drains_keep n (advanced t p old d.0).1 new (moves_keep_loads t p old d.0 is fits admitted good) d.2

  -- each takes a hop
  pub drains_take : (n : ℕ) (old new : Load) → IsLoad t p old → Drains t p n old new → n + hops_left new ≡ hops_left old
  drains_take zero old new good d = omega (arith, ap hops_left d)
  drains_take (suc n) old new good d =
      omega (arith, drains_take n (advanced t p old d.0).1 new (moves_keep_loads t p old d.0 is fits admitted good) d.2, moves_take_one_hop t p old d.0 is fits admitted good d.1.moves)

pub empty_moves_all_hops : EmptyMovesAllHops
empty_moves_all_hops t p old new moves is fits admitted good ends =
    omega (arith, drains_take t p is fits admitted moves old new good ends.0, no_hops new.cells ends.2)

-- one move more at the end
pub drains_more : (t : Topology) (p : Plan) (n : ℕ) (old mid : Load) (v : VirtualChannel) → Drains t p n old mid → IsLeastMover t p mid v → Drains t p (suc n) old (advanced t p mid v).1
drains_more t p zero old mid v same mover = (v, subst (λ load. IsLeastMover t p load v) (sym same) mover, ap (λ load. (advanced t p load v).1) same)
drains_more t p (suc n) old mid v d mover = (d.0, d.1, drains_more t p n (advanced t p old d.0).1 mid v d.2 mover)

-- ---- one way

one_end : (t : Topology) (p : Plan) (m n : ℕ) (old x y : Load) → Drains t p m old x → IsStill t p x → Drains t p n old y → IsStill t p y → (m ≡ n) × (x ≡ y)
one_end t p zero zero old x y d still e also = (refl, sym d ∙ e)
one_end t p zero (suc n) old x y d still e also = absurd (still e.0 (subst (λ load. MayMove t p load e.0) d e.1.moves))
one_end t p (suc m) zero old x y d still e also = absurd (also d.0 (subst (λ load. MayMove t p load d.0) e d.1.moves))
one_end t p (suc m) (suc n) old x y d still e also =
    let same : e.0 ≡ d.0 = one_mover t p old e.0 d.0 e.1 d.1 in
    let rest : (m ≡ n) × (x ≡ y) = one_end t p m n (advanced t p old d.0).1 x y d.2 still (subst (λ v. Drains t p n (advanced t p old v).1 y) same e.2) also in
    (ap suc rest.0, rest.1)

pub one_draining : OneDraining
one_draining t p old x y (Empty m) (Empty n) is fits admitted good a b =
    let end : (m ≡ n) × (x ≡ y) = one_end t p m n old x y a.0 a.1 b.0 b.1 in
    (end.1, ap Empty end.0)
one_draining t p old x y (Empty m) (Waiting n ring) is fits admitted good a b =
    let end : (m ≡ n) × (x ≡ y) = one_end t p m n old x y a.0 a.1 b.0 b.1 in
    absurd (b.2 (subst IsEmpty end.1 a.2))
one_draining t p old x y (Waiting m ring) (Empty n) is fits admitted good a b =
    let end : (m ≡ n) × (x ≡ y) = one_end t p m n old x y a.0 a.1 b.0 b.1 in
    absurd (a.2 (subst IsEmpty (sym end.1) b.2))
one_draining t p old x y (Waiting m ring) (Waiting n other) is fits admitted good a b =
    let end : (m ≡ n) × (x ≡ y) = one_end t p m n old x y a.0 a.1 b.0 b.1 in
    (end.1, ap (λ k. Waiting k ring) end.0 ∙ ap (λ r. Waiting n r) (one_waiting_ring t p y ring other (subst (λ load. IsWaitingRing t p load ring) end.1 a.3) b.3))

-- ---- each load ends

one_more : Drained → Drained
one_more (Empty moves) = Empty (suc moves)
one_more (Waiting moves ring) = Waiting (suc moves) ring

module _ (t : Topology) (p : Plan) (is : IsFabric t) (fits : PlanFits t p) (admitted : IsSoundPlan t p) where
  abbrev Ends : Load → Type 0
  Ends load = (answer : Drained) × (new : Load) × EndsAs t p load new answer

  after_move : (load : Load) (v : VirtualChannel) → IsLeastMover t p load v → Ends (advanced t p load v).1 → Ends load
  unfolding one_more
  after_move load v mover rest = (one_more rest.0, rest.1, go rest.0 rest.2)
    where
      go : (answer : Drained) → EndsAs t p (advanced t p load v).1 rest.1 answer → EndsAs t p load rest.1 (one_more answer)
      go (Empty moves) e = ((v, mover, e.0), e.1, e.2)
      go (Waiting moves ring) e = ((v, mover, e.0), e.1, e.2, e.3)

  at_rest : (load : Load) → IsLoad t p load → IsStill t p load → Ends load
  at_rest load good still = elim (cases_eq (packet_count load) 0) [
    | inl none ↦ (Empty 0, load, (refl, still, none))
    | inr some ↦ (let ring : (ring : List ℕ) × IsWaitingRing t p load ring = waiting_ring t p load good still some in (Waiting 0 ring.0, load, (refl, still, some, ring.1)))
  ]

  ends_within : (n : ℕ) (load : Load) → hops_left load ≤ n → IsLoad t p load → Ends load
  ends_within zero load h good = elim (mover_or_still t p load good) [
    | inl mover ↦ absurd (omega (arith, h, moves_take_one_hop t p load mover.0 is fits admitted good mover.1.moves))
    | inr still ↦ at_rest load good still
  ]
  ends_within (suc n) load h good = elim (mover_or_still t p load good) [
    | inl mover ↦
        after_move load mover.0 mover.1
        (ends_within n (advanced t p load mover.0).1 (omega (arith, h, moves_take_one_hop t p load mover.0 is fits admitted good mover.1.moves)) (moves_keep_loads t p load mover.0 is fits admitted good))
    | inr still ↦ at_rest load good still
  ]

pub loads_end : LoadsEnd
loads_end t p load is fits admitted good = ends_within t p is fits admitted (hops_left load) load (omega arith) good

-- ---- on a certified plan

pub certified_loads_drain : CertifiedLoadsDrain
certified_loads_drain t p old new (Empty moves) is fits good ends certified =
    ap Empty (empty_moves_all_hops t p old new moves is fits (certified_admitted t p certified) good ends)
certified_loads_drain t p old new (Waiting moves ring) is fits good ends certified =
    let kept : IsLoad t p new = drains_keep t p is fits (certified_admitted t p certified) moves old new good ends.0 in
    let mover : (v : VirtualChannel) × MayMove t p new v = some_packet_moves t p new is fits certified kept (positive (packet_count new) ends.2) in
    absurd (ends.1 mover.0 mover.1)
  where
    positive : (n : ℕ) → ¬ (n ≡ 0) → 0 < n
    positive zero none = absurd (none refl)
    positive (suc n) none = omega arith
