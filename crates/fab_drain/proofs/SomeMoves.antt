-- On a certified plan some packet may move, unless there is none: a packet that waits has one with a greater number before it.
use Rattle.std.proofs.Common.{◌≡◌, ℕ, zero, suc, ◌+◌, ◌^◌, ◌<◌, ◌≤◌, inl, inr, Bool, true, false, length, refl, sym, subst, arith, Some, None, Option}
use Rattle.std.specs.Prelude.{IfSome, slice_index_or, nat_lt, if◌then◌else◌}
use Rattle.std.proofs.lemmas.Bool.{cases_lt}
use Rattle.std.proofs.lemmas.List.{get_or_past}
use Rattle.fab_model.specs.Topology.{Topology}
use Rattle.fab_model.specs.WellFormed.{IsFabric}
use Rattle.fab_tables.specs.declared.plan.Plan.{Plan}
use Rattle.fab_tables.specs.declared.verdict.VirtualChannel.{VirtualChannel}
use Rattle.fab_tables.specs.Entries.{cell}
use Rattle.fab_tables.specs.LaneTables.{LaneTables, AreLaneTables}
use Rattle.fab_tables.specs.Dependencies.{AreReadLanes}
use Rattle.fab_tables.specs.Fit.{LanesFit}
use Rattle.fab_tables.specs.Certified.{IsCertified, number_of}
use Rattle.fab_drain.specs.Loads.{next_of, Load, Loaded, loaded_at, StandsOn, IsLoad}
use Rattle.fab_drain.specs.Moves.{went_to, moved_on, moved_from, IsMove, MayMove}
use Rattle.fab_drain.specs.Laws.{SomePacketMoves}
use Rattle.fab_drain.proofs.Cells.{some_packet}
use Rattle.fab_drain.proofs.PacketHops.{stand_before_next, certified_admitted}
use Rattle.fab_drain.proofs.Moving.{stands_there}

-- a packet at its last position may leave, and one whose next virtual channel is empty may go there
pub may_leave : (t : Topology) (p : Plan) (load : Load) (v : VirtualChannel) (x : Loaded) → loaded_at load v ≡ Some x → next_of t p x.packet ≡ None → MayMove t p load v
may_leave t p load v x e after = subst (λ o. IsMove (moved_from t p load v o).0) (sym e) (subst (λ o. IsMove (moved_on t p load v x o).0) (sym after) tt)

pub may_go : (t : Topology) (p : Plan) (load : Load) (v w : VirtualChannel) (x : Loaded) → loaded_at load v ≡ Some x → next_of t p x.packet ≡ Some w → loaded_at load w ≡ None → MayMove t p load v
may_go t p load v w x e after free =
    subst (λ o. IsMove (moved_from t p load v o).0) (sym e)
    (subst (λ o. IsMove (moved_on t p load v x o).0) (sym after) (subst (λ o. IsMove (went_to t p load v x w o).0) (sym free) tt))

-- numbers are below a bound
number_small : (l : LaneTables) → AreLaneTables l → (v : VirtualChannel) → number_of l v < 2 ^ 32
number_small l are v = go (nat_lt v.lane 15)
  where
    kept : slice_index_or l.numbers (cell 15 v.channel.0 v.lane) 0 < 2 ^ 32
    kept = elim (cases_lt (cell 15 v.channel.0 v.lane) (length l.numbers)) [
      | inl low ↦ are.low_numbers (cell 15 v.channel.0 v.lane) 0 low
      | inr past ↦ omega (arith, get_or_past l.numbers (cell 15 v.channel.0 v.lane) 0 past)
    ]

    go : (b : Bool) → (if b then slice_index_or l.numbers (cell 15 v.channel.0 v.lane) 0 else 0) < 2 ^ 32
    go true = kept
    go false = omega arith

module _ (t : Topology) (p : Plan) (load : Load) (is : IsFabric t) (certified : IsCertified t p) (good : IsLoad t p load) (bound : ℕ)
    (small : (v : VirtualChannel) → number_of certified.0 v < bound) where
  abbrev SomeMover : Type 0
  SomeMover = (v : VirtualChannel) × MayMove t p load v

  chase : (n : ℕ) (v : VirtualChannel) (x : Loaded) → loaded_at load v ≡ Some x → bound ≤ number_of certified.0 v + n → SomeMover
  chase zero v x e h = absurd (omega (arith, h, small v))
  chase (suc n) v x e h = on (λ w y f more. chase n w y f more) (next_of t p x.packet) refl
    where
      read : AreReadLanes t p.lanes certified.0
      read = subst (λ o. AreReadLanes t o certified.0) (sym certified.1) refl

      stands : StandsOn t p v x
      stands = stands_there t p load is (certified_admitted t p certified) good v x e

      go : ((w : VirtualChannel) (y : Loaded) → loaded_at load w ≡ Some y → bound ≤ number_of certified.0 w + n → SomeMover) →
          (w : VirtualChannel) → next_of t p x.packet ≡ Some w → (o : Option Loaded) → loaded_at load w ≡ o → SomeMover
      go more w after None f = (v, may_go t p load v w x e after f)
      go more w after (Some y) f =
          more w y f (omega (arith, h, certified.3.rises v w (stand_before_next t p is certified.0 read x.packet v w stands.is_packet stands.stands after)))

      on : ((w : VirtualChannel) (y : Loaded) → loaded_at load w ≡ Some y → bound ≤ number_of certified.0 w + n → SomeMover) →
          (o : Option VirtualChannel) → next_of t p x.packet ≡ o → SomeMover
      on more None after = (v, may_leave t p load v x e after)
      on more (Some w) after = go more w after (loaded_at load w) refl

  some_mover : (v : VirtualChannel) (x : Loaded) → loaded_at load v ≡ Some x → SomeMover
  some_mover v x e = chase bound v x e (omega arith)

pub some_packet_moves : SomePacketMoves
some_packet_moves t p load is fits certified good some =
    let kept : LanesFit t certified.0 = subst (λ o. IfSome o (LanesFit t)) certified.1 fits.lanes in
    let first : (v : VirtualChannel) × (x : Loaded) × (loaded_at load v ≡ Some x) = some_packet load (length t.channels) good.each some in
    some_mover t p load is certified good (2 ^ 32) (λ v. number_small certified.0 kept.whole v) first.0 first.1 first.2
