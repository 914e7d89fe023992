-- So many steps of the walk are made.
use Rattle.std.proofs.Common.{ℕ}
use Rattle.fab_graph.specs.Least.{IsLeast}
use Rattle.fab_drain.specs.Loads.{IsLoad}
use Rattle.fab_drain.specs.Drains.{IsStill, IsTakenNumber}
use Rattle.fab_drain.proofs.WalkedRings.{IsWalked}
use Rattle.fab_drain.proofs.state.State.waiting_ring.Given as goal

abbrev pub invariant-loop : goal.invariant-loop
invariant-loop l = (good : IsLoad l.fabric l.plan l.self) (still : IsStill l.fabric l.plan l.self) (start : ℕ) (first : IsLeast (IsTakenNumber l.self) start) →
    IsWalked l.fabric l.plan l.self good still start first l.number l.counter l.walk
