-- Where numbers rise along the joint dependencies, no packets and replies wait for each other: each waits for a greater number than one that some other
-- waits for.
use Rattle.std.proofs.Common.{◌≡◌, ℕ, zero, suc, ◌+◌, ◌-◌, ◌<◌, List, ap, arith, Some, None, Option}
use Rattle.std.specs.Prelude.{Contains, slice_get}
use Rattle.fab_graph.specs.Walks.{Rises}
use Rattle.fab_model.specs.Topology.{Topology}
use Rattle.fab_tables.specs.declared.verdict.VirtualChannel.{VirtualChannel}
use Rattle.fab_tables.specs.Entries.{Entries}
use Rattle.fab_tables.specs.LaneTables.{LaneTables}
use Rattle.fab_tables.proofs.Verdicts.DeadlockLaws.{some_at, rise, total, at_most_total, has_first}
use Rattle.fab_replies.specs.Replies.{DependsJointly}
use Rattle.fab_replies.specs.Waiting.{Message, Holds, Awaits, IsDeadlocked}

number_or_0 : {A : Type 0} → (A → ℕ) → Option A → ℕ
number_or_0 number None = 0
number_or_0 number (Some a) = number a

module _ (t : Topology) (e : Entries) (l : LaneTables) (number : VirtualChannel → ℕ) (rises : Rises number (DependsJointly t e l)) (messages : List Message)
    (dead : IsDeadlocked t e l messages) where
  awaited : Message → ℕ
  awaited m = number_or_0 number (slice_get m.hops (suc m.last))

  awaited_is : (m : Message) (v : VirtualChannel) → Awaits m v → awaited m ≡ number v
  unfolding awaited number_or_0
  awaited_is m v a = ap (number_or_0 number) a

  chase : (n : ℕ) (m : Message) → Contains messages m → total awaited messages < awaited m + n → ⊥
  chase zero m c h = omega (arith, at_most_total awaited messages m c.0 c.1 c.2)
  chase (suc n) m c h =
      let v : (a : VirtualChannel) × Awaits m a = some_at m.hops (suc m.last) (dead.waiting m c).next in
      let by : (q : Message) × Contains messages q × Holds q v.0 = dead.held m v.0 c v.1 in
      let w : (a : VirtualChannel) × Awaits by.0 a = some_at by.0.hops (suc by.0.last) (dead.waiting by.0 by.1).next in
      let up : number v.0 < number w.0 = rise number by.0.hops
      (λ a b f. rises a b (by.0.hops, (dead.waiting by.0 by.1).sent, f))
      (by.0.last - by.2.0) by.2.0 (suc by.0.last) v.0 w.0 (omega (arith, by.2.2)) by.2.3 w.1 in
      chase n by.0 by.1 (omega (arith, awaited_is m v.0 v.1, awaited_is by.0 w.0 w.1))

  none : ⊥
  none = let m : (q : Message) × Contains messages q = has_first messages dead.some in chase (suc (total awaited messages)) m.0 m.1 (omega arith)

pub joint_free : (t : Topology) (e : Entries) (l : LaneTables) (number : VirtualChannel → ℕ) → Rises number (DependsJointly t e l) → (messages : List Message) →
    ¬ IsDeadlocked t e l messages
joint_free t e l number rises messages dead = none t e l number rises messages dead
