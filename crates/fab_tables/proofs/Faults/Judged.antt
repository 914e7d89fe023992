-- Hops that are right, and marks of the switches from which on they are.
use Rattle.std.proofs.Common.{◌≡◌, ℕ, zero, suc, ◌+◌, ◌-◌, ◌<◌, List, [], ◌∷◌, length, drop, replicate, refl, sym, ◌∙◌, ap, subst, inl, inr, arith, Some, None, Option, slice_get, Bool, false}
use Rattle.std.specs.Prelude.{slice_index_or}
use Rattle.std.proofs.lemmas.Bool.{cases_lt, false≢true}
use Rattle.std.proofs.lemmas.List.{get_or-replicate, get_or_past, length-replicate}
use Rattle.fab_model.specs.Topology.{Topology}
use Rattle.fab_tables.specs.declared.verdict.VirtualChannel.{VirtualChannel}
use Rattle.fab_tables.specs.declared.lane_faults.LaneFaults.{LaneFaults}
use Rattle.fab_tables.specs.Entries.{Entries, cell}
use Rattle.fab_tables.specs.LaneTables.{LaneTables}
use Rattle.fab_tables.specs.Route.{route}
use Rattle.fab_tables.specs.VirtualChannels.{on_channels, arrival}
use Rattle.fab_tables.specs.Judged.{IsRight, before_at, IsRightAt, AreRight, hops_from, hops_behind, IsJudgedAt, IsRoomFor, AreJudged}
use Rattle.fab_tables.proofs.Paths.RoutesBehind.{slice_dropped, behind_any}
use Rattle.fab_tables.proofs.Verdicts.PlainLaws.{same_hops}

module _ (faults : LaneFaults) (l : LaneTables) where
  alone : (o : Option VirtualChannel) (v : VirtualChannel) → IsRight faults l o v → IsRight faults l None v
  alone o v right = record { lane = right.lane; number = right.number; rises = λ q. tt }

  -- where all are right, so are those behind some of them
  pub right_dropped : (hops : List VirtualChannel) (n : ℕ) → AreRight faults l hops → AreRight faults l (drop n hops)
  right_dropped hops n right zero v at = alone (before_at hops (n + 0)) v (right (n + 0) v (sym (slice_dropped hops n 0) ∙ at))
  right_dropped hops n right (suc k) v at =
      let eq : n + suc k ≡ suc (n + k) = omega arith in
      subst (λ (o : Option VirtualChannel). IsRight faults l o v) (ap (λ i. before_at hops i) eq ∙ sym (slice_dropped hops n k)) (right (n + suc k) v (sym (slice_dropped hops n (suc k)) ∙ at))

  -- and those behind the first of them, in the whole
  pub right_later : (hops : List VirtualChannel) (n : ℕ) → AreRight faults l (drop n hops) → (k : ℕ) → n < k → IsRightAt faults l hops k
  right_later hops n right k less v at = subst (λ (o : Option VirtualChannel). IsRight faults l o v) before (right (suc j) v here)
    where
      j : ℕ
      j = k - suc n

      next : n + suc j ≡ k
      next = omega arith

      here : slice_get (drop n hops) (suc j) ≡ Some v
      here = slice_dropped hops n (suc j) ∙ ap (λ i. slice_get hops i) next ∙ at

      before : slice_get (drop n hops) j ≡ before_at hops k
      before = slice_dropped hops n j ∙ ap (λ i. before_at hops i) (let e : suc (n + j) ≡ k = omega (arith, next) in e)

-- no mark is set
unmarked : (n k : ℕ) → slice_index_or (replicate n false) k false ≡ false
unmarked n k = elim (cases_lt k n) [
  | inl low ↦ get_or-replicate n k false false low
  | inr past ↦ get_or_past (replicate n false) k false (omega (arith, length-replicate n false))
]

pub cleared : (faults : LaneFaults) (t : Topology) (e : Entries) (l : LaneTables) (lid : ℕ) (old new : List Bool) → new ≡ replicate (length old) false → IsRoomFor t old → AreJudged faults t e l lid new
cleared faults t e l lid old new is room = record {
  room = ap (λ (ms : List Bool). length ms) is ∙ length-replicate (length old) false ∙ room;
  right = λ s of_level low marked. absurd (false≢true (sym (unmarked (length old) (cell 16 s of_level)) ∙ ap (λ ms. slice_index_or ms (cell 16 s of_level) false) (sym is) ∙ marked));
}

-- a cell is that of one switch and level
pub one_cell : (s n x m : ℕ) → n < 16 → m < 16 → cell 16 s n ≡ cell 16 x m → (s ≡ x) × (n ≡ m)
one_cell s n x m low high e = (omega arith, omega arith)

-- behind some channels the hops go on by the port by which the packets come there
pub hops_on : (t : Topology) (l : LaneTables) (of_level n p : ℕ) (cs : List ℕ) → (q : ℕ) × (on_channels t l of_level q (drop n cs) ≡ drop n (on_channels t l of_level p cs))
hops_on t l of_level zero p cs = (p, refl)
hops_on t l of_level (suc n) p [] = (p, refl)
hops_on t l of_level (suc n) p (c ∷ cs) = hops_on t l of_level n (arrival (slice_get t.channels c)) cs

-- without maps of pairs the port makes no difference
pub plain_right : (faults : LaneFaults) (t : Topology) (e : Entries) (l : LaneTables) (lid s of_level : ℕ) → l.pairs ≡ [] → IsJudgedAt faults t e l lid s of_level → (port : ℕ) → AreRight faults l (hops_from t e l lid s port of_level)
plain_right faults t e l lid s of_level plain judged port =
    subst (λ vs. AreRight faults l vs) (same_hops t l of_level judged.0 (route t e s lid).channels plain ∙ sym (same_hops t l of_level port (route t e s lid).channels plain)) judged.1

-- all hops of a route are right, so those behind the first
pub right_from : (faults : LaneFaults) (t : Topology) (e : Entries) (l : LaneTables) (lid s port of_level : ℕ) → AreRight faults l (hops_from t e l lid s port of_level) → AreRight faults l (hops_behind t e l lid s of_level)
right_from faults t e l lid s port of_level right =
    subst (λ vs. AreRight faults l vs) (behind_any t l of_level port 0 (route t e s lid).channels) (right_dropped faults l (hops_from t e l lid s port of_level) 1 right)
