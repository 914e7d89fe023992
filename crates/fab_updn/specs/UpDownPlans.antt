-- Up/down plans, and the refusal.
use Rattle.std.specs.Prelude.{◌≡◌, ℕ, ◌<◌, ◌⊎◌, List}
use Rattle.fab_model.specs.Topology.{Topology}
use Rattle.fab_model.specs.Connected.{AreConnected}
use Rattle.fab_tables.specs.declared.plan.Plan.{Plan}
use Rattle.fab_tables.specs.Entries.{Entries}
use Rattle.fab_certify.specs.EnginePlans.{IsEnginePlan}
use Rattle.fab_updn.specs.declared.up_down.UpdnFault.{UpdnFault}
use Rattle.fab_updn.specs.declared.up_down.UpdnFault.TheVariants.{NoLegalRoute, Memory}
use Rattle.fab_updn.specs.Ranks.{AreRanks}
use Rattle.fab_updn.specs.Costs.{HasNoCost}
use Rattle.fab_updn.specs.UpDown.{AreUpDownTables}

-- the two are connected, and no walk from the one to the other goes up and then down
abbrev pub LacksRoute : Topology → List ℕ → ℕ → ℕ → Type 0
LacksRoute t ranks from to = AreConnected t from to × HasNoCost t ranks to from

-- they are the first such pair, by (from, to)
pub record IsFirstWithoutRoute (t : Topology) (ranks : List ℕ) (from to : ℕ) : Type 0 where
  pub lacks : LacksRoute t ranks from to
  pub first : (a b : ℕ) → (a < from) ⊎ ((a ≡ from) × (b < to)) → ¬ LacksRoute t ranks a b

-- up/down tables by the ranks of a fabric in which each connected pair has a cost
pub record AreLegalTables (t : Topology) (named : List ℕ) (e : Entries) : Type 0 where
  pub ranks : List ℕ
  pub are_ranks : AreRanks t named ranks
  pub legal : (from to : ℕ) → ¬ LacksRoute t ranks from to
  pub tables : AreUpDownTables t ranks e

-- one lane, level 0 for each source and LID connected to it, numbered
pub record IsUpDownPlan (t : Topology) (named : List ℕ) (p : Plan) : Type 0 where
  pub tables : AreLegalTables t named p.tables
  pub lanes : IsEnginePlan t 1 (λ s lid n. n ≡ 0) p

-- the first pair is refused
abbrev pub IsRefusedPair : Topology → List ℕ → ℕ → ℕ → Type 0
IsRefusedPair t named from to = (ranks : List ℕ) × AreRanks t named ranks × IsFirstWithoutRoute t ranks from to

-- what a refusal says
abbrev pub IsUpDownFault : Topology → List ℕ → UpdnFault → Type 0
IsUpDownFault t named (NoLegalRoute from to) = IsRefusedPair t named from.0 to.0
IsUpDownFault t named (Memory refused) = Unit {0}
