-- What is laid, before it has levels and numbers.
use Rattle.std.specs.Prelude.{ℕ, List, Option}
use Rattle.fab_model.specs.Topology.{Topology}
use Rattle.fab_tables.specs.declared.plan.Plan.{Plan}
use Rattle.fab_tables.specs.Entries.{Entries}
use Rattle.fab_depgraph.specs.Listed.{Dependencies}
use Rattle.fab_escape.specs.Forest.{Forest}
use Rattle.fab_nue.specs.NuePlan.{AreUsed}
use Rattle.fab_nue.specs.Laying.{AreLaid}

-- All LIDs are kept or laid, and lane by lane the arenas list what is in use.
pub record IsWithoutLevels (t : Topology) (lanes : ℕ) (old : Option Plan) (kept : List ℕ) (e : Entries) (used : List Dependencies) : Type 0 where
  pub forest : ℕ → Forest
  pub laid : ℕ → List (Option ℕ)
  pub lids : AreLaid t lanes old kept forest laid e
  pub used_lists : AreUsed t lanes old kept forest laid used
