-- LIDs kept of an old plan, if there is one.
use Rattle.std.specs.Prelude.{ℕ, List, Option}
use Rattle.fab_model.specs.Topology.{Topology}
use Rattle.fab_tables.specs.declared.plan.Plan.{Plan}
use Rattle.fab_tables.specs.Entries.{Entries}
use Rattle.fab_depgraph.specs.Listed.{Dependencies}
use Rattle.fab_sssp.specs.WeightTables.{WeightTable}
use Rattle.fab_escape.specs.Forest.{Forest}
use Rattle.fab_nue.specs.Kept.{AreKept}
use Rattle.fab_nue.specs.NuePlan.{DependsToEscapeIn}
use Rattle.fab_nue.specs.Arenas.{AreListing}
use Rattle.fab_nue.specs.Laying.{AreLaidBelow}

-- Whatever the escape dependencies are that the arenas list at first: the LIDs that can stay are kept, and with them the laying begins.
abbrev pub KeepsLids : Topology → ℕ → Option Plan → List ℕ → List Dependencies → Entries → WeightTable → List Dependencies → Type 0
KeepsLids t lanes old kept before e w used = (forest : ℕ → Forest) (laid : ℕ → List (Option ℕ)) →
    AreListing lanes (λ on_lane c d. DependsToEscapeIn t lanes forest on_lane c d) before →
    AreKept t lanes (λ on_lane c d. DependsToEscapeIn t lanes forest on_lane c d) old kept × AreLaidBelow t lanes old kept forest laid 0 e w used
