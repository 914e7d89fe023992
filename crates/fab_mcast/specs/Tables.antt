-- The table of a group as it is kept.
use Rattle.std.specs.Prelude.{ℕ, map, Vec}
use Rattle.std.specs.declared.alloc.Global.{Global}
use Rattle.fab_model.specs.declared.rows.TerminalId.{TerminalId}
use Rattle.fab_mcast.specs.declared.group_tables.Planted.{Planted as Kept}
use Rattle.fab_mcast.specs.GroupTrees.{Planted}

-- seen by numbers alone
abbrev pub seen_planted : Kept → Planted
seen_planted kept = record { members = map (λ (id : TerminalId). id.0) kept.members.items; ports = map (λ (ports : Vec ℕ Global). ports.items) kept.ports.items }
