use Rattle.std.proofs.Common.{take}
use Rattle.fab_model.specs.Indexed.{AreSources}
use Rattle.fab_model.proofs.indexes.sources_by_switch.Given as goal

abbrev pub invariant-loop-row : goal.invariant-loop-row
invariant-loop-row l = AreSources (take l.row-index l.rows) l.switches l.flags.items
