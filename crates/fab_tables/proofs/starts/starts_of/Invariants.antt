use Rattle.std.proofs.Common.{◌≡◌, map, take}
use Rattle.fab_tables.specs.Starts.{start_of}
use Rattle.fab_tables.proofs.starts.starts_of.Given as goal

abbrev pub invariant-loop-index : goal.invariant-loop-index
invariant-loop-index l = l.starts.items ≡ map start_of (take l.index l.fabric.terminals)
