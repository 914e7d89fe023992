use Rattle.std.proofs.Common.{◌≡◌, ◌++◌, take}
use Rattle.std.specs.Prelude.{filter_map}
use Rattle.fab_mcast.specs.Sending.{seen_copy, seen_copies, copy_by}
use Rattle.fab_mcast.proofs.copies.push_copies.Given as goal

abbrev pub invariant-loop-port : goal.invariant-loop-port
invariant-loop-port l = seen_copies l.pending.items ≡ seen_copies l.fn.pending.items ++ filter_map (copy_by l.fabric (seen_copy l.copy)) (take l.port-index l.ports)
