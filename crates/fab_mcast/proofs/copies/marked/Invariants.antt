use Rattle.std.proofs.Common.{◌≡◌, map}
use Rattle.std.specs.Prelude.{filter}
use Rattle.std.specs.List.{range_with_len}
use Rattle.fab_model.specs.declared.rows.TerminalId.{TerminalId}
use Rattle.fab_mcast.specs.Sending.{is_marked}
use Rattle.fab_mcast.proofs.copies.marked.Given as goal

abbrev pub invariant-loop-n : goal.invariant-loop-n
invariant-loop-n l = map (λ (id : TerminalId). id.0) l.found.items ≡ filter (is_marked l.marks) (range_with_len 0 l.n)
