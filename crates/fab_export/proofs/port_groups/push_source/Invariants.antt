use Rattle.std.proofs.Common.{◌≡◌, ◌++◌, ◌-◌, ◌+◌, ◌≤◌, ℕ, map}
use Rattle.std.specs.Prelude.{flat_map}
use Rattle.std.specs.List.{range_with_len}
use Rattle.fab_dump.specs.Writing.{lines_text}
use Rattle.fab_export.specs.LevelsText.{port_guid_line}
use Rattle.fab_export.specs.PortGuids.{guids_at}
use Rattle.fab_export.proofs.port_groups.push_source.Given as goal

abbrev pub invariant-loop-port : goal.invariant-loop-port
invariant-loop-port l = record {
  so_far : l.text.items ≡ l.initial.text.items ++ lines_text (flat_map (λ (port : ℕ). map port_guid_line (guids_at l.fabric l.source.0 port)) (range_with_len 1 (l.port - 1)));
  low : l.port ≤ l.port-end + 1;
}
