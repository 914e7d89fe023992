use Rattle.std.proofs.Common.{◌++◌, ◌-◌, List, ℕ, ap, refl, ◌∙◌, map, arith}
use Rattle.std.specs.List.{range_with_len}
use Rattle.std.specs.Prelude.{flat_map}
use Rattle.fab_dump.specs.Writing.{lines_text}
use Rattle.fab_export.specs.LevelsText.{port_guid_line}
use Rattle.fab_export.specs.PortGuids.{guids_at}
use Rattle.fab_export.proofs.GroupLines.{lines_more, range-on}
use Rattle.fab_export.proofs.TerminalPorts.{source_done}
use Rattle.fab_export.proofs.port_groups.push_source.Goals as goal

pub loop-port-preserved : goal.loop-port-preserved
loop-port-preserved c = record {
  so_far = lines_more (λ (port : ℕ). map port_guid_line (guids_at c.args.fabric.now c.args.source.0 port)) (range_with_len 1 (c.loop-port.port - 1)) c.loop-port.port c.push_port.new.text.items c.loop-port.text.items c.push_terminal_at.new.text.items
      c.loop-port.invariant.so_far c.in_ok-push_terminal_at.ensures
      ∙ ap (λ (ports : List ℕ). c.push_port.new.text.items ++ lines_text (flat_map (λ (port : ℕ). map port_guid_line (guids_at c.args.fabric.now c.args.source.0 port)) ports)) (range-on c.loop-port.port _ (omega (arith, c.loop-port.auto.port)) (omega arith));
  low = omega (arith, c.loop-port-test.true);
}

pub returns-in_ok-push_port : goal.returns-in_ok-push_port
returns-in_ok-push_port c =
    source_done c.args.fabric.now c.requires.rows c.args.source.0 c.switch-row.result.now c.switch-row.ensures c.args.text.now.items c.push_port.new.text.items c.loop-port.text.items (c.loop-port.port - 1)
    (omega (arith, c.loop-port-test.false, c.loop-port.auto.port, c.loop-port.invariant.low)) c.in_ok-push_port.ensures c.loop-port.invariant.so_far

pub returns-in_ok-push_terminal_at : goal.returns-in_ok-push_terminal_at
returns-in_ok-push_terminal_at c =
    source_done c.args.fabric.now c.requires.rows c.args.source.0 c.switch-row.result.now c.switch-row.ensures c.args.text.now.items c.push_port.new.text.items c.push_terminal_at.new.text.items c.loop-port.port
    (omega (arith, c.loop-port-test.true)) c.in_ok-push_port.ensures
    (lines_more (λ (port : ℕ). map port_guid_line (guids_at c.args.fabric.now c.args.source.0 port)) (range_with_len 1 (c.loop-port.port - 1)) c.loop-port.port c.push_port.new.text.items c.loop-port.text.items c.push_terminal_at.new.text.items
    c.loop-port.invariant.so_far c.in_ok-push_terminal_at.ensures
    ∙ ap (λ (ports : List ℕ). c.push_port.new.text.items ++ lines_text (flat_map (λ (port : ℕ). map port_guid_line (guids_at c.args.fabric.now c.args.source.0 port)) ports)) (range-on c.loop-port.port c.loop-port.port (omega (arith, c.loop-port.auto.port)) refl))
