use Rattle.std.proofs.Common.{sym, ◌∙◌}
use Rattle.fab_model.specs.Written.{is_on_adapter}
use Rattle.fab_netdiscover.proofs.Rows.{found_has_switch}
use Rattle.fab_netdiscover.proofs.writing.push_adapter_line.Goals as goal

pub push_adapter_port-requires : goal.push_adapter_port-requires
push_adapter_port-requires c =
    found_has_switch c.args.fabric.now (is_on_adapter c.args.adapter c.args.port) c.in-Some.row.now c.requires.rows (sym (c.requires.terminals c.args.adapter c.args.port) ∙ sym c.in-Some.ensures.value)
