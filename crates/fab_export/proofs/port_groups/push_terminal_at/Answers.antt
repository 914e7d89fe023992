use Rattle.std.proofs.Common.{◌++◌, List, ℕ, ap, sym, ◌∙◌, append-nil, map}
use Rattle.std.proofs.lemmas.Result.{IfOk-equal}
use Rattle.fab_dump.specs.Writing.{lines_text}
use Rattle.fab_export.specs.LevelsText.{port_guid_line}
use Rattle.fab_export.proofs.TerminalPorts.{guids_of_some, guids_of_none}
use Rattle.fab_export.proofs.port_groups.push_terminal_at.Goals as goal

pub returns-in-Some : goal.returns-in-Some
returns-in-Some c =
    IfOk-equal c.push_port.result _ _ _ c.push_port.ensures
    (ap (λ (guids : List ℕ). c.args.text.now.items ++ lines_text (map port_guid_line guids))
    (sym (guids_of_some c.args.fabric.now c.args.switch.0 c.args.port c.in-Some.terminal c.terminal.result (sym c.terminal_at.ensures ∙ c.in-Some.is) c.terminal.ensures)))

pub returns-in-None : goal.returns-in-None
returns-in-None c =
    sym (append-nil c.args.text.now.items)
    ∙ ap (λ (guids : List ℕ). c.args.text.now.items ++ lines_text (map port_guid_line guids))
    (sym (guids_of_none c.args.fabric.now c.args.switch.0 c.args.port (sym c.terminal_at.ensures ∙ c.in-None.is)))
