use Rattle.std.proofs.Common.{sym, arith, rules}
use Rattle.std.proofs.lemmas.List.Sorted.{answers_always}
use Rattle.fab_model.specs.declared.rows.TerminalId.{TerminalId}
use Rattle.fab_model.proofs.Finds.{number_found, number_missing}
use Rattle.fab_mcast.proofs.MemberPorts.{any_by, rise_by}
use Rattle.fab_mcast.proofs.entries.contains.Goals as goal

pub returns-in-Ok : goal.returns-in-Ok
returns-in-Ok c =
    let items = c.args.members.now in
    let at = c.in-Ok.ensures.position (λ (row : TerminalId). row.0) (answers_always _ _ _ (λ f a r g h. search rules)) in
    let found = number_found (λ (row : TerminalId). row.0) c.args.terminal.0 items c.in-Ok.field-0 (rise_by (λ (row : TerminalId). row.0) items c.requires) (omega (arith, c.in-Ok.ensures.bound)) at in
    sym ((any_by (λ (row : TerminalId). row.0) c.args.terminal.0 items).0 (omega (arith, found, c.in-Ok.ensures.bound)))

pub returns-in-Err : goal.returns-in-Err
returns-in-Err c =
    let items = c.args.members.now in
    let parts = c.in-Err.ensures.position (λ (row : TerminalId). row.0) (answers_always _ _ _ (λ f a r g h. search rules)) in
    let missing = number_missing (λ (row : TerminalId). row.0) c.args.terminal.0 items c.in-Err.field-0 (rise_by (λ (row : TerminalId). row.0) items c.requires) (omega (arith, c.in-Err.ensures.bound)) parts in
    sym ((any_by (λ (row : TerminalId). row.0) c.args.terminal.0 items).1 (omega (arith, missing)))
