use Rattle.std.proofs.Common.{ap, sym, arith, rules}
use Rattle.std.proofs.lemmas.List.Sorted.{answers_always}
use Rattle.std.specs.Prelude.{option_map}
use Rattle.fab_model.specs.declared.rows.SwitchRow.{SwitchRow}
use Rattle.fab_model.specs.Topology.{switch_id}
use Rattle.fab_model.proofs.Finds.{guid_found, guid_missing}
use Rattle.fab_model.proofs.fabric.Fabric.switch_of.Goals as goal

pub returns-in-Ok : goal.returns-in-Ok
returns-in-Ok c =
    let at = c.in-Ok.ensures.position (λ (row : SwitchRow). row.guid) (answers_always _ _ _ (λ f a r g h. search rules)) in
    let found = guid_found c.self.inside.switches.items c.args.guid c.in-Ok.place c.self.invariant.0.rows.switch_guids (omega (arith, c.in-Ok.ensures.bound, c.deref.ensures.len)) (rw c.deref.ensures.value at at) in
    rw (← c.self.view_is) (ap (option_map switch_id) (sym found))

pub returns-in-Err : goal.returns-in-Err
returns-in-Err c =
    let parts = c.in-Err.ensures.position (λ (row : SwitchRow). row.guid) (answers_always _ _ _ (λ f a r g h. search rules)) in
    let missing = guid_missing c.self.inside.switches.items c.args.guid c.in-Err.field-0 c.self.invariant.0.rows.switch_guids (omega (arith, c.in-Err.ensures.bound, c.deref.ensures.len)) (rw c.deref.ensures.value at parts) in
    rw (← c.self.view_is) (ap (option_map switch_id) (sym missing))
