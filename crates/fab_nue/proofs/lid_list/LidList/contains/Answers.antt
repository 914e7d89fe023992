use Rattle.std.proofs.Common.{◌≡◌, sym, ap, arith, rules}
use Rattle.std.proofs.lemmas.List.Sorted.{answers_always}
use Rattle.fab_model.specs.declared.rows.Lid.{Lid}
use Rattle.fab_model.proofs.Finds.{number_found, number_missing}
use Rattle.fab_nue.proofs.Lanes.LidLists.{any_at, lids_rise}
use Rattle.fab_nue.proofs.lid_list.LidList.contains.Goals as goal

pub returns-in-Ok : goal.returns-in-Ok
returns-in-Ok c =
    let items = c.self.inside.ascending.items in
    let at = c.in-Ok.ensures.position (λ (row : Lid). row.0) (answers_always _ _ _ (λ f a r g h. search rules)) in
    let found = number_found (λ (row : Lid). row.0) c.args.lid.0 items c.in-Ok.field-0 (lids_rise items c.self.invariant) (omega (arith, c.in-Ok.ensures.bound, c.deref.ensures.len)) (rw c.deref.ensures.value at at) in
    rw (← c.self.view_is) (sym ((any_at c.args.lid.0 items).0 (omega (arith, found, c.in-Ok.ensures.bound, c.deref.ensures.len))))

pub returns-in-Err : goal.returns-in-Err
returns-in-Err c =
    let items = c.self.inside.ascending.items in
    let parts = c.in-Err.ensures.position (λ (row : Lid). row.0) (answers_always _ _ _ (λ f a r g h. search rules)) in
    let missing = number_missing (λ (row : Lid). row.0) c.args.lid.0 items c.in-Err.field-0 (lids_rise items c.self.invariant) (omega (arith, c.in-Err.ensures.bound, c.deref.ensures.len)) (rw c.deref.ensures.value at parts) in
    rw (← c.self.view_is) (sym ((any_at c.args.lid.0 items).1 (omega (arith, missing))))
