use Rattle.std.proofs.Common.{sym, ◌∙◌, ap, Some}
use Rattle.std.specs.Prelude.{find, ◌==◌}
use Rattle.fab_tables.specs.declared.lanes.PairRow.{PairRow}
use Rattle.fab_tables.specs.LaneTables.{pair_key}
use Rattle.fab_tables.proofs.Rows.PairRows.{pair_found, pair_missing}
use Rattle.fab_tables.proofs.pairs.pair_in.Goals as goal

pub returns-in-Ok : goal.returns-in-Ok
returns-in-Ok c =
    ap (λ n. find (λ (row : PairRow). pair_key row == n) c.args.rows.now.items) (sym c.key_of.ensures) ∙ pair_found c.args.rows.now.items c.requires c.key_of.result c.in-Ok.place c.in-Ok.ensures.found c.index.result.now ∙ ap Some (sym c.index.ensures)

pub returns-in-Err : goal.returns-in-Err
returns-in-Err c =
    ap (λ n. find (λ (row : PairRow). pair_key row == n) c.args.rows.now.items) (sym c.key_of.ensures) ∙ pair_missing c.args.rows.now.items c.requires c.key_of.result c.in-Err.field-0 c.in-Err.ensures.missing
