use Rattle.std.specs.Prelude.{codes}
use Rattle.std.specs.List.{flat_map, enumerate_from}
use Rattle.std.proofs.lemmas.Result.{err_from_is_err_and}
use Rattle.fab_dump.specs.Writing.{lines_text}
use Rattle.fab_dump.proofs.Writing.Puts.{then_put, stopped}
use Rattle.fab_export.specs.TablesText.{exported_block}
use Rattle.fab_export.proofs.tables.write_tables.Goals as goal

pub returns-in_err-put : goal.returns-in_err-put
returns-in_err-put g c =
    let p = err_from_is_err_and c.from_residual.result c.from_residual.ensures.1 in
    rw (p.1, p.2) (stopped (codes "# fabroute tables\n") (lines_text (flat_map (exported_block c.args.reached.now.fabric c.args.reached.now.entries) (enumerate_from 0 c.args.reached.now.fabric.switches))) c.in_err-put.field-0.0 c.in_err-put.ensures)

pub returns : goal.returns
returns g c =
    then_put (codes "# fabroute tables\n") (lines_text (flat_map (exported_block c.args.reached.now.fabric c.args.reached.now.entries) (enumerate_from 0 c.args.reached.now.fabric.switches))) c.put_blocks.result c.in_ok-put.ensures c.put_blocks.ensures
