use Rattle.std.proofs.Common.{◌≡◌, sym, subst, arith, Some, slice_get, slice_index_or}
use Rattle.std.proofs.lemmas.Option.{slice_get-get_or}
use Rattle.fab_tables.proofs.Verdicts.CertifiedLaws.{contains_of}
use Rattle.fab_dfsssp.specs.declared.paths_over.Path.{Path}
use Rattle.fab_dfsssp.proofs.PathsOver.{ArePathsBehind, behind_begins, behind_adds, behind_ends}
use Rattle.fab_dfsssp.proofs.paths_over.paths_behind.Goals as goal

pub loop-path-init : goal.loop-path-init
loop-path-init c = subst (λ ps. ArePathsBehind c.args.fabric.now c.args.tables.now c.args.layer.now 0 ps) (sym c.new-behind.ensures.items) (behind_begins c.args.fabric.now c.args.tables.now c.requires.fabric.rows c.requires.tables c.args.layer.now)

pub push_behind-requires-clause-toward : goal.push_behind-requires-clause-toward
push_behind-requires-clause-toward c =
    let k = c.loop-path.path-index in
    let path : Path = slice_index_or c.args.layer.now k (record { from = record { 0 = 0 }; lid = record { 0 = 0 } }) in
    let at : slice_get c.args.layer.now k ≡ Some path = slice_get-get_or c.args.layer.now k (record { from = record { 0 = 0 }; lid = record { 0 = 0 } }) c.loop-path-test.true in
    record { fabric = c.requires.fabric; fits = c.requires.tables.fixed.fits; in_use = (c.requires.layer path (contains_of c.args.layer.now k path at)).1 }

pub push_behind-requires-clause-switch : goal.push_behind-requires-clause-switch
push_behind-requires-clause-switch c =
    let k = c.loop-path.path-index in
    let path : Path = slice_index_or c.args.layer.now k (record { from = record { 0 = 0 }; lid = record { 0 = 0 } }) in
    let at : slice_get c.args.layer.now k ≡ Some path = slice_get-get_or c.args.layer.now k (record { from = record { 0 = 0 }; lid = record { 0 = 0 } }) c.loop-path-test.true in
    (c.requires.layer path (contains_of c.args.layer.now k path at)).0

pub loop-path-preserved : goal.loop-path-preserved
loop-path-preserved c =
    let k = c.loop-path.path-index in
    let path : Path = slice_index_or c.args.layer.now k (record { from = record { 0 = 0 }; lid = record { 0 = 0 } }) in
    let at : slice_get c.args.layer.now k ≡ Some path = slice_get-get_or c.args.layer.now k (record { from = record { 0 = 0 }; lid = record { 0 = 0 } }) c.loop-path-test.true in
    behind_adds c.args.fabric.now c.args.tables.now c.requires.fabric.rows c.requires.tables c.args.layer.now k path c.loop-path.behind.items c.push_behind.new.behind.items at c.loop-path.invariant c.in_ok-push_behind.ensures

pub returns : goal.returns
returns c = behind_ends c.args.fabric.now c.args.tables.now c.requires.fabric.rows c.requires.tables c.args.layer.now c.loop-path.path-index c.loop-path.behind.items (omega (arith, c.loop-path-test.false)) c.loop-path.invariant
