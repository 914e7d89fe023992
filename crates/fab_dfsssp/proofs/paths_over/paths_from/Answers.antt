use Rattle.std.proofs.Common.{◌≡◌, refl, sym, subst, arith, Some, slice_get, slice_index_or}
use Rattle.std.proofs.lemmas.Bool.{both_ways}
use Rattle.fab_model.specs.Topology.{lids_of}
use Rattle.fab_model.proofs.LidsInUse.{as_many, lid_there, contains_lid}
use Rattle.fab_dfsssp.proofs.PathsOver.{AreFirstPaths, first_paths_begin, first_path_skips, first_path_adds, first_paths_end, tail_low}
use Rattle.fab_dfsssp.specs.declared.paths_over.Path.{Path}
use Rattle.fab_dfsssp.proofs.FirstChannels.{told_by_row}
use Rattle.fab_dfsssp.proofs.paths_over.paths_from.Goals as goal
use Rattle.fab_dfsssp.proofs.paths_over.paths_from.Goals.{then-sends_by+then-begins_with+in_ok-push, else-sends_by, else-sends_by-via-then-sends_by+else-begins_with, else-sends_by-via-else-sends_by}

pub loop-lid-init : goal.loop-lid-init
loop-lid-init c =
    subst (λ ps. AreFirstPaths c.args.fabric.now c.args.tables.now c.args.edge c.channel-first.result.tail.0 0 ps) (sym c.new-paths.ensures.items)
    (first_paths_begin c.args.fabric.now c.args.tables.now c.args.edge c.channel-first.result c.channel-first.ensures)

pub sends_by-requires : goal.sends_by-requires
sends_by-requires c = omega (arith, c.requires.tables.switches, tail_low c.args.fabric.now c.requires.fabric.rows c.args.edge.0 c.channel-first.result c.channel-first.ensures)

pub begins_with-requires-clause-toward : goal.begins_with-requires-clause-toward
begins_with-requires-clause-toward c = record {
  fabric = c.requires.fabric;
  fits = c.requires.tables;
  in_use = contains_lid c.lids_in_use-lid-items.result.now (lids_of c.args.fabric.now) c.lids_in_use-lid-items.ensures.lids c.loop-lid.lid-index (record { 0 = 0 }) c.loop-lid-test.true;
}

pub begins_with-requires-clause-switch : goal.begins_with-requires-clause-switch
begins_with-requires-clause-switch c = tail_low c.args.fabric.now c.requires.fabric.rows c.args.edge.0 c.channel-first.result c.channel-first.ensures

pub loop-lid-preserved : goal.loop-lid-preserved
loop-lid-preserved c =
    let t = c.args.fabric.now in
    let lids = c.lids_in_use-lid-items.result.now in
    let k = c.loop-lid.lid-index in
    let row = c.channel-first.result in
    let lid = slice_index_or lids k (record { 0 = 0 }) in
    let at : slice_get (lids_of t) k ≡ Some lid.0 = lid_there lids (lids_of t) c.lids_in_use-lid-items.ensures.lids k (record { 0 = 0 }) c.loop-lid-test.true in
    let path : Path = record { from = row.tail; lid = lid } in
    let so_far = c.loop-lid.invariant in
    elim c.if-sends_by.branch [
      | then-sends_by+then-begins_with+in_ok-push w ↦
          rw (w.paths-is, w.in_ok-push.ensures.items)
          (first_path_adds t c.args.tables.now c.args.edge row c.channel-first.ensures k path c.loop-lid.paths.items at refl so_far (tail_low t c.requires.fabric.rows c.args.edge.0 row c.channel-first.ensures)
          (w.begins_with.ensures.0 w.if-begins_with.true))
      | else-sends_by w ↦
          rw w.paths-is
          (first_path_skips t c.args.tables.now c.args.edge row c.channel-first.ensures k path c.loop-lid.paths.items at refl so_far
          (λ stands. elim w.else-sends_by.branch [
            | else-sends_by-via-then-sends_by+else-begins_with u ↦ both_ways u.begins_with.result u.if-begins_with.false (u.begins_with.ensures.1 stands)
            | else-sends_by-via-else-sends_by u ↦
                both_ways c.sends_by.result u.if-sends_by.false
                (c.sends_by.ensures.1 (sym (told_by_row t c.args.tables.now row.tail.0 lid.0 c.args.edge.0 row c.channel-first.ensures stands.0).1))
          ]))
    ]

pub returns : goal.returns
returns c =
    first_paths_end c.args.fabric.now c.args.tables.now c.args.edge c.channel-first.result c.channel-first.ensures c.loop-lid.lid-index c.loop-lid.paths.items
    (omega (arith, c.loop-lid-test.false, as_many c.lids_in_use-lid-items.result.now (lids_of c.args.fabric.now) c.lids_in_use-lid-items.ensures.lids)) c.loop-lid.invariant
