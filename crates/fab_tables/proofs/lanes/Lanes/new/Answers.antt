use Rattle.std.proofs.Common.{◌*◌, length, replicate, refl, sym, ◌∙◌, ap, subst}
use Rattle.fab_model.specs.Topology.{lids_of}
use Rattle.fab_tables.specs.LaneTables.{AreLaneTables}
use Rattle.fab_tables.proofs.Rows.LaneSets.{made, new_kept}
use Rattle.fab_tables.proofs.lanes.Lanes.new.Goals as goal

pub invariant_of-result : goal.invariant_of-result
invariant_of-result c =
    let s = c.switches-switches.result in
    let ch = c.channels-channels.result in
    let lids = c.in_ok-columns.columns in
    subst AreLaneTables
    (sym (made c.args.count s s ch ch lids lids c.in_ok-levels.levels.items c.in_ok-general.general.items c.in_ok-numbers.numbers.items c.new.result.items refl refl refl
    (c.in_ok-levels.ensures.items_if_clones_equal (λ y e. e) ∙ ap (λ n. replicate (n * s) 255) c.len.ensures.count) (c.in_ok-general.ensures.items_if_clones_equal (λ y e. e)) c.new.ensures.items
    (c.in_ok-numbers.ensures.items_if_clones_equal (λ y e. e))))
    (new_kept c.args.count s ch lids c.requires c.in_ok-columns.ensures.kept)

pub returns : goal.returns
returns c =
    let s = c.switches-switches.result in
    let ch = c.channels-channels.result in
    let lids = c.in_ok-columns.columns in
    made c.args.count s (length c.args.fabric.now.switches) ch (length c.args.fabric.now.channels) lids (lids_of c.args.fabric.now) c.in_ok-levels.levels.items c.in_ok-general.general.items
    c.in_ok-numbers.numbers.items c.new.result.items c.switches-switches.ensures.count c.channels-channels.ensures.count c.in_ok-columns.ensures.lids
    (c.in_ok-levels.ensures.items_if_clones_equal (λ y e. e) ∙ ap (λ n. replicate (n * s) 255) (c.len.ensures.count ∙ ap length c.in_ok-columns.ensures.lids) ∙ ap (λ n. replicate (length (lids_of c.args.fabric.now) * n) 255) c.switches-switches.ensures.count)
    (c.in_ok-general.ensures.items_if_clones_equal (λ y e. e) ∙ ap (λ n. replicate (n * 16) 15) c.switches-switches.ensures.count) c.new.ensures.items
    (c.in_ok-numbers.ensures.items_if_clones_equal (λ y e. e) ∙ ap (λ n. replicate (n * 15) 0) c.channels-channels.ensures.count)
