use Rattle.std.proofs.Common.{sym, ◌∙◌, arith, rules, nat_eq}
use Rattle.std.specs.HashSet.{contains}
use Rattle.fab_export.proofs.RepeatedGuids.{first_without, first_twice, none_more, known_more, nothing_bad}
use Rattle.fab_export.proofs.unfit_guids.bad_port_guid.Goals as goal

pub returns-then-guid-eq0 : goal.returns-then-guid-eq0
returns-then-guid-eq0 c =
    first_without c.args.fabric.now c.lids_in_use-lid-items.result.now c.loop-lid.lid-index c.lids_in_use-lid-items.ensures.lids c.loop-lid-test.true c.loop-lid.invariant.none (sym c.port_guid_of-guid.ensures ∙ c.if-guid-eq0.true)

pub returns-then-contains : goal.returns-then-contains
returns-then-contains c =
    first_twice c.args.fabric.now c.lids_in_use-lid-items.result.now c.loop-lid.lid-index c.lids_in_use-lid-items.ensures.lids c.loop-lid-test.true c.loop-lid.invariant.none c.lids_in_use-lid-items.ensures.kept
    c.port_guid_of-guid.result c.port_guid_of-guid.ensures c.if-guid-eq0.false (contains nat_eq c.loop-lid.guids) c.loop-lid.invariant.guids (sym c.contains.ensures ∙ c.if-contains.true)

pub loop-lid-preserved : goal.loop-lid-preserved
loop-lid-preserved c = record {
  none = none_more c.args.fabric.now c.lids_in_use-lid-items.result.now c.loop-lid.lid-index c.lids_in_use-lid-items.ensures.lids c.loop-lid-test.true c.loop-lid.invariant.none c.lids_in_use-lid-items.ensures.kept
      c.port_guid_of-guid.result c.port_guid_of-guid.ensures c.if-guid-eq0.false (contains nat_eq c.loop-lid.guids) c.loop-lid.invariant.guids (sym c.contains.ensures ∙ c.if-contains.false);
  guids = λ guid. known_more c.args.fabric.now c.lids_in_use-lid-items.result.now c.loop-lid.lid-index c.lids_in_use-lid-items.ensures.lids c.loop-lid-test.true c.loop-lid.invariant.none c.lids_in_use-lid-items.ensures.kept
      c.port_guid_of-guid.result c.port_guid_of-guid.ensures c.if-guid-eq0.false (contains nat_eq c.loop-lid.guids) c.loop-lid.invariant.guids (contains nat_eq c.insert.new.self guid) guid (search rules);
}

pub returns : goal.returns
returns c = nothing_bad c.args.fabric.now c.lids_in_use-lid-items.result.now c.loop-lid.lid-index c.lids_in_use-lid-items.ensures.lids (omega (arith, c.loop-lid-test.false)) c.loop-lid.invariant.none
