use Rattle.std.proofs.Common.{arith}
use Rattle.fab_tables.proofs.Rows.Places.{one_more_written, all_written}
use Rattle.fab_tables.proofs.columns.places_of.Goals as goal

pub loop-place-preserved : goal.loop-place-preserved
loop-place-preserved c =
    one_more_written c.args.lids.now c.loop-place.places.items c.loop-place.place c.from.result c.requires c.loop-place-test.true c.from.ensures c.loop-place.invariant

pub returns : goal.returns
returns c = all_written c.args.lids.now c.loop-place.places.items c.loop-place.place (omega arith) c.loop-place.invariant (omega arith)
