use Rattle.fab_top.proofs.SpelledCommands.{is_spelled}
use Rattle.fab_top.proofs.Steps.WithoutFiles.{gen_obeyed, demo_obeyed}
use Rattle.fab_top.proofs.top_call.obey.Goals as goal

pub check-requires-clause-fabric : goal.check-requires-clause-fabric
check-requires-clause-fabric g c = (is_spelled c.args.words.now _ _ c.requires c.in-Check.is).places.0

pub check-requires-clause-plan : goal.check-requires-clause-plan
check-requires-clause-plan g c = (is_spelled c.args.words.now _ _ c.requires c.in-Check.is).places.1.0

pub route-requires-clause-fabric : goal.route-requires-clause-fabric
route-requires-clause-fabric g c = (is_spelled c.args.words.now _ _ c.requires c.in-Route.is).places.0

pub route-requires-clause-lanes : goal.route-requires-clause-lanes
route-requires-clause-lanes g c = (is_spelled c.args.words.now _ _ c.requires c.in-Route.is).asks.lanes

pub certify-requires-clause-fabric : goal.certify-requires-clause-fabric
certify-requires-clause-fabric g c = (is_spelled c.args.words.now _ _ c.requires c.in-Certify.is).places.0

pub certify-requires-clause-plan : goal.certify-requires-clause-plan
certify-requires-clause-plan g c = (is_spelled c.args.words.now _ _ c.requires c.in-Certify.is).places.1.0

pub convert-requires-clause-fabric : goal.convert-requires-clause-fabric
convert-requires-clause-fabric g c = (is_spelled c.args.words.now _ _ c.requires c.in-Convert.is).places.0

pub convert-requires-clause-plan : goal.convert-requires-clause-plan
convert-requires-clause-plan g c = (is_spelled c.args.words.now _ _ c.requires c.in-Convert.is).places.1.0

pub repair-requires-clause-fabric : goal.repair-requires-clause-fabric
repair-requires-clause-fabric g c = (is_spelled c.args.words.now _ _ c.requires c.in-Repair.is).places.0

pub repair-requires-clause-plan : goal.repair-requires-clause-plan
repair-requires-clause-plan g c = (is_spelled c.args.words.now _ _ c.requires c.in-Repair.is).places.1.0

pub repair-requires-clause-failed : goal.repair-requires-clause-failed
repair-requires-clause-failed g c = (is_spelled c.args.words.now _ _ c.requires c.in-Repair.is).places.1.1.0

pub repair-requires-clause-lanes : goal.repair-requires-clause-lanes
repair-requires-clause-lanes g c = (is_spelled c.args.words.now _ _ c.requires c.in-Repair.is).asks.lanes

pub cut-requires-clause-fabric : goal.cut-requires-clause-fabric
cut-requires-clause-fabric g c = (is_spelled c.args.words.now _ _ c.requires c.in-Cut.is).places.0

pub cut-requires-clause-failed : goal.cut-requires-clause-failed
cut-requires-clause-failed g c = (is_spelled c.args.words.now _ _ c.requires c.in-Cut.is).places.1.0

pub show-requires-clause-fabric : goal.show-requires-clause-fabric
show-requires-clause-fabric g c = (is_spelled c.args.words.now _ _ c.requires c.in-Show.is).places.0

pub show-requires-clause-plan : goal.show-requires-clause-plan
show-requires-clause-plan g c = (is_spelled c.args.words.now _ _ c.requires c.in-Show.is).places.1.0

pub load-requires-clause-fabric : goal.load-requires-clause-fabric
load-requires-clause-fabric g c = (is_spelled c.args.words.now _ _ c.requires c.in-Load.is).places.0

pub load-requires-clause-plan : goal.load-requires-clause-plan
load-requires-clause-plan g c = (is_spelled c.args.words.now _ _ c.requires c.in-Load.is).places.1.0

pub generate-requires : goal.generate-requires
generate-requires g c = (is_spelled c.args.words.now _ _ c.requires c.in-Gen.is).asks.recipe.fits

pub demo-requires-clause-fits : goal.demo-requires-clause-fits
demo-requires-clause-fits g c = (is_spelled c.args.words.now _ _ c.requires c.in-Demo.is).asks.recipe.fits

pub demo-requires-clause-lanes : goal.demo-requires-clause-lanes
demo-requires-clause-lanes g c = (is_spelled c.args.words.now _ _ c.requires c.in-Demo.is).asks.lanes

pub transit-requires-clause-fabric : goal.transit-requires-clause-fabric
transit-requires-clause-fabric g c = (is_spelled c.args.words.now _ _ c.requires c.in-Transit.is).places.0

pub transit-requires-clause-old : goal.transit-requires-clause-old
transit-requires-clause-old g c = (is_spelled c.args.words.now _ _ c.requires c.in-Transit.is).places.1.0

pub transit-requires-clause-new : goal.transit-requires-clause-new
transit-requires-clause-new g c = (is_spelled c.args.words.now _ _ c.requires c.in-Transit.is).places.1.1.0

pub drain-requires-clause-fabric : goal.drain-requires-clause-fabric
drain-requires-clause-fabric g c = (is_spelled c.args.words.now _ _ c.requires c.in-Drain.is).places.0

pub drain-requires-clause-plan : goal.drain-requires-clause-plan
drain-requires-clause-plan g c = (is_spelled c.args.words.now _ _ c.requires c.in-Drain.is).places.1.0

pub mcast-requires-clause-fabric : goal.mcast-requires-clause-fabric
mcast-requires-clause-fabric g c = (is_spelled c.args.words.now _ _ c.requires c.in-Mcast.is).places.0

pub mcast-requires-clause-groups : goal.mcast-requires-clause-groups
mcast-requires-clause-groups g c = (is_spelled c.args.words.now _ _ c.requires c.in-Mcast.is).places.1.0

pub spread-requires-clause-fabric : goal.spread-requires-clause-fabric
spread-requires-clause-fabric g c = (is_spelled c.args.words.now _ _ c.requires c.in-Spread.is).places.0

pub spread-requires-clause-groups : goal.spread-requires-clause-groups
spread-requires-clause-groups g c = (is_spelled c.args.words.now _ _ c.requires c.in-Spread.is).places.1.0

pub sweep-requires-clause-fabric : goal.sweep-requires-clause-fabric
sweep-requires-clause-fabric g c = (is_spelled c.args.words.now _ _ c.requires c.in-Sweep.is).places.0

pub sweep-requires-clause-plan : goal.sweep-requires-clause-plan
sweep-requires-clause-plan g c = (is_spelled c.args.words.now _ _ c.requires c.in-Sweep.is).places.1.0

pub sweep-requires-clause-lanes : goal.sweep-requires-clause-lanes
sweep-requires-clause-lanes g c = (is_spelled c.args.words.now _ _ c.requires c.in-Sweep.is).asks.lanes

pub export-requires-clause-fabric : goal.export-requires-clause-fabric
export-requires-clause-fabric g c = (is_spelled c.args.words.now _ _ c.requires c.in-Export.is).places.0

pub export-requires-clause-plan : goal.export-requires-clause-plan
export-requires-clause-plan g c = (is_spelled c.args.words.now _ _ c.requires c.in-Export.is).places.1.0

pub replies-requires-clause-fabric : goal.replies-requires-clause-fabric
replies-requires-clause-fabric g c = (is_spelled c.args.words.now _ _ c.requires c.in-Replies.is).places.0

pub replies-requires-clause-plan : goal.replies-requires-clause-plan
replies-requires-clause-plan g c = (is_spelled c.args.words.now _ _ c.requires c.in-Replies.is).places.1.0

pub returns-in-Gen : goal.returns-in-Gen
returns-in-Gen g c = gen_obeyed c.args.command c.in-Gen.recipe _ _ _ _ c.in-Gen.is c.generate.ensures

pub returns-in-Demo : goal.returns-in-Demo
returns-in-Demo g c = demo_obeyed c.args.command c.in-Demo.recipe c.in-Demo.engine _ _ _ _ c.in-Demo.is c.demo.ensures
