use Rattle.std.proofs.Common.{◌≡◌, ◌-◌, refl, arith}
use Rattle.std.proofs.lemmas.Iterator.{items_from_collect, YieldsList-from_range}
use Rattle.fab_rings.proofs.strong_components.all_nodes.Goals as goal

pub returns : goal.returns
returns c =
    let whole : c.args.nodes - 0 ≡ c.args.nodes = omega arith in
    items_from_collect c.collect.result c.collect.ensures.ran (YieldsList-from_range 0 c.args.nodes c.args.nodes refl whole)
