use Rattle.std.proofs.Common.{◌∙◌, refl}
use Rattle.fab_nue.proofs.Lanes.LaneLists.{channels_at, tried}
use Rattle.fab_nue.proofs.arenas.try_tree.Goals as goal

pub add_tree-requires-clause-channels : goal.add_tree-requires-clause-channels
add_tree-requires-clause-channels g c =
    c.reserve.ensures.channels ∙ channels_at c.args.fabric.now c.args.used.now c.args.lane c.lane_mut-arena.result.now c.requires.channels c.lane_mut-arena.ensures.value

pub returns : goal.returns
returns g c =
    tried c.args.fabric.now c.args.tree.now c.args.lane c.args.used.now _ c.lane_mut-arena.result.now c.reserve.new.self c.add_tree.new.used c.add_tree.result c.lane_mut-arena.ensures.value refl
    c.reserve.ensures.listed c.reserve.ensures.channels c.add_tree.ensures.channels c.requires.tree.each_switch c.add_tree.ensures.added c.add_tree.ensures.closes_none c.add_tree.ensures.closes c.add_tree.ensures.listed
