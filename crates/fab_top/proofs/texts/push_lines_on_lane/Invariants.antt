use Rattle.std.proofs.Common.{◌≡◌, ◌++◌, flat_map, take}
use Rattle.fab_top.specs.Texts.{on_lane_line}
use Rattle.fab_top.proofs.texts.push_lines_on_lane.Given as goal

abbrev pub invariant-loop-node : goal.invariant-loop-node
invariant-loop-node l = l.to.items ≡ l.initial.to.items ++ flat_map (on_lane_line l.fabric l.lane) (take l.node-index l.ring)
