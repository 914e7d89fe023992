use Rattle.std.proofs.Common.{sym, subst, All, List, ℕ, ◌<◌}
use Rattle.std.proofs.lemmas.Result.{on_ok_weaker}
use Rattle.fab_export.proofs.LaneLines.{written_low, lane_lines_pushed}
use Rattle.fab_export.proofs.config.push_lanes.Goals as goal

pub lane_count-requires : goal.lane_count-requires
lane_count-requires c =
    subst (λ (lanes : List ℕ). All (λ n. n < 16) lanes) (sym (c.written_map_of-written.ensures c.args.reached.now.fabric c.args.reached.now.entries c.used_levels-used.ensures))
    (written_low c.args.reached.now.fabric c.args.reached.now.entries c.args.lanes.now c.requires.lanes.whole)

pub returns : goal.returns
returns c =
    let t = c.args.reached.now.fabric in
    let e = c.args.reached.now.entries in
    let used = c.used_levels-used.ensures in
    let written = c.written_map_of-written.ensures t e used in
    on_ok_weaker c.push_kinds.result
    (λ pushed. lane_lines_pushed t e c.args.lanes.now c.lane_count.result c.written_map_of-written.result c.args.text.now.items c.push.new.to.items c.push_kinds.new.text.items (c.lane_count.ensures t e c.args.lanes.now used written) written
    c.in_ok-push.ensures pushed) c.push_kinds.ensures
