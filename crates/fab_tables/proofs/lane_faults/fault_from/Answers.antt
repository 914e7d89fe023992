use Rattle.std.proofs.Common.{◌≡◌, ◌<◌, Some, [], sym, ◌∙◌}
use Rattle.std.proofs.lemmas.List.{nil_from_length}
use Rattle.fab_tables.specs.LaneTables.{level}
use Rattle.fab_tables.proofs.Rows.LevelsLow.{level_low}
use Rattle.fab_tables.proofs.Faults.HopFaults.{right_clear}
use Rattle.fab_tables.proofs.Faults.Judged.{plain_right}
use Rattle.fab_tables.proofs.lane_faults.fault_from.Goals as goal

-- without maps of pairs all hops from a marked switch are right
pub returns-then-is_marked-clause-hops : goal.returns-then-is_marked-clause-hops
returns-then-is_marked-clause-hops c some =
    let t = c.args.fabric.now in
    let e = c.args.tables.now in
    let l = c.args.lanes.now in
    let lid = c.args.lid in
    let start = c.args.start in
    let has_level : level l start.switch.0 lid.0 ≡ Some c.in-Some.level = sym c.level.ensures ∙ c.in-Some.is in
    let low : c.in-Some.level < 16 = level_low l start.switch.0 lid.0 c.in-Some.level c.requires.lanes.whole has_level in
    let plain : l.pairs ≡ [] = nil_from_length l.pairs (sym c.pairs.ensures ∙ c.if-pairs-eq0.true) in
    right_clear c.args.faults t e l lid start c.in-Some.level
    (record { toward = c.requires.toward; lanes = c.requires.lanes; terminal = c.requires.terminal; connected = c.requires.connected; has_level = has_level })
    (plain_right c.args.faults t e l lid.0 start.switch.0 c.in-Some.level plain (c.requires.judged.right start.switch.0 c.in-Some.level low (sym c.is_marked.ensures ∙ c.if-is_marked.true)) start.port)
