use Rattle.std.proofs.Common.{◌≡◌, ◌+◌, ◌*◌, map, set, refl, sym, ◌∙◌, ap, subst}
use Rattle.std.proofs.lemmas.List.{map-set}
use Rattle.fab_tables.specs.LaneBytes.{lane_tables}
use Rattle.fab_tables.specs.LevelBytes.{level_of_byte}
use Rattle.fab_tables.specs.LaneTables.{LaneTables, AreLaneTables, with_level}
use Rattle.fab_tables.proofs.Rows.LaneSets.{level_set, level_set_kept}
use Rattle.fab_tables.proofs.lanes.Lanes.set_level.Goals as goal

pub invariant_of-self : goal.invariant_of-self
invariant_of-self c =
    let l : LaneTables = lane_tables c.self.inside in
    let at = c.in-Some.place * c.self.inside.switches + c.args.s.0 in
    let same : map level_of_byte (set c.self.inside.levels.items at c.byte_of.result) ≡ set l.levels at c.args.level
    = map-set level_of_byte c.self.inside.levels.items at c.byte_of.result ∙ ap (λ new. set l.levels at new) c.byte_of.ensures in
    subst (λ levels. AreLaneTables (record l { levels = levels })) (sym same) (level_set_kept l c.self.invariant at c.args.level c.requires.level)

pub returns-in-Some : goal.returns-in-Some
returns-in-Some c =
    let l : LaneTables = lane_tables c.self.inside in
    let at = c.in-Some.place * c.self.inside.switches + c.args.s.0 in
    let same : map level_of_byte (set c.self.inside.levels.items at c.byte_of.result) ≡ set l.levels at c.args.level
    = map-set level_of_byte c.self.inside.levels.items at c.byte_of.result ∙ ap (λ new. set l.levels at new) c.byte_of.ensures in
    ap (λ levels. record l { levels = levels }) same ∙ level_set l c.args.s.0 c.args.lid.0 c.in-Some.place at c.args.level c.in-Some.ensures.place refl
    ∙ ap (λ l'. with_level l' c.args.s.0 c.args.lid.0 c.args.level) c.self.view_is
