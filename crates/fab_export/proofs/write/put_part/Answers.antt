use Rattle.std.proofs.Common.{◌≡◌, ℕ, List, [], ◌++◌, ◌∙◌, ap, sym, subst}
use Rattle.std.specs.Option.{option_map_or}
use Rattle.fab_dump.specs.Writing as writing
use Rattle.fab_export.specs.ConfigText.{routing_lines, lane_lines}
use Rattle.fab_export.specs.LevelsText.{levels_text}
use Rattle.fab_export.specs.Parts.{part_text}
use Rattle.fab_export.proofs.write.put_part.Goals as goal

pub returns-in-Some : goal.returns-in-Some
returns-in-Some g c =
    let t = c.args.reached.now.fabric in
    let p = c.args.plan.now in
    let same : levels_text t c.args.reached.now.entries c.in-Some.lanes ≡ part_text c.args.part t p
    = ap (λ e. levels_text t e c.in-Some.lanes) c.requires.tables ∙ sym (ap (λ o. option_map_or (levels_text t p.tables) o []) c.in-Some.is) ∙ sym (ap (λ part. part_text part t p) c.in-Levels.is) in
    subst (λ (text : List ℕ). writing.PutsText text (g.S.Sink.told c.args.sink.now) (g.S.Sink.told c.write_levels.new.sink) (g.S.Sink.faults c.args.sink.now) (g.S.Sink.faults c.write_levels.new.sink) c.write_levels.result) same
    c.write_levels.ensures

pub returns-in-Config : goal.returns-in-Config
returns-in-Config g c =
    let t = c.args.reached.now.fabric in
    let p = c.args.plan.now in
    let same : writing.lines_text (routing_lines ++ lane_lines t c.args.reached.now.entries p.lanes) ≡ part_text c.args.part t p
    = ap (λ e. writing.lines_text (routing_lines ++ lane_lines t e p.lanes)) c.requires.tables ∙ sym (ap (λ part. part_text part t p) c.in-Config.is) in
    subst (λ (text : List ℕ). writing.PutsText text (g.S.Sink.told c.args.sink.now) (g.S.Sink.told c.write_config.new.sink) (g.S.Sink.faults c.args.sink.now) (g.S.Sink.faults c.write_config.new.sink) c.write_config.result)
    (ap (λ lanes. writing.lines_text (routing_lines ++ lane_lines t c.args.reached.now.entries lanes)) c.as_ref.ensures.value ∙ same) c.write_config.ensures
