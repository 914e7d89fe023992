use Rattle.std.proofs.Common.{◌≡◌, ◌++◌, ◌∙◌, List, ℕ, ap}
use Rattle.std.specs.Prelude.{flat_map, slice_index}
use Rattle.fab_dump.specs.Writing.{lines_text}
use Rattle.fab_export.specs.LevelsText.{rule_lines}
use Rattle.fab_export.specs.Policies.{class_rules}
use Rattle.fab_export.specs.SourceLevels.{levels_of}
use Rattle.fab_export.proofs.ClassRows.{least_below, rules_there}
use Rattle.fab_export.proofs.PartPuts.{pushed_put}
use Rattle.fab_export.proofs.levels.put_class_rules.Goals as goal

pub levels_of_source-requires-clause-source : goal.levels_of_source-requires-clause-source
levels_of_source-requires-clause-source g c =
    least_below c.args.reached.now.fabric c.args.reached.now.entries c.args.lanes.now c.args.classes.now c.requires.classes c.args.class c.least_source.result.0 c.requires.class c.least_source.ensures

pub returns : goal.returns
returns g c =
    let t = c.args.reached.now.fabric in
    let e = c.args.reached.now.entries in
    let l = c.args.lanes.now in
    let first = slice_index c.args.classes.now.least c.args.class in
    let is : c.deref.result.now ≡ levels_of t e l first = c.deref.ensures.value ∙ c.in_ok-row.ensures ∙ ap (levels_of t e l) c.least_source.ensures in
    pushed_put (lines_text (flat_map rule_lines (class_rules t e l (c.args.class, first)))) c.clear.new.self.items c.push_rules.new.text.items c.deref-2.result.now c.put.result c.clear.ensures.items
    (c.in_ok-push_rules.ensures ∙ ap (λ (lines : List (List ℕ)). c.clear.new.self.items ++ lines_text lines) (rules_there t e l first c.deref.result.now is c.args.class))
    c.deref-2.ensures.value c.put.ensures
