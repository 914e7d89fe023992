use Rattle.std.proofs.Common.{◌≡◌, ℕ, false, List, Option, sym, ◌∙◌, ap, Vec, Global}
use Rattle.fab_model.specs.Topology.{Topology, is_source}
use Rattle.fab_export.specs.ClassNumbers.{number_by}
use Rattle.fab_export.specs.Numberings.{least_of}
use Rattle.fab_export.proofs.NumberedClasses.{with_no_source}
use Rattle.fab_export.proofs.classes.Numbering.number_of.Goals as goal

items : Vec (Option ℕ) Global → List (Option ℕ)
items row = row.items

pub returns-then-not-has_terminal-clause-then : goal.returns-then-not-has_terminal-clause-then
unfolding items
returns-then-not-has_terminal-clause-then c =
    let t = c.args.reached.now.fabric in
    let n = c.args.switch.0 in
    let before = c.args.self.now in
    let off : is_source t n ≡ false = sym (c.has_terminal.ensures ∙ ap (λ (fabric : Topology). is_source fabric n) c.fabric.ensures.fabric) ∙ c.if-not-has_terminal.true in
    with_no_source t c.args.reached.now.entries c.args.lanes.now items (number_by before.by_levels) n (least_of before) c.requires.so_far off
