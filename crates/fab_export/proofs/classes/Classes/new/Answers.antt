use Rattle.std.proofs.Common.{◌≡◌, ℕ, List, length, Option, ap, subst, arith, Vec, Global}
use Rattle.fab_model.specs.Topology.{Topology}
use Rattle.fab_export.specs.ClassNumbers.{number_by, IsNumbering}
use Rattle.fab_export.specs.Numberings.{least_of}
use Rattle.fab_export.proofs.NumberedClasses.{AreNumbers, number_more, are_classes}
use Rattle.fab_export.proofs.classes.Classes.new.Goals as goal

items : Vec (Option ℕ) Global → List (Option ℕ)
items row = row.items

pub loop-switch-preserved : goal.loop-switch-preserved
loop-switch-preserved c =
    let t = c.args.reached.now.fabric in
    let e = c.args.reached.now.entries in
    let l = c.args.lanes.now in
    let n = c.loop-switch.switch in
    let before = c.loop-switch.numbering in
    let after = c.number_of.new.self in
    let told = c.in_ok-number_of.ensures in
    record {
      numbering = told.then;
      numbers = number_more t e l (least_of before) (least_of after) c.loop-switch.numbers.items c.push.new.self.items n c.in_ok-number_of.field-0 c.in_ok-push.ensures.items c.loop-switch.invariant.numbers told.kept told.number;
    }

pub returns : goal.returns
unfolding items
returns c =
    let t = c.args.reached.now.fabric in
    let e = c.args.reached.now.entries in
    let l = c.args.lanes.now in
    let numbering = c.loop-switch.numbering in
    let last : c.loop-switch.switch ≡ length t.switches = omega (arith, ap (λ (fabric : Topology). length fabric.switches) c.fabric.ensures.fabric) in
    are_classes t e l items (number_by numbering.by_levels) (record { least = least_of numbering; numbers = c.loop-switch.numbers.items })
    (subst (λ (n : ℕ). IsNumbering t e l n (least_of numbering) items (number_by numbering.by_levels)) last c.loop-switch.invariant.numbering)
    (subst (λ (n : ℕ). AreNumbers t e l (least_of numbering) c.loop-switch.numbers.items n) last c.loop-switch.invariant.numbers)
