use Rattle.std.proofs.Common.{ℕ, List, [], Option, None, Some, length, sym, ap, subst}
use Rattle.std.specs.Prelude.{IfOk, option_copied}
use Rattle.fab_tables.specs.declared.plan.Plan.{Plan}
use Rattle.fab_sssp.specs.WeightTables.{WeightTable}
use Rattle.fab_nue.specs.LidsKept.{KeepsLids}
use Rattle.fab_nue.proofs.Plans.WholePlan.{keeps_none}
use Rattle.fab_nue.proofs.nue_plan.keep_old.Goals as goal

pub returns-in-Some-clause-kept : goal.returns-in-Some-clause-kept
returns-in-Some-clause-kept g c =
    let R : Option Plan → Type 0 = λ o. IfOk c.keep_lids.result (λ kept. KeepsLids c.args.fabric.now (length c.args.used.now) o kept c.args.used.now c.keep_lids.new.tables c.keep_lids.new.weights c.keep_lids.new.used) in
    subst R (sym (ap (λ o. option_copied o) c.in-Some.is)) c.keep_lids.ensures.kept

pub returns-in-None-clause-kept : goal.returns-in-None-clause-kept
returns-in-None-clause-kept g c =
    let t = c.args.fabric.now in
    let u = c.args.used.now in
    let e = c.args.tables.now in
    let P : Option Plan → Type 0 = λ o. KeepsLids t (length u) o c.new.result u e c.args.weights.now u in
    let Q : List ℕ → Type 0 = λ ks. KeepsLids t (length u) None ks u e c.args.weights.now u in
    let R : WeightTable → Type 0 = λ w. KeepsLids t (length u) None [] u e w u in
    subst P (sym (ap (λ o. option_copied o) c.in-None.is)) (subst Q (sym c.new.ensures) (subst R (sym c.requires.weights) (keeps_none t (length u) u e c.requires.fabric c.requires.tables)))
