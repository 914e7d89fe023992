use Rattle.std.proofs.Common.{ap, List, ℕ}
use Rattle.fab_dump.specs.Writing.{plan_text}
use Rattle.fab_top.proofs.Repairing.{repair_found, repair_stops}
use Rattle.fab_top.proofs.commands.failed_cables.repaired_plan.Goals as goal

pub returns-in_err-made : goal.returns-in_err-made
returns-in_err-made c = repair_stops c.args.name.now c.args.fabric.now c.args.plan.now c.args.cables.now c.args.lanes _ _ c.in_err-made.ensures.taken c.from_residual.ensures.1

pub returns : goal.returns
returns c =
    repair_found c.args.name.now c.args.fabric.now c.args.plan.now c.args.cables.now c.args.lanes c.in_ok-made.made _ c.requires.fabric c.in_ok-made.ensures.taken c.in_ok-made.ensures.plan c.in_ok-made.ensures.fits
    (ap (λ (err : List ℕ). record { status = 0; out = plan_text c.in_ok-made.made.fabric c.in_ok-made.made.plan; err = err }) c.in_ok-kept.ensures)
