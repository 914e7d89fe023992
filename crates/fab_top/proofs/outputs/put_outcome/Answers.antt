use Rattle.std.proofs.Common.{sym, subst}
use Rattle.std.specs.Prelude.{List, ℕ}
use Rattle.fab_dump.specs.Writing.{plan_text}
use Rattle.fab_top.specs.declared.outcome.Outcome.{Outcome}
use Rattle.fab_top.specs.Outcomes.{answer_of}
use Rattle.fab_top.specs.Outputs.{Output, PutsBoth, PutsAnswer}
use Rattle.fab_top.proofs.outputs.put_outcome.Goals as goal

pub returns-in-Planned : goal.returns-in-Planned
returns-in-Planned g c =
    let out : Output
    = record { told_before = g.O.Sink.told c.args.out.now; told_now = g.O.Sink.told c.put_plan.new.out; faults_before = g.O.Sink.faults c.args.out.now; faults_now = g.O.Sink.faults c.put_plan.new.out } in
    let err : Output
    = record { told_before = g.E.Sink.told c.args.err.now; told_now = g.E.Sink.told c.put_plan.new.err; faults_before = g.E.Sink.faults c.args.err.now; faults_now = g.E.Sink.faults c.put_plan.new.err } in
    subst (λ (o : Outcome). PutsAnswer (answer_of o).status (answer_of o).out (answer_of o).err out err c.status_after.result) (sym c.in-Planned.is) (
      c.put_plan.result,
      subst (λ (text : List ℕ). PutsBoth (plan_text c.in-Planned.fabric c.in-Planned.plan) text out err c.put_plan.result) c.deref-in-Planned.ensures.value c.put_plan.ensures,
      c.status_after.ensures,
    )

pub returns-in-Exported : goal.returns-in-Exported
returns-in-Exported g c =
    let out : Output
    = record { told_before = g.O.Sink.told c.args.out.now; told_now = g.O.Sink.told c.put_part.new.out; faults_before = g.O.Sink.faults c.args.out.now; faults_now = g.O.Sink.faults c.put_part.new.out } in
    let err : Output
    = record { told_before = g.E.Sink.told c.args.err.now; told_now = g.E.Sink.told c.put_part.new.err; faults_before = g.E.Sink.faults c.args.err.now; faults_now = g.E.Sink.faults c.put_part.new.err } in
    subst (λ (o : Outcome). PutsAnswer (answer_of o).status (answer_of o).out (answer_of o).err out err c.status_after-in-Exported.result) (sym c.in-Exported.is) (c.put_part.result, c.put_part.ensures, c.status_after-in-Exported.ensures)
