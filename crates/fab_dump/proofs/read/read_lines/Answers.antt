use Rattle.std.proofs.Common.{◌∙◌, sym, ap, arith, Ok}
use Rattle.fab_tables.specs.declared.plan.Plan.{Plan}
use Rattle.fab_dump.proofs.Reading.PlanRead.{at_start, went_on, ended, refused, dump_ended, no_end}
use Rattle.fab_dump.proofs.read.read_lines.Goals as goal

pub loop-found-init : goal.loop-found-init
loop-found-init c = record {
  within = c.requires.from;
  few = c.requires.line;
  reads = λ t f s stands orderly. at_start t f c.args.text.now c.args.from c.args.line c.args.reader s stands orderly;
}

pub loop-found-preserved : goal.loop-found-preserved
loop-found-preserved c = record {
  within = c.in-Some.ensures.within.next;
  few = omega (arith, c.loop-found.invariant.few, c.in-Some.ensures.within.later);
  reads = λ t f s stands orderly.
      let before = c.loop-found.invariant.reads t f s stands orderly in
      went_on f c.args.text.now c.loop-found.from c.loop-found.line c.loop-found.reader _ before c.in-Some.found c.in-Some.ensures.line c.line.new.self c.in-Ok-Goes.field-0 c.in-Ok-Goes.field-0-is
      (c.in-Ok-Goes.ensures f before.read before.stands before.orderly);
}

pub returns-in-Ok-Ends-clause-exact : goal.returns-in-Ok-Ends-clause-exact
returns-in-Ok-Ends-clause-exact c = λ t f s stands orderly.
    let before = c.loop-found.invariant.reads t f s stands orderly in
    ended f c.args.text.now c.loop-found.from c.loop-found.line c.loop-found.reader _ before c.in-Some.found c.in-Some.ensures.line c.line.new.self c.in-Ok-Ends.field-0 c.in-Ok-Ends.field-0-is
    (c.in-Ok-Ends.ensures f before.read before.stands before.orderly)
    ∙ ap (λ (p : Plan). Ok p) (sym c.into_plan.ensures)

pub returns-in-Err-clause-exact : goal.returns-in-Err-clause-exact
returns-in-Err-clause-exact c = λ t f s stands orderly.
    let before = c.loop-found.invariant.reads t f s stands orderly in
    refused f c.args.text.now c.loop-found.from c.loop-found.line c.loop-found.reader _ before c.in-Some.found c.in-Some.ensures.line c.in-Err.why
    (c.in-Err.ensures f before.read before.stands before.orderly)

pub returns-then-is_dump-clause-exact : goal.returns-then-is_dump-clause-exact
returns-then-is_dump-clause-exact c = λ t f s stands orderly.
    let before = c.loop-found.invariant.reads t f s stands orderly in
    dump_ended f c.args.text.now c.loop-found.from c.loop-found.line c.loop-found.reader _ before (sym c.in_default.is ∙ c.next_line.ensures.line) (sym c.is_dump.ensures ∙ c.if-is_dump.true)
    ∙ ap (λ (p : Plan). Ok p) (sym c.into_plan-then-is_dump.ensures)

pub returns-else-is_dump-clause-exact : goal.returns-else-is_dump-clause-exact
returns-else-is_dump-clause-exact c = λ t f s stands orderly.
    let before = c.loop-found.invariant.reads t f s stands orderly in
    no_end f c.args.text.now c.loop-found.from c.loop-found.line c.loop-found.reader _ before (sym c.in_default.is ∙ c.next_line.ensures.line) (sym c.is_dump.ensures ∙ c.if-is_dump.false)
