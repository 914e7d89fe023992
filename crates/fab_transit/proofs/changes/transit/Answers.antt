use Rattle.fab_transit.specs.Changing.{Changing}
use Rattle.fab_transit.proofs.FoundFaults.{noted_answers, same_answer, no_fault}
use Rattle.fab_transit.proofs.Seeing.{are_dependencies}
use Rattle.fab_transit.proofs.Safety.{safe_answer}
use Rattle.fab_transit.proofs.changes.transit.Goals as goal

pub returns-in-Some-fault-clause-answer : goal.returns-in-Some-fault-clause-answer
returns-in-Some-fault-clause-answer c =
    noted_answers c.new-plans.result (record { fabric = c.args.fabric.now; change = record { before = c.args.old.now; after = c.args.new.now } }) c.new-plans.ensures c.in_ok-walks.walks c.in_default.ensures c.in_ok-walks.ensures
    c.in-Some-fault.fault c.in-Some-fault.is c.answer.result c.answer.ensures

pub numbered-requires-clause-none : goal.numbered-requires-clause-none
numbered-requires-clause-none c = no_fault c.new-plans.result.fabric c.new-plans.result.change c.in_ok-walks.walks c.in_default.ensures c.in_ok-walks.ensures c.in-None.is

pub numbered-requires-clause-are : goal.numbered-requires-clause-are
numbered-requires-clause-are c = are_dependencies c.new-plans.result.fabric c.new-plans.result.change c.in_ok-walks.walks c.in_ok-walks.ensures

pub returns-clause-safe : goal.returns-clause-safe
returns-clause-safe c =
    let h : Changing = record { fabric = c.args.fabric.now; change = record { before = c.args.old.now; after = c.args.new.now } } in
    safe_answer h.fabric h.change c.numbered.result (same_answer c.new-plans.result h c.new-plans.ensures c.numbered.result c.numbered.ensures)
