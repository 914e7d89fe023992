use Rattle.fab_transit.specs.Changing.{standing_of}
use Rattle.fab_transit.proofs.Parts.{entries_answer}
use Rattle.fab_transit.proofs.walks.look.Goals as goal

pub returns : goal.returns
returns c =
    let g = c.args.plans.now in
    let p = c.args.packet in
    entries_answer c.look_at_entry-2.result g.fabric g.change p.lid.0 p.level (standing_of p.here) p.held
    c.args.found.now c.look_at_entry.new.found c.look_at_entry-2.new.found c.args.walks.now c.look_at_entry.new.walks c.look_at_entry-2.new.walks
    c.in_ok-look_at_entry.ensures c.look_at_entry-2.ensures
