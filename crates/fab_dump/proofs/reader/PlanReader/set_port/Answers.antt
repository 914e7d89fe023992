use Rattle.std.proofs.Common.{Some, sym, ◌∙◌, arith}
use Rattle.fab_model.specs.Topology.{lids_of}
use Rattle.fab_model.proofs.LidsInUse.{as_many, contains_lid}
use Rattle.fab_dump.specs.declared.form.Block.TheVariants.{Table}
use Rattle.fab_dump.specs.Given.Given.{Port}
use Rattle.fab_dump.proofs.Reading.AfterRows.{tells_ports, after_value_at}
use Rattle.fab_dump.proofs.reader.PlanReader.set_port.Goals as goal

pub returns-clause-stands : goal.returns-clause-stands
returns-clause-stands c =
    after_value_at c.args.self.now (Table (Some c.args.switch)) (Port c.args.switch.0) 0 (tells_ports (lids_of c.args.self.now.fabric.now) c.args.switch) c.requires.block c.requires.fits c.lids_in_use.result.now _ c.args.port c.args.place c.give_port.new.plan c.lids_in_use.ensures.lids c.requires.within c.give_port.ensures

pub give_port-requires-clause-in_use : goal.give_port-requires-clause-in_use
give_port-requires-clause-in_use c =
    contains_lid c.lids_in_use.result.now c.args.self.now.plan.tables.in_use (c.lids_in_use.ensures.lids ∙ sym c.requires.fits.plan.in_use) c.args.place _
    (omega (arith, as_many c.lids_in_use.result.now (lids_of c.args.self.now.fabric.now) c.lids_in_use.ensures.lids, c.requires.within))
