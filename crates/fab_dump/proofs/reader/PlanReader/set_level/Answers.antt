use Rattle.std.proofs.Common.{None, arith}
use Rattle.fab_model.specs.Topology.{lids_of}
use Rattle.fab_model.proofs.LidsInUse.{as_many, contains_lid}
use Rattle.fab_dump.specs.declared.form.Block.TheVariants.{Levels}
use Rattle.fab_dump.specs.Given.Given.{Level}
use Rattle.fab_dump.proofs.Reading.AfterRows.{tells_levels, after_value_at}
use Rattle.fab_dump.proofs.Reading.ShortRows.{lanes_contain}
use Rattle.fab_dump.proofs.reader.PlanReader.set_level.Goals as goal

pub returns-clause-stands : goal.returns-clause-stands
returns-clause-stands c =
    after_value_at c.args.self.now (Levels c.args.switch) (Level c.args.switch.0) None (tells_levels (lids_of c.args.self.now.fabric.now) c.args.switch) c.requires.block c.requires.fits c.lids_in_use.result.now _ c.args.level c.args.place c.give_level.new.plan c.lids_in_use.ensures.lids c.requires.within c.give_level.ensures

pub give_level-requires-clause-in_use : goal.give_level-requires-clause-in_use
give_level-requires-clause-in_use c =
    lanes_contain c.args.self.now.fabric.now c.args.self.now.plan.lanes _
    (contains_lid c.lids_in_use.result.now (lids_of c.args.self.now.fabric.now) c.lids_in_use.ensures.lids c.args.place _
    (omega (arith, as_many c.lids_in_use.result.now (lids_of c.args.self.now.fabric.now) c.lids_in_use.ensures.lids, c.requires.within))) c.requires.fits.plan.lanes
