use Rattle.std.proofs.Common.{None, sym, ap, ◌∙◌}
use Rattle.fab_model.specs.Topology.{lids_of}
use Rattle.fab_tables.specs.Entries.{index_of}
use Rattle.fab_dump.specs.declared.fault.PlanFault.TheVariants.{BadLevelRow}
use Rattle.fab_dump.specs.declared.form.Block.TheVariants.{Levels}
use Rattle.fab_dump.specs.Given.Given.{Level}
use Rattle.fab_dump.specs.Lines.Next.{Fails}
use Rattle.fab_dump.proofs.Reading.AfterRows.{tells_levels}
use Rattle.fab_dump.proofs.Reading.ShortRows.{short_twice, short_goes, lanes_contain, has_place}
use Rattle.fab_dump.proofs.reader.PlanReader.short_level_row.Goals as goal

pub returns-then-index : goal.returns-then-index
returns-then-index c = λ f s stands orderly. short_twice f s c.args.self.now stands (Levels c.args.switch) (Level c.args.switch.0) None (tells_levels (lids_of c.args.self.now.fabric.now) c.args.switch) c.requires.block (BadLevelRow c.args.line) (Fails (BadLevelRow c.args.line)) c.args.line c.in-Some.lid c.in-Some.level c.in-Some-place.place _ c.index.result.now c.in-Some.ensures.row
    c.in-Some-place.ensures.place c.in-Some-place.ensures.within c.index.ensures c.if-index.true

pub returns : goal.returns
returns c = λ f s stands orderly. short_goes f s c.args.self.now stands (Levels c.args.switch) (Level c.args.switch.0) None (tells_levels (lids_of c.args.self.now.fabric.now) c.args.switch) c.requires.block (BadLevelRow c.args.line) (Fails (BadLevelRow c.args.line)) c.args.line c.in-Some.lid c.in-Some.level c.in-Some-place.place _ c.index.result.now c.in-Some.ensures.row
    c.in-Some-place.ensures.place c.in-Some-place.ensures.within c.index.ensures c.if-index.false c.give_level.new.plan c.give_level.ensures

pub give_level-requires-clause-in_use : goal.give_level-requires-clause-in_use
give_level-requires-clause-in_use c =
    lanes_contain c.args.self.now.fabric.now c.args.self.now.plan.lanes c.in-Some.lid
    (has_place (lids_of c.args.self.now.fabric.now) c.in-Some.lid c.in-Some-place.place (ap (index_of c.in-Some.lid) (sym c.requires.fits.lids) ∙ sym c.in-Some-place.ensures.place)) c.requires.fits.plan.lanes
