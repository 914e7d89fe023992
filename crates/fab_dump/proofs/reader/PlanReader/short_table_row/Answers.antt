use Rattle.std.proofs.Common.{Some, sym, ap, ◌∙◌}
use Rattle.fab_model.specs.Topology.{lids_of}
use Rattle.fab_tables.specs.Entries.{index_of}
use Rattle.fab_dump.specs.declared.fault.PlanFault.TheVariants.{BadRow}
use Rattle.fab_dump.specs.declared.form.Block.TheVariants.{Table}
use Rattle.fab_dump.specs.Given.Given.{Port}
use Rattle.fab_dump.specs.Lines.Next.{Goes}
use Rattle.fab_dump.proofs.Reading.AfterRows.{tells_ports}
use Rattle.fab_dump.proofs.Reading.ShortRows.{short_twice, short_goes, has_place}
use Rattle.fab_dump.proofs.reader.PlanReader.short_table_row.Goals as goal

pub returns-then-index : goal.returns-then-index
returns-then-index c = λ f s stands orderly. short_twice f s c.args.self.now stands (Table (Some c.args.switch)) (Port c.args.switch.0) 0 (tells_ports (lids_of c.args.self.now.fabric.now) c.args.switch) c.requires.block (BadRow c.args.line) (Goes s) c.args.line c.in-Some.lid c.in-Some.port c.in-Some-place.place _ c.index.result.now c.in-Some.ensures
    c.in-Some-place.ensures.place c.in-Some-place.ensures.within c.index.ensures c.if-index.true

pub returns : goal.returns
returns c = λ f s stands orderly. short_goes f s c.args.self.now stands (Table (Some c.args.switch)) (Port c.args.switch.0) 0 (tells_ports (lids_of c.args.self.now.fabric.now) c.args.switch) c.requires.block (BadRow c.args.line) (Goes s) c.args.line c.in-Some.lid c.in-Some.port c.in-Some-place.place _ c.index.result.now c.in-Some.ensures
    c.in-Some-place.ensures.place c.in-Some-place.ensures.within c.index.ensures c.if-index.false c.give_port.new.plan c.give_port.ensures

pub give_port-requires-clause-in_use : goal.give_port-requires-clause-in_use
give_port-requires-clause-in_use c =
    has_place c.args.self.now.plan.tables.in_use c.in-Some.lid c.in-Some-place.place (ap (index_of c.in-Some.lid) (c.requires.fits.plan.in_use ∙ sym c.requires.fits.lids) ∙ sym c.in-Some-place.ensures.place)
