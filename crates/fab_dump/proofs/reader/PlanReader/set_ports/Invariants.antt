use Rattle.std.proofs.Common.{◌≡◌, Some}
use Rattle.fab_dump.specs.declared.form.Block.TheVariants.{Table}
use Rattle.fab_dump.specs.Given.Given.{Port}
use Rattle.fab_dump.specs.Standing.{ReaderFits}
use Rattle.fab_dump.proofs.Reading.LongRows.{ToldSoFar}
use Rattle.fab_dump.proofs.reader.PlanReader.set_ports.Given as goal

abbrev pub invariant-loop-index : goal.invariant-loop-index
invariant-loop-index l = record {
  fits : ReaderFits l.self;
  fabric : l.self.fabric.now ≡ l.initial.self.fabric.now;
  block : l.self.block ≡ Table (Some l.switch);
  told : ToldSoFar l.initial.self l.self (Table (Some l.switch)) (Port l.switch.0) l.first l.ports l.index;
}
