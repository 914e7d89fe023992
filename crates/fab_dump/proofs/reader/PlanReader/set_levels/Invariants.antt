use Rattle.std.proofs.Common.{◌≡◌}
use Rattle.fab_dump.specs.declared.form.Block.TheVariants.{Levels}
use Rattle.fab_dump.specs.Given.Given.{Level}
use Rattle.fab_dump.specs.Standing.{ReaderFits}
use Rattle.fab_dump.proofs.Reading.LongRows.{ToldSoFar}
use Rattle.fab_dump.proofs.reader.PlanReader.set_levels.Given as goal

abbrev pub invariant-loop-index : goal.invariant-loop-index
invariant-loop-index l = record {
  fits : ReaderFits l.self;
  fabric : l.self.fabric.now ≡ l.initial.self.fabric.now;
  block : l.self.block ≡ Levels l.switch;
  told : ToldSoFar l.initial.self l.self (Levels l.switch) (Level l.switch.0) l.first l.levels l.index;
}
