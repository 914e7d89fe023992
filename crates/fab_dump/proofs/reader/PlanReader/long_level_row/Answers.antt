use Rattle.std.proofs.Common.{None, arith}
use Rattle.fab_text.specs.Fields.{fields}
use Rattle.fab_model.specs.Topology.{lids_of}
use Rattle.fab_dump.specs.declared.fault.PlanFault.TheVariants.{BadLevelRow}
use Rattle.fab_dump.specs.declared.form.Block.TheVariants.{Levels}
use Rattle.fab_dump.specs.Given.Given.{Level}
use Rattle.fab_dump.specs.Lines.{level_field}
use Rattle.fab_dump.proofs.Reading.AfterRows.{tells_levels}
use Rattle.fab_dump.proofs.Reading.LongBlocks.{long_twice, long_new}
use Rattle.fab_dump.proofs.reader.PlanReader.long_level_row.Goals as goal

pub returns-then-index : goal.returns-then-index
returns-then-index c = λ f s stands orderly. long_twice f s c.args.self.now stands (Levels c.args.switch) (Level c.args.switch.0) None (tells_levels (lids_of c.args.self.now.fabric.now) c.args.switch) c.requires.block (BadLevelRow c.args.line) c.args.line level_field (fields c.args.bytes.now) c.of-fields.result c.row_at.new.fields c.in-Some.first c.in-Some.count
    c.in-Some-levels_left.levels c.index.result.now c.of-fields.ensures c.in-Some.ensures.row c.in-Some.ensures.rest c.in-Some-levels_left.ensures.values (omega arith) c.index.ensures c.if-index.true

pub returns : goal.returns
returns c = λ f s stands orderly. (
  _,
  long_new f s c.args.self.now stands (Levels c.args.switch) (Level c.args.switch.0) None (tells_levels (lids_of c.args.self.now.fabric.now) c.args.switch) c.requires.block (BadLevelRow c.args.line) c.args.line level_field (fields c.args.bytes.now) c.of-fields.result c.row_at.new.fields c.in-Some.first c.in-Some.count
      c.in-Some-levels_left.levels c.index.result.now c.of-fields.ensures c.in-Some.ensures.row c.in-Some.ensures.rest c.in-Some-levels_left.ensures.values (omega arith) c.index.ensures c.if-index.false,
  c.set_levels.ensures f s stands,
)
