use Rattle.std.proofs.Common.{Some, arith}
use Rattle.fab_text.specs.Fields.{fields, dec}
use Rattle.fab_model.specs.Topology.{lids_of}
use Rattle.fab_dump.specs.declared.fault.PlanFault.TheVariants.{BadRow}
use Rattle.fab_dump.specs.declared.form.Block.TheVariants.{Table}
use Rattle.fab_dump.specs.Given.Given.{Port}
use Rattle.fab_dump.proofs.Reading.AfterRows.{tells_ports}
use Rattle.fab_dump.proofs.Reading.LongBlocks.{long_twice, long_new}
use Rattle.fab_dump.proofs.reader.PlanReader.long_table_row.Goals as goal

pub returns-then-index : goal.returns-then-index
returns-then-index c = λ f s stands orderly. long_twice f s c.args.self.now stands (Table (Some c.args.switch)) (Port c.args.switch.0) 0 (tells_ports (lids_of c.args.self.now.fabric.now) c.args.switch) c.requires.block (BadRow c.args.line) c.args.line (dec 3 255) (fields c.args.bytes.now) c.of-fields.result c.row_at.new.fields c.in-Some.first c.in-Some.count
    c.in-Some-ports_left.ports c.index.result.now c.of-fields.ensures c.in-Some.ensures.row c.in-Some.ensures.rest c.in-Some-ports_left.ensures (omega arith) c.index.ensures c.if-index.true

pub returns : goal.returns
returns c = λ f s stands orderly. (
  _,
  long_new f s c.args.self.now stands (Table (Some c.args.switch)) (Port c.args.switch.0) 0 (tells_ports (lids_of c.args.self.now.fabric.now) c.args.switch) c.requires.block (BadRow c.args.line) c.args.line (dec 3 255) (fields c.args.bytes.now) c.of-fields.result c.row_at.new.fields c.in-Some.first c.in-Some.count
      c.in-Some-ports_left.ports c.index.result.now c.of-fields.ensures c.in-Some.ensures.row c.in-Some.ensures.rest c.in-Some-ports_left.ensures (omega arith) c.index.ensures c.if-index.false,
  c.set_ports.ensures f s stands,
)
