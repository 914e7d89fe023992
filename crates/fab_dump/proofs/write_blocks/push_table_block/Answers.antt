use Rattle.fab_dump.proofs.Writing.Rows.{some_lid}
use Rattle.fab_dump.proofs.write_blocks.push_table_block.Goals as goal

pub push_table_head-requires : goal.push_table_head-requires
push_table_head-requires c = some_lid c.args.fabric.now c.args.switch.0 c.requires.switch
