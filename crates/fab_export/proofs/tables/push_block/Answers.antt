use Rattle.std.proofs.Common.{◌<◌, length, subst, sym}
use Rattle.fab_model.specs.Topology.{Topology, lids_of}
use Rattle.fab_dump.proofs.Writing.Rows.{some_lid}
use Rattle.fab_export.proofs.tables.push_block.Goals as goal

pub push_table_head-requires : goal.push_table_head-requires
push_table_head-requires c = subst (λ (t : Topology). 0 < length (lids_of t)) (sym c.fabric-fabric.ensures.fabric) (some_lid c.args.reached.now.fabric c.args.switch.0 c.requires)
