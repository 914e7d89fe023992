use Rattle.std.proofs.Common.{arith}
use Rattle.fab_netdiscover.specs.Writing.{adapter_text}
use Rattle.fab_netdiscover.proofs.NumberedRows.{row_added, all_rows}
use Rattle.fab_netdiscover.proofs.writing.push_adapters.Goals as goal

pub loop-adapter-preserved : goal.loop-adapter-preserved
loop-adapter-preserved c =
    row_added (adapter_text c.args.fabric.now) c.args.fabric.now.adapters c.args.text.now.items c.loop-adapter.text.items c.push_adapter.new.text.items c.loop-adapter.adapter (omega arith) c.loop-adapter.invariant c.in_ok-push_adapter.ensures

pub returns : goal.returns
returns c = all_rows (adapter_text c.args.fabric.now) c.args.fabric.now.adapters c.args.text.now.items c.loop-adapter.text.items c.loop-adapter.adapter (omega arith) c.loop-adapter.invariant
