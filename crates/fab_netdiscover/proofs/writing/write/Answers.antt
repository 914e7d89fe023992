use Rattle.fab_netdiscover.proofs.WrittenFabric.{written_whole, text_again}
use Rattle.fab_netdiscover.proofs.writing.write.Goals as goal

pub returns-clause-again : goal.returns-clause-again
returns-clause-again c =
    text_again c.args.fabric.now c.push_adapters.new.text.items c.push_switches.ensures.kept
    (written_whole c.args.fabric.now _ c.push_switches.new.text.items c.push_adapters.new.text.items c.new-text.ensures.items c.in_ok-push_switches.ensures.ok c.in_ok-push_adapters.ensures)
