use Rattle.std.proofs.Common.{◌≡◌, ◌++◌, take}
use Rattle.std.specs.List.{flat_map, enumerate_from}
use Rattle.fab_netdiscover.specs.Writing.{adapter_text}
use Rattle.fab_netdiscover.proofs.writing.push_adapters.Given as goal

abbrev pub invariant-loop-adapter : goal.invariant-loop-adapter
invariant-loop-adapter l = l.text.items ≡ l.initial.text.items ++ flat_map (adapter_text l.fabric) (take l.adapter (enumerate_from 0 l.fabric.adapters))
