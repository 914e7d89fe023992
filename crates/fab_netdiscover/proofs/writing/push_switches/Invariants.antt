use Rattle.std.proofs.Common.{◌≡◌, ◌++◌, take}
use Rattle.std.specs.List.{flat_map, enumerate_from}
use Rattle.fab_netdiscover.specs.Writing.{switch_text}
use Rattle.fab_netdiscover.proofs.writing.push_switches.Given as goal

abbrev pub invariant-loop-switch : goal.invariant-loop-switch
invariant-loop-switch l = l.text.items ≡ l.initial.text.items ++ flat_map (switch_text l.fabric) (take l.switch (enumerate_from 0 l.fabric.switches))
