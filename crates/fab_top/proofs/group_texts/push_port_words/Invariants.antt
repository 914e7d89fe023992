use Rattle.std.proofs.Common.{◌≡◌, ◌++◌, flat_map, take}
use Rattle.fab_top.specs.GroupTexts.{port_word}
use Rattle.fab_top.proofs.group_texts.push_port_words.Given as goal

abbrev pub invariant-loop-port : goal.invariant-loop-port
invariant-loop-port l = l.to.items ≡ l.initial.to.items ++ flat_map port_word (take l.port-index l.ports)
