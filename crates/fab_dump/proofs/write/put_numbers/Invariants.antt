use Rattle.std.proofs.Common.{take, Ok}
use Rattle.std.specs.List.{flat_map, enumerate_from}
use Rattle.fab_dump.specs.Writing.{PutsText, lines_text, number_lines}
use Rattle.fab_dump.proofs.write.put_numbers.Given as goal

abbrev pub invariant-loop-channel : goal.invariant-loop-channel
invariant-loop-channel g l =
    PutsText (lines_text (flat_map (number_lines l.fabric l.lanes) (take l.channel (enumerate_from 0 l.fabric.channels)))) (g.S.Sink.told l.initial.sink) (g.S.Sink.told l.sink) (g.S.Sink.faults l.initial.sink) (g.S.Sink.faults l.sink) (Ok tt)
